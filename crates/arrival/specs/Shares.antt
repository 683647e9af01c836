-- The memory of a run in the code's arrays: a share of 512 entries in each store array for each join point, in block order; for each
-- block the node count plus 1 of what is stored there, or 0, and whether it was visited; a bit for each waiting block, by its rank.
use Rattle.std.specs.Prelude.{◌≡◌, Bool, true, false, not, List, ℕ, suc, ◌*◌, ◌-◌, ◌≤◌, ◌<◌, length, take, drop, set, replicate, eqb}
use Rattle.std.proofs.Math.Option.{Option, none, some}
use Rattle.moments.specs.Lent.{Lent, was, after}
use Rattle.model.specs.Words.{word}
use Rattle.model.specs.Tree.{Forest, sizes}
use Rattle.model.specs.State.{most, encode}
use Rattle.model.specs.Function.{nblocks, rank, local_types}
use Rattle.model.specs.Block.{is_join_point, join_points}
use Rattle.model.specs.Rounds.{elem}
use Rattle.laws.specs.Valid.{Valid}
use Rattle.blocks.specs.Points.{share_number}
use Rattle.queue.specs.Bits.{Four}
use Rattle.queue.specs.Waiting.{waiting}
use Rattle.arrival.specs.Memory.{Memory}

-- ONE SHARE

-- it has the state E, of k - 1 nodes
pub record Full (Γ locals fs ws : List ℕ) (k : ℕ) (E : Forest) : Type 0 where
  pub valid : Valid Γ locals E
  pub count : k ≡ suc (sizes E)
  pub forms : fs ≡ (encode Γ E).forms
  pub whats : ws ≡ (encode Γ E).whats

-- nothing is stored there
pub record Bare (fs ws : List ℕ) (k : ℕ) : Type 0 where
  pub count : k ≡ 0
  pub forms : fs ≡ replicate most 0
  pub whats : ws ≡ replicate most 0

abbrev pub Saved : (Γ locals fs ws : List ℕ) (k : ℕ) → Option Forest → Type 0
Saved Γ locals fs ws k none = Bare fs ws k
Saved Γ locals fs ws k (some E) = Full Γ locals fs ws k E

-- WHAT IS KEPT FOR EACH BLOCK, in one array of the run

-- the counts of what is stored
abbrev pub kept_in : List ℕ → List ℕ
kept_in memo = take 256 memo

-- which blocks were visited in this pass
abbrev pub visited_in : List ℕ → List ℕ
visited_in memo = take 256 (drop 256 memo)

-- the array has the words of block b
abbrev pub KeptFor : ℕ → List ℕ → Type 0
KeptFor b memo = (b < 256) × (512 ≤ length memo)

-- the count k is stored for the block b
pub record Stores (memo : List ℕ) (b k : ℕ) (memo' : List ℕ) : Type 0 where
  pub same : length memo' ≡ length memo
  pub kept : kept_in memo' ≡ set (kept_in memo) b k
  pub visited : visited_in memo' ≡ visited_in memo

-- the block b is visited
pub record Visited (memo : List ℕ) (b : ℕ) (memo' : List ℕ) : Type 0 where
  pub same : length memo' ≡ length memo
  pub kept : kept_in memo' ≡ kept_in memo
  pub visited : visited_in memo' ≡ set (visited_in memo) b 1

-- none is
pub record Unvisited (memo memo' : List ℕ) : Type 0 where
  pub same : length memo' ≡ length memo
  pub kept : kept_in memo' ≡ kept_in memo
  pub visited : visited_in memo' ≡ replicate 256 0

-- WHICH BLOCKS WAIT, as bits

-- the set of waiting blocks
abbrev pub waits_in : List ℕ → List ℕ → ℕ → Bool
waits_in fn bits = waiting (rank fn) (nblocks fn) bits

-- b is one of the function's blocks, and its rank has a bit: there are four words
abbrev pub BitFor : List ℕ → ℕ → List ℕ → Type 0
BitFor fn b bits = (b < nblocks fn) × Four bits

-- ALL ARRAYS

-- the numbers of the shares, of all blocks
pub record Shared (fn points : List ℕ) : Type 0 where
  pub long : nblocks fn ≤ length points
  pub numbers : (b : ℕ) → b < nblocks fn → word points b ≡ share_number fn b

pub record Arrays : Type 0 where
  pub kept : List ℕ
  pub visited : List ℕ
  pub waits : List ℕ
  pub forms : List ℕ
  pub whats : List ℕ

abbrev pub arrays : List ℕ → List ℕ → List ℕ → List ℕ → List ℕ → Arrays
arrays k v w fs ws = record { kept = k; visited = v; waits = w; forms = fs; whats = ws }

-- with what is kept for each block in one
abbrev pub arrays_in : List ℕ → List ℕ → List ℕ → List ℕ → Arrays
arrays_in memo w fs ws = arrays (kept_in memo) (visited_in memo) w fs ws

-- the arrays as they were lent, and as they are given back
pub record Change : Type 0 where
  pub before : Arrays
  pub behind : Arrays

abbrev pub change : Lent → Lent → Lent → Lent → Change
change memo w fs ws = record {
  before = arrays_in (was memo) (was w) (was fs) (was ws);
  behind = arrays_in (after memo) (after w) (after fs) (after ws);
}

-- as long as they have to be
pub record Long (fn : List ℕ) (a : Arrays) : Type 0 where
  pub kept : length a.kept ≡ 256
  pub visited : length a.visited ≡ 256
  pub waits : Four a.waits
  pub forms : most * join_points fn ≤ length a.forms
  pub whats : most * join_points fn ≤ length a.whats

-- all lengths are as they were
pub record Alike (a b : Arrays) : Type 0 where
  pub kept : length b.kept ≡ length a.kept
  pub visited : length b.visited ≡ length a.visited
  pub waits : length b.waits ≡ length a.waits
  pub forms : length b.forms ≡ length a.forms
  pub whats : length b.whats ≡ length a.whats

-- the share of number p, from 1 on
unfoldable pub share_of : List ℕ → ℕ → List ℕ
share_of l p = take most (drop (most * (p - 1)) l)

-- the shares are as in model's memory m; a block that is no join point has none, and nothing is stored for it
pub record Remembers (Γ fn : List ℕ) (m : Memory) (a : Arrays) : Type 0 where
  pub long : Long fn a
  pub saved : (b : ℕ) → b < nblocks fn → is_join_point fn b ≡ true
      → Saved Γ (local_types fn) (share_of a.forms (share_number fn b)) (share_of a.whats (share_number fn b)) (word a.kept b) (m.kept b)
  pub unsaved : (b : ℕ) → is_join_point fn b ≡ false → m.kept b ≡ none
  pub waits : (b : ℕ) → b < nblocks fn → m.waits b ≡ waits_in fn a.waits b
  pub visited : (b : ℕ) → b < nblocks fn → elem b m.visited ≡ not (eqb (word a.visited b) 0)
  -- past the shares the store is as it was lent: zeros
  pub forms_rest : drop (most * join_points fn) a.forms ≡ replicate (length a.forms - most * join_points fn) 0
  pub whats_rest : drop (most * join_points fn) a.whats ≡ replicate (length a.whats - most * join_points fn) 0
