-- What an arrival at a join point leaves in the share of the block that is lent, and in the buffer: in the first pass and in the second.
use Rattle.std.specs.Prelude.{◌≡◌, Bool, true, false, cond, List, ℕ, suc, ◌≤◌, ◌<◌, length, set, eqb, leb, Result, Ok}
use Rattle.std.proofs.Math.Option.{Option, none, some}
use Rattle.moments.specs.Lent.{Lent, was, after}
use Rattle.model.specs.Words.{word}
use Rattle.model.specs.Answer.{Answer, refused, done, require}
use Rattle.model.specs.Tree.{Forest, sizes, joins, flagss}
use Rattle.model.specs.State.{most}
use Rattle.model.specs.Place.{At}
use Rattle.model.specs.Collect.{collects}
use Rattle.model.specs.Function.{local_types}
use Rattle.model.specs.Block.{entry_point}
use Rattle.model.specs.Frame.{mark}
use Rattle.model.specs.Rounds.{put}
use Rattle.records.specs.Here.{Holds}
use Rattle.refusal.specs.Refusal.{answered}
use Rattle.refusal.specs.declared.Refusal.{Refusal}
use Rattle.state.specs.Value.{value}
use Rattle.state.specs.declared.nodes.State.{State}
use Rattle.statements.specs.Marked.{marked}
use Rattle.statements.specs.Kept.{Puts}
use Rattle.statements.specs.Points.{point}
use Rattle.statements.specs.declared.Out.{Out}
use Rattle.arrival.specs.Shares.{Full, Saved, kept_in, visited_in, waits_in}
use Rattle.arrival.specs.declared.jump.Jump.{Jump}

-- s is the state that stands in the share, whose count is k
abbrev pub Stands : ℕ → State → List ℕ → List ℕ → Type 0
Stands k s fs ws = (k ≡ suc s.nodes) × (fs ≡ s.forms) × (ws ≡ s.whats)

-- AN ARRIVAL IN THE FIRST PASS

-- what is stored where the state E arrives, and whether the block is to wait
unfoldable pub takes : List ℕ → Option Forest → Forest → Answer (Forest × Bool)
takes Γ none E = done (E, true)
takes Γ (some S) E = require (leb (sizes (joins Γ false S E)) most) 9 λ _. done (joins Γ false S E, (flagss Γ false S E).0)

-- so the share, its count and the waiting blocks are after it
pub record Took (Γ locals : List ℕ) (c : ℕ) (kept : List ℕ) (waits : ℕ → Bool) (w : Forest × Bool) (fs ws kept' : List ℕ) (waits' : ℕ → Bool) : Type 0 where
  pub full : Full Γ locals fs ws (word kept' c) w.0
  pub count : kept' ≡ cond w.1 (set kept c (suc (sizes w.0))) kept
  pub waiting : waits' ≡ cond w.1 (put waits c true) waits

-- r: 0, or the refusal
pub record Arrives (Γ locals : List ℕ) (c : ℕ) (kept : List ℕ) (waits : ℕ → Bool) (a : Answer (Forest × Bool)) (fs ws kept' : List ℕ) (waits' : ℕ → Bool) (r : ℕ) : Type 0 where
  pub denied : (n : ℕ) → a ≡ refused n → r ≡ n
  pub took : (w : Forest × Bool) → a ≡ done w → (r ≡ 0) × Took Γ locals c kept waits w fs ws kept' waits'

-- the lengths are as they were, and which blocks were visited
pub record Same (m m' w w' f f' g g' : List ℕ) : Type 0 where
  pub memo : length m' ≡ length m
  pub visited : visited_in m' ≡ visited_in m
  pub waits : length w' ≡ length w
  pub forms : length f' ≡ length f
  pub whats : length g' ≡ length g

abbrev pub Steady : (memo waits fs ws : Lent) → Type 0
Steady memo waits fs ws = Same (was memo) (after memo) (was waits) (after waits) (was fs) (after fs) (was ws) (after ws)

-- what `takes` gives of whatever is stored in the share and whatever state s is
abbrev pub Arriving : (Γ fn : List ℕ) (c : ℕ) → State → (memo waits fs ws : Lent) → ℕ → Type 0
Arriving Γ fn c s memo waits fs ws r = (k : Option Forest) (E : Forest)
    → Saved Γ (local_types fn) (was fs) (was ws) (word (kept_in (was memo)) c) k → Holds Γ (local_types fn) (value s) E
    → Arrives Γ (local_types fn) c (kept_in (was memo)) (waits_in fn (was waits)) (takes Γ k E) (after fs) (after ws) (kept_in (after memo)) (waits_in fn (after waits)) r

-- something is stored in the share of the block c, or nothing
pub record Shelved (Γ fn memo fs ws : List ℕ) (c : ℕ) : Type 0 where
  pub stored : Option Forest
  pub is : Saved Γ (local_types fn) fs ws (word (kept_in memo) c) stored
  pub block : c < 256
  pub long : 512 ≤ length memo

-- AN ARRIVAL IN THE SECOND PASS

pub record Reconciles (fn : List ℕ) (p c : ℕ) (visited : List ℕ) (waits : ℕ → Bool) (out : List ℕ) (o : Out) (a : Answer (List At)) (waits' : ℕ → Bool) (out' : List ℕ) (r : Result Out Refusal) : Type 0 where
  pub same : length out' ≡ length out
  pub denied : (n : ℕ) → a ≡ refused n → answered r ≡ refused n
  pub told : (ts : List At) → a ≡ done ts
      → (q : Out) × (r ≡ Ok q) × Puts (length ts) out o out' q (marked (entry_point fn) (mark p ts))
  pub waiting : (ts : List At) → a ≡ done ts → waits' ≡ cond (eqb (word visited c) 0) (put waits c true) waits

-- a state is stored in the share of the block c
pub record Filled (Γ fn memo fs ws : List ℕ) (c : ℕ) : Type 0 where
  pub stored : Forest
  pub is : Full Γ (local_types fn) fs ws (word (kept_in memo) c) stored
  pub block : c < 256
  pub long : 512 ≤ length memo

-- the statements from whatever state s is to whatever is stored in the share
abbrev pub Reconciling : (Γ fn : List ℕ) (j : Jump) → State → (memo fs ws : List ℕ) (waits out : Lent) → Out → Result Out Refusal → Type 0
Reconciling Γ fn j s memo fs ws waits out o r = (S E : Forest)
    → Full Γ (local_types fn) fs ws (word (kept_in memo) j.block) S → Holds Γ (local_types fn) (value s) E
    → Reconciles fn (point fn j.entry j.item) j.block (visited_in memo) (waits_in fn (was waits)) (was out) o (collects Γ E S) (waits_in fn (after waits)) (after out) r
