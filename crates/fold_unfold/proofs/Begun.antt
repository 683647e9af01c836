-- The memory with which each pass begins is in the arrays: zeros before the first, what the first has stored before the second.
use mathlib.Core.Path.{◌≡◌, refl, sym, ap, ◌∙◌, subst₂}
use mathlib.Core.Bool.{true, false, not}
use mathlib.Core.List.{List}
use Prim.Native.Nat.{ℕ, ◌+◌, ◌*◌, ◌-◌, ◌≤◌, ◌<◌}
use native.Mathlib.Omega.{arith}
use lib.ListN.{length, take, drop, replicate, length-replicate}
use lib.Dec.{eqb}
use Rattle.model.specs.Words.{word}
use Rattle.model.specs.State.{most}
use Rattle.model.specs.Function.{nblocks, rank}
use Rattle.model.specs.Block.{is_join_point, join_points}
use Rattle.model.specs.Rounds.{elem}
use Rattle.base.specs.Below.{count_room}
use Rattle.base.specs.Equal.{drop_replicate, take_replicate, zero_word}
use Rattle.blocks.specs.Points.{share_number}
use Rattle.queue.specs.Bits.{no_bits}
use Rattle.queue.proofs.Waiting.{waiting_none}
use Rattle.arrival.specs.Memory.{Memory}
use Rattle.arrival.specs.Shares.{kept_in, arrays, Remembers, share_of}
use Rattle.fold_unfold.specs.Runs.{blank, again, fresh}

-- where there are zeros nothing was visited
zero_flag : (n i : ℕ) → false ≡ not (eqb (word (replicate n 0) i) 0)
zero_flag n i = rw (zero_word n i)

-- a share lies among those of all join points
share_inside : (fn : List ℕ) (b : ℕ) → b < nblocks fn → is_join_point fn b ≡ true → most * (share_number fn b - 1) + most ≤ most * join_points fn
unfolding share_number join_points
share_inside fn b l e = rw e (omega (arith, count_room (is_join_point fn) b (nblocks fn) l e))

-- a share of zeros
zero_share : (n p : ℕ) → most * (p - 1) + most ≤ n → share_of (replicate n 0) p ≡ replicate most 0
unfolding share_of
zero_share n p h = ap (take most) (drop_replicate (most * (p - 1)) n 0) ∙ take_replicate most (n - most * (p - 1)) 0 (omega arith)

-- zeros past the shares
zero_rest : (n k : ℕ) → drop {A = ℕ} k (replicate n 0) ≡ replicate (length {A = ℕ} (replicate n 0) - k) 0
zero_rest n k = drop_replicate k n 0 ∙ ap (λ (m : ℕ). replicate (m - k) 0) (sym (length-replicate {A = ℕ} n 0))

-- before the first pass
blank_remembered : (Γ fn : List ℕ) (m n : ℕ) → most * join_points fn ≤ m → most * join_points fn ≤ n
    → Remembers Γ fn blank (arrays (replicate 256 0) (replicate 256 0) no_bits (replicate m 0) (replicate n 0))
unfolding elem
blank_remembered Γ fn m n h l = record {
  long = record {
    kept = length-replicate {A = ℕ} 256 0;
    visited = length-replicate {A = ℕ} 256 0;
    waits = refl;
    forms = rw length-replicate h;
    whats = rw length-replicate l;
  };
  saved = λ b k e. let i = share_inside fn b k e in record {
    count = zero_word 256 b;
    forms = zero_share m (share_number fn b) (omega arith);
    whats = zero_share n (share_number fn b) (omega arith);
  };
  unsaved = λ b e. refl;
  waits = λ b k. sym (waiting_none (rank fn) (nblocks fn) b);
  visited = λ b k. zero_flag 256 b;
  forms_rest = zero_rest m (most * join_points fn);
  whats_rest = zero_rest n (most * join_points fn);
}

-- the same of arrays that have been wiped
pub zeros_remembered : {Γ fn fs ws : List ℕ} → (fs ≡ replicate (length fs) 0) × (ws ≡ replicate (length ws) 0)
    → (most * join_points fn ≤ length fs) × (most * join_points fn ≤ length ws)
    → Remembers Γ fn blank (fresh (replicate 512 0) fs ws)
zeros_remembered {Γ} {fn} {fs} {ws} z h =
    let k : kept_in (replicate 512 0) ≡ replicate 256 0 = take_replicate 256 512 0 (omega arith) in
    rw k
    (subst₂ (λ (f w : List ℕ). Remembers Γ fn blank (arrays (replicate 256 0) (replicate 256 0) no_bits f w)) (sym z.0) (sym z.1)
    (blank_remembered Γ fn (length fs) (length ws) h.0 h.1))

-- before the second
pub again_remembered : {Γ fn : List ℕ} {m : Memory} {k v w fs ws : List ℕ} → Remembers Γ fn m (arrays k v w fs ws)
    → Remembers Γ fn (again m.kept) (arrays k (replicate 256 0) no_bits fs ws)
unfolding elem
again_remembered {fn = fn} R = record {
  long = record {
    kept = R.long.kept;
    visited = length-replicate {A = ℕ} 256 0;
    waits = refl;
    forms = R.long.forms;
    whats = R.long.whats;
  };
  saved = R.saved;
  unsaved = R.unsaved;
  waits = λ b k. sym (waiting_none (rank fn) (nblocks fn) b);
  visited = λ b k. zero_flag 256 b;
  forms_rest = R.forms_rest;
  whats_rest = R.whats_rest;
}
