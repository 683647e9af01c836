-- `mir::check_function::ranks_ok` meets its contract. The loop has tested every block below b, and seen marks their ranks. Assumes nothing.
use mathlib.Core.Path.{◌≡◌}
use mathlib.Core.Bool.{Bool, true, false, not, ◌&&◌}
use mathlib.Core.List.{List}
use Prim.Native.Nat.{ℕ, ◌<◌}
use lib.Dec.{eqb, ltb}
use lib.ListN.{length, get_or}
use Rattle.model.specs.Words.{all}
use Rattle.model.specs.Function.{nblocks, rank}
use Rattle.mir.proofs.check_function.ranks_ok.Given as goal

-- none of the first b blocks has the rank r
unfoldable pub unseen : List ℕ → ℕ → ℕ → Bool
unseen fn b r = all (λ c. not (eqb (rank fn c) r)) b

-- a block's rank is below B, and no earlier one's
unfoldable pub ranked : List ℕ → ℕ → Bool
ranked fn b = ltb (rank fn b) (nblocks fn) && unseen fn b (rank fn b)

-- the array marks each rank that is seen, and no other
abbrev pub Marks : List ℕ → ℕ → List Bool → Type 0
Marks fn b seen = (r : ℕ) → r < 256 → not (get_or seen r false) ≡ unseen fn b r

abbrev pub invariant-loop-b : goal.invariant-loop-b
invariant-loop-b l = (length l.seen ≡ 256) × (all (ranked l.fun.words.now) l.b ≡ true) × Marks l.fun.words.now l.b l.seen
