-- What `all` over a slice answers. Assumes nothing.
use mathlib.Core.Path.{◌≡◌, sym}
use mathlib.Core.Bool.{Bool, true, false}
use mathlib.Core.List.{List}
use Prim.Native.Nat.{ℕ, ◌<◌}
use native.Mathlib.Omega.{arith}
use lib.ListN.{length, get_or}
use Rattle.std.specs.Bool.{MatchBool}
use Rattle.std.specs.List.{AllWithin, HoldsAt}
use Rattle.model.specs.Words.{all}
use Rattle.base.specs.Below.{all_of, all_fails}

-- the words of a slice are tested, each by P
pub all_read : (P : ℕ → Bool) (xs : List ℕ) (r : Bool)
    → MatchBool r (AllWithin (λ x. P x ≡ true) xs 0 (length xs)) ((k : ℕ) × (k < length xs) × HoldsAt (λ x. P x ≡ false) xs k)
    → r ≡ all (λ i. P (get_or xs i 0)) (length xs)
all_read P xs true h = sym (all_of _ (length xs) (λ i l. h i 0 (omega arith) l))
all_read P xs false h = sym (all_fails _ (length xs) h.0 h.1 (h.2 0))
