-- `type_record::check_types::value_fresh` meets its contract. The invariant: no variant below i has the discriminant. Assumes nothing.
use mathlib.Core.Path.{◌≡◌}
use mathlib.Core.Bool.{Bool, true, not}
use mathlib.Core.List.{List}
use Prim.Native.Nat.{ℕ}
use lib.Dec.{eqb}
use Rattle.model.specs.Words.{all}
use Rattle.model.specs.Types.{discriminant}
use Rattle.type_record.proofs.check_types.value_fresh.Given as goal

-- variant i has another discriminant than variant j
abbrev pub differs : List ℕ → ℕ → ℕ → ℕ → Bool
differs Γ t j i = not (eqb (discriminant Γ t i) (discriminant Γ t j))

abbrev pub invariant-loop-i : goal.invariant-loop-i
invariant-loop-i l = all (differs l.types.words.now l.t l.j) l.i ≡ true
