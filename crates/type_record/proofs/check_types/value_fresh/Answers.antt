-- `type_record::check_types::value_fresh` meets its contract. The invariant: no variant below i has the discriminant. Assumes nothing.
use mathlib.Core.Path.{◌≡◌, refl}
use mathlib.Core.Logic.{◌≢◌}
use mathlib.Core.Bool.{true, false}
use mathlib.Core.List.{List}
use Prim.Native.Nat.{ℕ, ◌+◌, ◌≤◌, ◌<◌}
use native.Mathlib.Omega.{arith}
use borrow.Author.Tests.{eq-eqb, ne_eqb}
use Rattle.model.specs.Words.{all}
use Rattle.model.specs.Types.{discriminant}
use Rattle.type_record.specs.Fresh.{value_fresh}
use Rattle.type_record.proofs.Turns.{all_none, all_next, all_stop, all_done}
use Rattle.type_record.proofs.Passed.{variant_room, variant_below}
use Rattle.type_record.proofs.check_types.value_fresh.Invariants.{differs}
use Rattle.type_record.proofs.check_types.value_fresh.Goals as goal

module _ (Γ : List ℕ) (t j i d x : ℕ) (e : d ≡ discriminant Γ t j) (f : x ≡ discriminant Γ t i) where
  other : x ≢ d → all (differs Γ t j) i ≡ true → all (differs Γ t j) (i + 1) ≡ true
  other h a = all_next (differs Γ t j) i a (cc (ne_eqb x d h))

  same : x ≡ d → i < j → false ≡ value_fresh Γ t j
  unfolding value_fresh
  same h l = all_stop (differs Γ t j) j i {b = false} l (cc (eq-eqb x d h)) refl

done : (Γ : List ℕ) (t j i : ℕ) → j ≤ i → all (differs Γ t j) i ≡ true → true ≡ value_fresh Γ t j
unfolding value_fresh
done Γ t j i l a = all_done (differs Γ t j) j i l a

pub discriminant-d-requires-clause-nonzero : goal.discriminant-d-requires-clause-nonzero
discriminant-d-requires-clause-nonzero c =
    let p = c.requires in (variant_room _ _ _ p.t_value p.t_bound (p.variant.below, p.variant.is_variant)).1

pub loop-i-init : goal.loop-i-init
loop-i-init c = all_none _

pub discriminant-requires-clause-v_bound_2 : goal.discriminant-requires-clause-v_bound_2
discriminant-requires-clause-v_bound_2 c =
    let p = c.requires in (variant_room _ _ _ p.t_value p.t_bound (variant_below _ _ _ _ p.j_value c.loop-i-test.true)).0

pub discriminant-requires-clause-nonzero : goal.discriminant-requires-clause-nonzero
discriminant-requires-clause-nonzero c =
    let p = c.requires in (variant_room _ _ _ p.t_value p.t_bound (variant_below _ _ _ _ p.j_value c.loop-i-test.true)).1

pub returns-then-discriminant-d : goal.returns-then-discriminant-d
returns-then-discriminant-d c =
    same _ _ _ _ _ _ c.discriminant-d.ensures c.discriminant.ensures c.if-discriminant-d.true c.loop-i-test.true

pub loop-i-preserved : goal.loop-i-preserved
loop-i-preserved c = other _ _ _ _ _ _ c.discriminant-d.ensures c.discriminant.ensures c.if-discriminant-d.false c.loop-i.invariant

pub returns : goal.returns
returns c = done _ _ _ _ (omega arith) c.loop-i.invariant
