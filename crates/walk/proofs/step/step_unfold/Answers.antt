-- `walk::step::step_unfold` meets its contract, case by case. Assumes nothing.
use mathlib.Core.Path.{refl}
use native.Mathlib.Omega.{arith}
use Rattle.state.proofs.Fields.{ready_sized, ready_typed}
use Rattle.type_record.specs.declared.kinds.Kind.TheVariants.{Enum}
use Rattle.type_record.proofs.KindLaws.{eq_true, eq_false}
use Rattle.walk.proofs.KindTests.{shut_is}
use Rattle.walk.proofs.Growing.{kids_few}
use Rattle.walk.proofs.Grows.{folded_shut, folded_enum, folded_index}
use Rattle.walk.proofs.step.step_unfold.Goals as goal

pub returns-then-shut : goal.returns-then-shut
returns-then-shut c = folded_shut _ _ _ refl (shut_is _ c.kind_at-k.ensures c.shut.ensures c.if-shut.true)

pub returns-then-eq : goal.returns-then-eq
returns-then-eq c =
    let k = c.kind_at-k.ensures in
    folded_enum _ _ _ refl (shut_is _ k c.shut.ensures c.if-shut.false) (eq_true _ Enum k c.eq.ensures c.if-eq.true refl)

pub kid_count-requires-clause-variant_of : goal.kid_count-requires-clause-variant_of
kid_count-requires-clause-variant_of c = λ e. absurd (eq_false _ Enum c.kind_at-k.ensures c.eq.ensures c.if-eq.false refl e)

pub overflow_add-result : goal.overflow_add-result
overflow_add-result c =
    let few = kids_few (ready_typed c.args.types.now.ready) c.args.typ 0 c.requires.typ_bound (λ e. absurd (eq_false _ Enum c.kind_at-k.ensures c.eq.ensures c.if-eq.false refl e)) in
    omega (arith, c.kid_count.ensures, c.requires.added_bound)

pub returns : goal.returns
returns c =
    let k = c.kind_at-k.ensures in
    rw c.kid_count.ensures (folded_index _ _ _ refl (shut_is _ k c.shut.ensures c.if-shut.false) (eq_false _ Enum k c.eq.ensures c.if-eq.false refl))
