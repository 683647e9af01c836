-- `type_record::record::first_of` meets its contract, by cases on the test. Assumes nothing.
use mathlib.Core.Path.{refl, sym}
use Rattle.base.specs.Parts.{first_enum, first_other}
use Rattle.type_record.specs.declared.kinds.Kind.TheVariants.{Enum}
use Rattle.type_record.proofs.KindLaws.{eq_true, eq_false}
use Rattle.type_record.proofs.record.first_of.Goals as goal

pub returns-then-eq : goal.returns-then-eq
returns-then-eq c = sym (first_enum _ _ 0 (eq_true _ Enum c.kind_at.ensures c.eq.ensures c.if-eq.true refl))

pub returns-else-eq : goal.returns-else-eq
returns-else-eq c = sym (first_other _ _ 0 (eq_false _ Enum c.kind_at.ensures c.eq.ensures c.if-eq.false refl))
