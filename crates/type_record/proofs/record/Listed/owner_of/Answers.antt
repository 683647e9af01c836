-- `type_record::record::owner_of` meets its contract, by cases on the test. Assumes nothing.
use mathlib.Core.Path.{refl, sym, ◌∙◌}
use Rattle.base.specs.Parts.{owner_enum, owner_other}
use Rattle.type_record.specs.declared.kinds.Kind.TheVariants.{Enum}
use Rattle.type_record.proofs.KindLaws.{eq_true, eq_false}
use Rattle.type_record.proofs.record.Listed.owner_of.Goals as goal

pub part_at-requires-clause-j_bound : goal.part_at-requires-clause-j_bound
part_at-requires-clause-j_bound c = c.requires.variant_of (eq_true _ Enum c.kind_at.ensures c.eq.ensures c.if-eq.true refl)

pub returns-then-eq : goal.returns-then-eq
returns-then-eq c =
    c.part_at.ensures ∙ sym (owner_enum _ _ _ (eq_true _ Enum c.kind_at.ensures c.eq.ensures c.if-eq.true refl))

pub returns-else-eq : goal.returns-else-eq
returns-else-eq c = sym (owner_other _ _ _ (eq_false _ Enum c.kind_at.ensures c.eq.ensures c.if-eq.false refl))
