-- `assign::give::destined` meets its contract. Assumes nothing.
use mathlib.Core.Path.{refl, sym, ◌∙◌}
use Rattle.assign.specs.declared.known.Rvalue.TheVariants.{Discriminant}
use Rattle.assign.proofs.KindLaws.{same_code}
use Rattle.assign.proofs.give.destined.Goals as goal

pub returns-then-eq : goal.returns-then-eq
returns-then-eq c = rw (sym (same_code c.args.kind Discriminant) ∙ sym c.eq.ensures ∙ c.if-eq.true) refl

pub returns-else-eq : goal.returns-else-eq
returns-else-eq c = rw (sym (same_code c.args.kind Discriminant) ∙ sym c.eq.ensures ∙ c.if-eq.false) refl
