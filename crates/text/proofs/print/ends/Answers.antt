-- `text::print::ends` meets its contract, by cases on whether there is an entry k. Assumes nothing.
use mathlib.Core.Path.{◌∙◌}
use native.Mathlib.Omega.{arith}
use borrow.Author.Tests.{eq-eqb}
use Rattle.text.proofs.Entries.{ends_over, ends_there}
use Rattle.text.proofs.print.ends.Goals as goal

pub returns-then-k-out : goal.returns-then-k-out
returns-then-k-out c =
    rw (eq-eqb _ _ c.if-k-out.true) (ends_over c.args.out.now c.requires.whole c.args.k (omega arith))

pub returns-else-k-out : goal.returns-else-k-out
returns-else-k-out c =
    c.is_point.ensures ∙ ends_there c.args.out.now c.requires.whole c.args.k (omega arith)
