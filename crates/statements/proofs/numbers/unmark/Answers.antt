-- `statements::numbers::unmark` meets its contract. Assumes nothing.
use mathlib.Core.Path.{◌≡◌, ◌∙◌}
use native.Mathlib.Omega.{arith}
use Rattle.model.specs.Words.{word}
use Rattle.records.specs.Entries.{Whole}
use Rattle.statements.specs.Marked.{without_marks}
use Rattle.statements.proofs.Marks.{mark_out}
use Rattle.statements.proofs.numbers.unmark.Goals as goal

pub loop-k-preserved : goal.loop-k-preserved
loop-k-preserved c =
    let L = c.loop-k in
    let o = c.args.out.now in
    let w : Whole o = omega (arith, c.requires) in
    c.unmark_at.ensures ∙ mark_out o w L.k (omega arith) _ c.entry_count-e.ensures L.out L.invariant

pub returns : goal.returns
unfolding without_marks
returns c =
    let L = c.loop-k in
    let o = c.args.out.now in
    let k : L.k ≡ word o 1 = omega arith in
    rw (k, c.entry_count-e.ensures) at L.invariant
