-- `statements::numbers::tell_numbers` meets its contract. Assumes nothing.
use mathlib.Core.Path.{sym, ◌∙◌, ap}
use mathlib.Core.List.{List}
use Prim.Native.Nat.{◌+◌}
use native.Mathlib.Omega.{arith}
use lib.Seq.{sets}
use Rattle.model.specs.Words.{word}
use Rattle.model.specs.Record.{Entry}
use Rattle.records.specs.Entries.{Whole}
use Rattle.statements.specs.Marked.{told_in}
use Rattle.statements.proofs.Marks.{held_over, tells_few, told_on}
use Rattle.statements.proofs.numbers.tell_numbers.Goals as goal

pub loop-k-preserved : goal.loop-k-preserved
loop-k-preserved c =
    let L = c.loop-k in
    let o = c.args.out.now in
    let now = c.tell_one-j.ensures in
    let w : Whole o = omega (arith, c.requires) in
    record {
      next = omega (arith, now.next, tells_few (word o (2 + L.k)) (word o (2 + c.entry_count-e.result + L.k)));
      told = told_on o w L.k (omega arith) _ c.entry_count-e.ensures L.told L.j now.told_after now.next ∙ L.invariant.told;
    }

pub returns : goal.returns
unfolding told_in
returns c =
    let L = c.loop-k in
    ap (λ (es : List Entry). sets L.told L.j (told_in es)) (sym (held_over c.args.out.now c.requires L.k (omega arith))) ∙ L.invariant.told
