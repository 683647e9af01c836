-- `answer::answer_records` meets its contract: what the call answers is printed. Assumes nothing.
use mathlib.Core.Path.{◌≡◌, sym, ap, ◌∙◌}
use Prim.Native.Nat.{ℕ}
use native.Mathlib.Omega.{arith}
use lib.ListN.{length, replicate, length-replicate}
use Rattle.model.specs.Block.{entry_point}
use Rattle.model.specs.Record.{statement_record, lent, numbers}
use Rattle.model.specs.Ghosts.{ghosts_buffer}
use Rattle.text.proofs.Lines.{record_whole}
use Rattle.answer.proofs.Answering.{refused_text, done_text}
use Rattle.answer.proofs.Saying.{refuses_says}
use Rattle.answer.proofs.answer_records.Goals as goal

-- what is lent to the call
long : (n : ℕ) → length {A = ℕ} (replicate n 0) ≡ n
long n = length-replicate n 0

pub print_record-requires-clause-whole : goal.print_record-requires-clause-whole
print_record-requires-clause-whole c =
    let R = done_text c.ghost_statements.ensures.whole_told (long 8192) (long 8192) (long 2050) (long 341) c.in-Ok.is in
    record_whole _ ghosts_buffer R.lines _ R.is

pub print_record-requires-clause-out_in_bounds : goal.print_record-requires-clause-out_in_bounds
print_record-requires-clause-out_in_bounds c =
    let R = done_text c.ghost_statements.ensures.whole_told (long 8192) (long 8192) (long 2050) (long 341) c.in-Ok.is in
    omega (arith, record_whole _ ghosts_buffer R.lines _ R.is, c.ghost_statements.auto.out, c.requires)

pub returns-in-Ok : goal.returns-in-Ok
returns-in-Ok c =
    let g = c.ghost_statements in
    let R = done_text g.ensures.whole_told (long 8192) (long 8192) (long 2050) (long 341) c.in-Ok.is in
    let P = c.print_record.ensures in
    record {
      long = P.long;
      inside = P.inside;
      said = P.lines _ R.lines (R.is ∙ ap (λ (k : ℕ). lent k (statement_record (entry_point c.args.fun.now) R.lines)) (sym g.auto.out))
          (R.numbers_are ∙ ap (λ (k : ℕ). lent k (numbers R.lines)) (sym g.auto.told)) ∙ sym R.text;
    }

pub returns-in-Err : goal.returns-in-Err
returns-in-Err c =
    refuses_says (rw c.from.ensures at c.print_refusal.ensures) (sym (refused_text c.ghost_statements.ensures.whole_told (long 8192) (long 8192) (long 2050) (long 341) c.in-Err.is))
