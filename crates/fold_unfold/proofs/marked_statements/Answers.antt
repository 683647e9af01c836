-- `fold_unfold::marked_statements` meets its contract: by the tests, the passes and the end of the record.
use mathlib.Core.Path.{refl, sym, ◌∙◌}
use Rattle.std.proofs.lemmas.Result.{err_from_is_err_and}
use Rattle.base.specs.Equal.{zero_word}
use Rattle.fold_unfold.proofs.Answered.{tests_refuse, passes_refuse, accepts_counted, buffer_refuses, record_written}
use Rattle.std.proofs.Common.{true≢false}
use Rattle.fold_unfold.proofs.marked_statements.Goals as goal
use Rattle.fold_unfold.proofs.marked_statements.Goals.{in-Ok, in-Err}

pub checked-requires-clause-zeros : goal.checked-requires-clause-zeros
checked-requires-clause-zeros c = zero_word 256

pub returns-in_err-checked : goal.returns-in_err-checked
returns-in_err-checked c =
    let z = c.requires.all_zero in
    let r = err_from_is_err_and c.from_residual.result c.from_residual.ensures.1 in
    rw (r.1, r.2) (tests_refuse c.in_err-checked.ensures z.forms z.whats z.blank)

pub analyse-requires : goal.analyse-requires
analyse-requires c =
    let z = c.requires.all_zero in
    let C = c.in_ok-checked.ensures.clear refl c.args.types.now.offs.now c.args.types.now.ready in
    record { shared = C.shared; wiped = (z.forms, z.whats); store_long = (C.forms, C.whats) }

pub finish-g-requires : goal.finish-g-requires
finish-g-requires c = accepts_counted c.in_ok-checked.ensures c.in-Ok.ensures

pub returns-then-is_err : goal.returns-then-is_err
returns-then-is_err c =
    let zf = c.fill-then-is_err.ensures.after (λ y e. e) in
    let zw = c.fill-then-is_err-2.ensures.after (λ y e. e) in
    elim c.match-analyse.branch [
      | in-Ok w ↦
          let e = rw w.g-is at (sym c.is_err.ensures.value ∙ c.if-is_err.true) in
          rw (w.out-is, w.g-is) (buffer_refuses c.in_ok-checked.ensures w.in-Ok.ensures w.finish-g.ensures e zf zw)
      | in-Err w ↦ rw (w.out-is, w.g-is) (passes_refuse c.in_ok-checked.ensures w.in-Err.ensures zf zw (w.fill.ensures.after (λ y e. e)))
    ]

pub returns-else-is_err : goal.returns-else-is_err
returns-else-is_err c = elim c.match-analyse.branch [
  | in-Ok w ↦
      let e = rw w.g-is at (sym c.is_err.ensures.value ∙ c.if-is_err.false) in
      rw (w.out-is, w.g-is) (record_written c.in_ok-checked.ensures w.in-Ok.ensures w.finish-g.ensures e)
  | in-Err w ↦ absurd (true≢false (rw w.g-is at (sym c.is_err.ensures.value ∙ c.if-is_err.false)))
]
