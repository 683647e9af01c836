-- `collect::states::collect_fold_unfolds` meets its contract: by what `collect_locals` ensures. Assumes nothing.
use Rattle.std.proofs.lemmas.Result.{err_from_is_err_and}
use Rattle.collect.proofs.Collected.{collects_done, collects_refused}
use Rattle.collect.proofs.states.collect_fold_unfolds.Goals as goal

pub returns-in_err-g : goal.returns-in_err-g
returns-in_err-g c =
    let p = err_from_is_err_and c.from_residual.result c.from_residual.ensures.1 in
    rw (p.1, p.2) (λ S E h k. collects_refused (c.in_err-g.ensures.trees S E h.trees k.trees))

pub returns : goal.returns
returns c = λ S E h k. collects_done (c.in_ok-g.ensures.trees S E h.trees k.trees)
