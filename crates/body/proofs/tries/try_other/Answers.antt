-- `body::tries::try_other` meets its contract: by what `rest_of` and `try_variant` ensure.
use Rattle.std.proofs.lemmas.Result.{err_from_is_err_and}
use Rattle.body.proofs.Trying.{ended_none, ended_fine, ended_denied}
use Rattle.body.proofs.tries.try_other.Goals as goal

pub returns-in_err-try_variant : goal.returns-in_err-try_variant
returns-in_err-try_variant c E h =
    let r = err_from_is_err_and c.from_residual.result c.from_residual.ensures.1 in
    rw (r.1, r.2) (ended_denied c.rest_of-rest.ensures c.if-rest-eq1.true (c.in_err-try_variant.ensures E h))

pub returns-in_ok-try_variant : goal.returns-in_ok-try_variant
returns-in_ok-try_variant c E h = ended_fine c.rest_of-rest.ensures c.if-rest-eq1.true (c.in_ok-try_variant.ensures E h)

pub returns-else-rest-eq1 : goal.returns-else-rest-eq1
returns-else-rest-eq1 c E h = ended_none c.rest_of-rest.ensures c.if-rest-eq1.false
