-- `fold_unfold::function_statements` meets its contract: a refusal has no marks, and those of a record are taken out.
use mathlib.Core.Path.{refl}
use Rattle.std.proofs.lemmas.Result.{err_from_is_err_and}
use Rattle.fold_unfold.proofs.Numbers.{marked_held, refused_whole, unmarked_whole, whole_replayed, whole_numbered}
use Rattle.fold_unfold.proofs.function_statements.Goals as goal

pub returns-in_err-g : goal.returns-in_err-g
returns-in_err-g c =
    let r = err_from_is_err_and c.from_residual.result c.from_residual.ensures.1 in
    let W = refused_whole c.in_err-g.ensures refl in
    rw (r.1, r.2) (record { whole = W; replayed = tt; numbered = whole_numbered W })

pub unmark-requires : goal.unmark-requires
unmark-requires c = marked_held c.in_ok-g.ensures

pub returns : goal.returns
returns c =
    let W = unmarked_whole c.in_ok-g.ensures c.unmark.ensures in
    record { whole = W; replayed = whole_replayed W; numbered = tt }
