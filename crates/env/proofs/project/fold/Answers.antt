-- `env::project::fold` meets its contract: it is refused as a use is, and leaves the state that a use leaves. Assumes nothing.
use mathlib.Core.Path.{◌≡◌}
use lib.ListN.{length}
use Rattle.std.proofs.Common.{rules}
use Rattle.std.specs.Prelude.{Err}
use Rattle.env.proofs.Limits.{spot_limited, fold_walks, fold_usable, given_passes}
use Rattle.env.proofs.Folding.{fold_refused, fold_carried}
use Rattle.env.proofs.project.fold.Goals as goal

pub returns-in_err-used : goal.returns-in_err-used
returns-in_err-used c =
    let n = length c.args.locals.now in
    let e : c.from_residual.result ≡ Err c.in_err-used.field-0.0 = search rules in
    rw e (λ E q h is.
    let ok = given_passes c.requires.1.1 is in
    fold_refused h.trees.fits q (spot_limited n q 64 (fold_walks n q ok)).known (fold_usable n q ok) (c.in_err-used.ensures E q h is))

pub returns : goal.returns
returns c =
    let n = length c.args.locals.now in
    λ E q h is.
    let ok = given_passes c.requires.1.1 is in
    fold_carried h.trees.fits q (spot_limited n q 64 (fold_walks n q ok)).known (fold_usable n q ok) (c.in_ok-used.ensures E q h is)
