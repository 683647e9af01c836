-- `env::project::projection` meets its contract: a used place may be folded. Assumes nothing.
use lib.ListN.{length}
use Rattle.model.specs.Place.{fold_ok}
use Rattle.env.proofs.Limits.{used_folds, given_also}
use Rattle.env.proofs.project.projection.Goals as goal

pub used-requires : goal.used-requires
used-requires c =
    let n = length c.args.locals.now in
    (c.requires.0, (c.requires.1.0, given_also c.requires.1.1 (fold_ok n) (used_folds n)))
