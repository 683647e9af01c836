-- `env::place_ok` meets its contract: the items are no place, or the aim says which test. Assumes nothing.
use Rattle.model.specs.Place.{unfold_ok}
use Rattle.env.proofs.Testing.{place_told}
use Rattle.env.proofs.place_ok.Goals as goal

pub returns-in-Uses : goal.returns-in-Uses
returns-in-Uses c = place_told _ _ c.is_place.ensures c.if-not-is_place.false _ c.in-Uses.is c.used_ok.ensures

pub returns-in-Folds : goal.returns-in-Folds
returns-in-Folds c = place_told _ _ c.is_place.ensures c.if-not-is_place.false _ c.in-Folds.is c.fold_ok.ensures

pub returns-in-Unfolds : goal.returns-in-Unfolds
unfolding unfold_ok
returns-in-Unfolds c = place_told _ _ c.is_place.ensures c.if-not-is_place.false _ c.in-Unfolds.is c.spot_ok.ensures
