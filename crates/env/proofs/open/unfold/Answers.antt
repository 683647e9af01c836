-- `env::open::unfold` meets its contract: to open one level is the last step. Assumes nothing.
use mathlib.Core.Path.{refl}
use Rattle.model.specs.Block.{elem_of}
use Rattle.env.proofs.Lasts.{moves_same, last_unfold}
use Rattle.env.proofs.open.unfold.Goals as goal

pub open_last-requires : goal.open_last-requires
unfolding elem_of
open_last-requires c = record { asked = c.requires; staying = refl }

pub returns : goal.returns
returns c =
    let a = c.args in
    λ E q h is. moves_same (last_unfold a.types.now.words.now a.locals.now q E) (c.open_last.ensures E q h is)
