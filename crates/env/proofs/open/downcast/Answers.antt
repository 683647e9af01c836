-- `env::open::downcast` meets its contract: a downcast is the last step. Assumes nothing.
use mathlib.Core.Path.{refl}
use lib.ListN.{length}
use Rattle.model.specs.Place.{unfold_ok}
use Rattle.model.specs.Block.{elem_of}
use Rattle.env.proofs.Limits.{used_unfolds, given_also}
use Rattle.env.proofs.Lasts.{moves_same, last_cast}
use Rattle.env.proofs.open.downcast.Goals as goal

pub open_last-requires : goal.open_last-requires
unfolding elem_of
open_last-requires c =
    let n = length c.args.locals.now in record { asked = (c.requires.0, (c.requires.1.0, given_also c.requires.1.1 (unfold_ok n) (used_unfolds n))); staying = refl }

pub returns : goal.returns
returns c =
    let a = c.args in
    λ E q h is. moves_same (last_cast a.types.now.words.now q a.v E) (c.open_last.ensures E q h is)
