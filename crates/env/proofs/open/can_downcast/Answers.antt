-- `env::open::can_downcast` meets its contract: a downcast is the last step, which is refused or not. Assumes nothing.
use mathlib.Core.Path.{refl}
use lib.ListN.{length}
use Rattle.std.specs.Prelude.{Ok, Err}
use Rattle.model.specs.Place.{unfold_ok}
use Rattle.model.specs.Block.{elem_of}
use Rattle.env.proofs.Limits.{used_unfolds, given_also}
use Rattle.env.proofs.Answered.{lasts_told}
use Rattle.env.proofs.Lasts.{last_cast}
use Rattle.env.proofs.open.can_downcast.Goals as goal

pub last_step-requires : goal.last_step-requires
unfolding elem_of
last_step-requires c =
    let n = length c.args.locals.now in record { asked = (c.requires.0, (c.requires.1.0, given_also c.requires.1.1 (unfold_ok n) (used_unfolds n))); staying = refl }

pub returns-in-Ok : goal.returns-in-Ok
returns-in-Ok c =
    let a = c.args in
    λ E q h is. rw (← last_cast a.types.now.words.now q a.v E)
    (lasts_told a.types.now.words.now a.locals.now a.ops.now a.args.now a.s.now _ _ c.last_step.result (Ok (tt {0})) (λ o u. Unit {0}) (rw c.in-Ok.is (tt {0})) (c.last_step.ensures E q h is))

pub returns-in-Err : goal.returns-in-Err
returns-in-Err c =
    let a = c.args in
    λ E q h is. rw (← last_cast a.types.now.words.now q a.v E)
    (lasts_told a.types.now.words.now a.locals.now a.ops.now a.args.now a.s.now _ _ c.last_step.result (Err c.in-Err.r) (λ o u. Unit {0}) (rw c.in-Err.is refl) (c.last_step.ensures E q h is))
