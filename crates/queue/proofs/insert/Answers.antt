-- `queue::insert` meets its contract. Assumes nothing.
use mathlib.Core.Path.{refl}
use Rattle.queue.specs.Bits.{put_in}
use Rattle.queue.proofs.Waiting.{put_in_inserts}
use Rattle.queue.proofs.insert.Goals as goal

pub returns : goal.returns
unfolding put_in
returns c =
    rw c.mask.ensures record { inserts = put_in_inserts _ _ c.requires.four c.requires.r_bound; words = refl }
