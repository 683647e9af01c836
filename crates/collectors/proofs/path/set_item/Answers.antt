-- `collectors::path::set_item` meets its contract: a word is set in each array. Assumes nothing.
use mathlib.Core.Path.{◌∙◌}
use native.Mathlib.Nat.{mod-eq_of_lt}
use Rattle.collectors.proofs.Trails.{trail_set}
use Rattle.collectors.proofs.path.set_item.Goals as goal

pub returns : goal.returns
returns c =
    rw (c.small.ensures ∙ mod-eq_of_lt c.requires.arg_bound) (trail_set c.requires.long _ _ c.requires.n_bound)
