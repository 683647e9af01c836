-- `state::share::load` meets its contract. Assumes nothing.
use mathlib.Core.Path.{ap₂}
use mathlib.Core.List.{◌++◌}
use Rattle.base.specs.Equal.{drop_replicate}
use Rattle.state.specs.Spliced.{fronted}
use Rattle.state.proofs.share.load.Goals as goal

pub returns : goal.returns
unfolding fronted
returns c = ap₂ ◌++◌ c.copy_from_slice.ensures.after (drop_replicate c.args.n 512 0)
