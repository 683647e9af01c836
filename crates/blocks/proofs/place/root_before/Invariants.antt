-- `blocks::place::root_before` meets its contract: the last root before i is the last before j. Assumes nothing.
use mathlib.Core.Path.{◌≡◌}
use Rattle.model.specs.Block.{root_before}
use Rattle.blocks.proofs.place.root_before.Given as goal

abbrev pub invariant-loop-j : goal.invariant-loop-j
invariant-loop-j l = root_before l.fun.words.now l.i ≡ root_before l.fun.words.now l.j
