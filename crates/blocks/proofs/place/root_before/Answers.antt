-- `blocks::place::root_before` meets its contract: the last root before i is the last before j. Assumes nothing.
use mathlib.Core.Path.{◌≡◌, sym, ap, ◌∙◌}
use native.Mathlib.Omega.{arith}
use Rattle.model.specs.Block.{root_before}
use Rattle.blocks.proofs.Spots.{root_zero}
use Rattle.blocks.proofs.place.root_before.Goals as goal

pub returns : goal.returns
returns c =
    let z : c.loop-j.j ≡ 0 = omega arith in
    sym (c.loop-j.invariant ∙ ap (root_before c.args.fun.now.words.now) z ∙ root_zero c.args.fun.now.words.now)
