-- `assign::list::elements_ok` meets its contract: the items are elements if those from i on are. Assumes nothing.
use mathlib.Core.Path.{sym, ◌∙◌}
use Prim.Native.Nat.{◌+◌, ◌*◌, ◌-◌}
use native.Mathlib.Omega.{arith}
use Rattle.assign.proofs.Elements.{elements_none, elements_stopped, elements_carried}
use Rattle.assign.proofs.list.elements_ok.Goals as goal

pub returns-then-not-is_element : goal.returns-then-not-is_element
returns-then-not-is_element c =
    elements_stopped _ c.args.at c.args.n c.loop-i.i (omega arith) c.loop-i.invariant c.is_element.ensures c.if-not-is_element.true

pub loop-i-preserved : goal.loop-i-preserved
loop-i-preserved c =
    elements_carried _ c.args.at c.args.n c.loop-i.i (omega arith) c.loop-i.invariant c.is_element.ensures c.if-not-is_element.false

pub returns : goal.returns
returns c =
    let L = c.loop-i in
    sym (L.invariant ∙ elements_none c.args.list.now (c.args.at + 2 * L.i) (c.args.n - L.i) (omega arith))
