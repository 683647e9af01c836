-- `assign::list::elements_ok` meets its contract: the items are elements if those from i on are. Assumes nothing.
use mathlib.Core.Path.{◌≡◌}
use Prim.Native.Nat.{◌+◌, ◌*◌, ◌-◌}
use Rattle.assign.specs.Operands.{elements_ok}
use Rattle.assign.specs.Words.{items_at}
use Rattle.assign.proofs.list.elements_ok.Given as goal

abbrev pub invariant-loop-i : goal.invariant-loop-i
invariant-loop-i l = elements_ok (items_at l.list l.at l.n) ≡ elements_ok (items_at l.list (l.at + 2 * l.i) (l.n - l.i))
