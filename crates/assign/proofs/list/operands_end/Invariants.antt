-- `assign::list::operands_end` meets its contract: k operands end where those that are left do. Assumes nothing.
use mathlib.Core.Path.{◌≡◌}
use Prim.Native.Nat.{◌-◌}
use Rattle.assign.specs.Words.{operands_end}
use Rattle.assign.proofs.list.operands_end.Given as goal

abbrev pub invariant-loop : goal.invariant-loop
invariant-loop l = operands_end l.list l.k l.at ≡ operands_end l.list (l.k - l.counter) l.a
