-- `assign::list::places_end` meets its contract: k operands end where those that are left do. Assumes nothing.
use mathlib.Core.Path.{◌≡◌}
use Prim.Native.Nat.{◌-◌}
use Rattle.assign.specs.Checked.{places_end}
use Rattle.assign.proofs.list.places_end.Given as goal

abbrev pub invariant-loop : goal.invariant-loop
invariant-loop l = places_end l.list l.k l.at ≡ places_end l.list (l.k - l.counter) l.a
