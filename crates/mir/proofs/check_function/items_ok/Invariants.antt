-- `mir::check_function::items_ok` meets its contract. What is left of the walk decides as the whole does. Assumes nothing.
use mathlib.Core.Path.{◌≡◌}
use Prim.Native.Nat.{◌-◌, ◌≤◌}
use Rattle.model.specs.Function.{nitems, items_from, items_ok}
use Rattle.mir.proofs.check_function.items_ok.Given as goal

abbrev pub invariant-loop-i : goal.invariant-loop-i
invariant-loop-i l = (l.b ≤ l.i) × (items_from l.fun.words.now (nitems l.fun.words.now - l.i) l.i l.b l.before ≡ items_ok l.fun.words.now)
