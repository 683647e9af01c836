-- `walk::apply::write_path` meets its contract. The loop's invariant: what the walk by types has opened so far is written. Assumes nothing.
use mathlib.Core.Path.{◌≡◌}
use Prim.Native.Nat.{◌-◌}
use Rattle.std.specs.Prelude.{Ok}
use Rattle.walk.specs.Way.{route}
use Rattle.walk.specs.Fresh.{folded, sprout}
use Rattle.walk.specs.declared.step.Fresh.{Fresh}
use Rattle.walk.proofs.Turns.{Writing}
use Rattle.walk.proofs.apply.write_path.Given as goal

abbrev pub invariant-loop-at : goal.invariant-loop-at
invariant-loop-at l =
    (g : Fresh) → sprout l.types.words.now (folded l.typ 0) (route l.ops l.args l.from (l.end - l.from)) ≡ Ok g
    → Writing l.types.words.now l.ops l.args l.from l.end l.typ l.i g l.initial.forms l.initial.whats l.forms l.whats l.fresh l.p l.at
