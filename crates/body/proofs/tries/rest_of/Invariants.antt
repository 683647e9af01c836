-- `body::tries::rest_of` meets its contract: the variants before v that are not taken are counted.
use Prim.Native.Nat.{◌≤◌}
use Rattle.body.proofs.Variants.{free_below, Counts}
use Rattle.body.proofs.tries.rest_of.Given as goal

abbrev pub invariant-loop-v : goal.invariant-loop-v
invariant-loop-v l = (l.left ≤ l.v) × Counts l.left l.other (free_below l.types l.t l.taken l.v)
