-- `merge::write::put_types` meets its contract. The loop's invariant: the parts of the types below t stand there. Assumes nothing.
use mathlib.Core.Path.{◌≡◌}
use Prim.Native.Nat.{◌+◌}
use lib.Seq.{sets}
use Rattle.model.specs.Types.{offset}
use Rattle.model.specs.Merge.{moved_below}
use Rattle.merge.proofs.write.put_types.Given as goal

abbrev pub invariant-loop-t : goal.invariant-loop-t
invariant-loop-t l = record {
  next : l.q ≡ l.at + offset l.types.words.now l.t;
  parts : l.out ≡ sets l.initial.out l.at (moved_below l.n l.types.words.now l.t);
}
