-- `merge::write::put_parts` meets its contract. The loop's invariant: the parts below j stand there. Assumes nothing.
use mathlib.Core.Path.{◌≡◌}
use lib.Seq.{sets}
use Rattle.model.specs.Merge.{moved_parts}
use Rattle.merge.proofs.write.put_parts.Given as goal

abbrev pub invariant-loop-j : goal.invariant-loop-j
invariant-loop-j l = l.out ≡ sets l.initial.out l.at (moved_parts l.n l.types.words.now l.t l.j)
