-- `statements::numbers::unmark` meets its contract. The loop's invariant: the first k marks are taken out. Assumes nothing.
use mathlib.Core.Path.{◌≡◌}
use mathlib.Core.List.{map}
use Prim.Native.Nat.{◌+◌}
use lib.Seq.{paste}
use Rattle.records.specs.Entries.{entries_of}
use Rattle.statements.specs.Marked.{unmarked}
use Rattle.statements.proofs.numbers.unmark.Given as goal

abbrev pub invariant-loop-k : goal.invariant-loop-k
invariant-loop-k l = l.out ≡ paste l.initial.out (2 + l.e) (map unmarked (entries_of l.initial.out)) l.k
