-- `statements::numbers::tell_numbers` meets its contract. The loop's invariant: what the other entries tell is still to be put. Assumes nothing.
use mathlib.Core.Path.{◌≡◌}
use Prim.Native.Nat.{◌≤◌}
use lib.ListN.{drop}
use lib.Seq.{sets}
use Rattle.records.specs.Entries.{entries_of}
use Rattle.statements.specs.Marked.{told_in}
use Rattle.statements.proofs.numbers.tell_numbers.Given as goal

abbrev pub invariant-loop-k : goal.invariant-loop-k
invariant-loop-k l = record {
  next : l.j ≤ l.k;
  told : sets l.told l.j (told_in (drop l.k (entries_of l.out))) ≡ sets l.initial.told 0 (told_in (entries_of l.out));
}
