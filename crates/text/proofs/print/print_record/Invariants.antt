-- `text::print::print_record` meets its contract. The loop's invariant: what is written and the text from entry k on are the text of all entries, which
-- is that of the lines. Assumes nothing.
use mathlib.Core.Path.{◌≡◌}
use mathlib.Core.List.{◌++◌}
use Prim.Native.Nat.{◌+◌, ◌*◌, ◌≤◌}
use lib.ListN.{length, take, drop}
use Rattle.std.specs.Prelude.{None}
use Rattle.records.specs.Entries.{entries_of}
use Rattle.text.specs.Printing.{kept_for}
use Rattle.text.proofs.Entries.{entries_text}
use Rattle.text.proofs.print.print_record.Given as goal

abbrev pub invariant-loop-k : goal.invariant-loop-k
invariant-loop-k l =
    (length l.text ≡ length l.initial.text) × (l.p.at + kept_for l.p.verb ≤ 14 * l.k) × (l.p.line ≤ l.k)
    × (take l.p.at l.text ++ entries_text l.p.verb (drop l.p.line l.told) (drop l.k (entries_of l.out)) ≡ entries_text None l.told (entries_of l.out))
