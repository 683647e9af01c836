-- `whole_crate::records_end` meets its contract: the n records behind the count end where those left from word `at` on do.
use mathlib.Core.Path.{◌≡◌}
use Prim.Native.Nat.{◌-◌, ◌≤◌}
use lib.ListN.{length, drop}
use Rattle.model.specs.Crate.{spare}
use Rattle.whole_crate.proofs.records_end.Given as goal

abbrev pub invariant-loop : goal.invariant-loop
invariant-loop l = (l.at ≤ length l.words) × (spare l.n (drop 1 l.words) ≡ spare (l.n - l.counter) (drop l.at l.words))
