-- `whole_crate::records_end` meets its contract: the n records behind the count end where those left from word `at` on do.
use mathlib.Core.Path.{◌≡◌, refl, ◌∙◌}
use Prim.Native.Nat.{◌+◌, ◌-◌}
use native.Mathlib.Omega.{arith}
use Rattle.whole_crate.proofs.Going.{spare_next, spare_none}
use Rattle.whole_crate.proofs.records_end.Goals as goal

pub loop-init : goal.loop-init
loop-init c =
    let z : c.args.n - 0 ≡ c.args.n = omega arith in
    (c.requires, rw z refl)

pub record_end-at-requires : goal.record_end-at-requires
record_end-at-requires c = c.loop.invariant.0

pub loop-preserved : goal.loop-preserved
loop-preserved c =
    let L = c.loop in
    let F = c.record_end-at.ensures in
    let n = c.args.n in
    (F.within, L.invariant.1 ∙ spare_next c.args.words.now L.at c.record_end-at.result (n - L.counter) (n - (L.counter + 1)) (omega arith) F)

pub returns : goal.returns
returns c =
    let L = c.loop in
    record { within = L.invariant.0; rest = spare_none c.args.words.now L.at (c.args.n - L.counter) (omega arith) L.invariant.1 }
