-- `statements::finish` meets its contract: by its tests the buffer is zeroed, or the record closes up. Assumes nothing.
use mathlib.Core.Path.{◌≡◌, ap, ◌∙◌}
use mathlib.Core.List.{List}
use Prim.Native.Nat.{ℕ, ◌+◌}
use native.Mathlib.Omega.{arith}
use lib.ListN.{length}
use Rattle.statements.specs.Kept.{room}
use Rattle.statements.specs.Moved.{closed, cleared}
use Rattle.statements.proofs.Ending.{finished_zeroed, not_counts, not_room, not_number, finished_written}
use Rattle.statements.proofs.finish.Goals as goal
use Rattle.statements.proofs.finish.Goals.{then-n-lt2-via-then-n-lt2, then-n-lt2-via-else-n-lt2+then-r-e, then-n-lt2-via-else-n-lt2+else-r-e+then-e-gt-MOST_ENTRIES}

pub returns-then-n-lt2 : goal.returns-then-n-lt2
returns-then-n-lt2 c k es =
    finished_zeroed
    (λ K. elim c.then-n-lt2.branch [
      | then-n-lt2-via-then-n-lt2 w ↦ not_counts _ es w.if-n-lt2.true
      | then-n-lt2-via-else-n-lt2+then-r-e w ↦ not_room (omega arith) K
      | then-n-lt2-via-else-n-lt2+else-r-e+then-e-gt-MOST_ENTRIES w ↦ not_number (omega arith) (omega arith) K
    ])
    c.wipe.ensures

pub returns : goal.returns
returns c k es =
    let a = c.args in
    let n : ℕ = a.o.entries in
    let w : c.clear.new.out ≡ cleared (closed a.out.now (room (length a.out.now)) n) (2 + n + n) =
    c.clear.ensures ∙ ap (λ (m : List ℕ). cleared m (2 + n + n)) (c.close_up.ensures ∙ ap (λ (r : ℕ). closed a.out.now r n) c.room-r.ensures) in
    finished_written (omega arith) (omega arith) (omega arith) (rw (w, c.small.ensures, c.small-2.ensures))
