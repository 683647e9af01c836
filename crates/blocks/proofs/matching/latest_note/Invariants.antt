-- `blocks::matching::latest_note` meets its contract: the latest note before s is the latest before j. Assumes nothing.
use mathlib.Core.Path.{◌≡◌}
use Prim.Native.Nat.{◌-◌}
use Rattle.model.specs.Block.{spot_before, latest_note}
use Rattle.blocks.proofs.matching.latest_note.Given as goal

abbrev pub invariant-loop-j : goal.invariant-loop-j
invariant-loop-j l = latest_note l.fun.words.now (spot_before l.fun.words.now l.s) l.lo (l.s - l.lo) ≡ latest_note l.fun.words.now (spot_before l.fun.words.now l.s) l.lo (l.j - l.lo)
