-- `blocks::matching::matched` meets its contract. Assumes nothing.
use mathlib.Core.Path.{◌≡◌, sym, ◌∙◌}
use mathlib.Core.List.{List}
use mathlib.Core.Option.{some}
use Prim.Native.Nat.{ℕ, ◌-◌, ◌≤◌, ◌<◌}
use native.Mathlib.Omega.{arith}
use Rattle.model.specs.Function.{nblocks, nitems, start, op}
use Rattle.model.specs.Block.{root_before, spot_before, latest_note}
use Rattle.graph.specs.Ranges.{Holds}
use Rattle.mir.specs.Sizes.{Formed}
use Rattle.blocks.specs.Points.{switch_item}
use Rattle.blocks.proofs.Spots.{block_stop}
use Rattle.blocks.proofs.Points.{matched_none, matched_bare, matched_plain, matched_note, switch_holds, note_holds, read_matched}
use Rattle.blocks.proofs.matching.matched.Goals as goal

-- s is the block's switch
module _ {fn : List ℕ} (F : Formed fn) {b : ℕ} (l : b < nblocks fn) {s : ℕ} (e : switch_item fn b ≡ some s) where
  holds : Holds fn b s
  holds = (switch_holds F l e).0

  below : s < nitems fn
  below = omega (arith, holds.high, block_stop F l)

  -- and j the latest note of its place
  module _ {j : ℕ} (n : latest_note fn (spot_before fn s) (start fn b) (s - start fn b) ≡ some j) where
    note_in : Holds fn b j × (op fn j ≡ 7)
    note_in = note_holds F l holds n

    note_below : j ≤ nitems fn
    note_below = omega (arith, note_in.0.high, block_stop F l)

    behind_read : 1 ≤ root_before fn j
    behind_read = (read_matched F l note_in.0 note_in.1).0

pub returns-in_err-s : goal.returns-in_err-s
returns-in_err-s c = rw c.from_residual.ensures (sym (matched_none _ _ (sym c.in_err-s.ensures)))

pub uses_place-requires : goal.uses_place-requires
uses_place-requires c = record { i_bound = below c.requires.formed c.requires.b_bound (sym c.in_ok-s.ensures) }

pub returns-then-not-uses_place : goal.returns-then-not-uses_place
returns-then-not-uses_place c = sym (matched_bare _ _ (sym c.in_ok-s.ensures) (sym c.uses_place.ensures ∙ c.if-not-uses_place.true))

pub latest_note-requires-clause-lo_le_s : goal.latest_note-requires-clause-lo_le_s
latest_note-requires-clause-lo_le_s c = omega (arith, c.start_of.ensures, (holds c.requires.formed c.requires.b_bound (sym c.in_ok-s.ensures)).low)

pub latest_note-requires-clause-used_at : goal.latest_note-requires-clause-used_at
latest_note-requires-clause-used_at c =
    (below c.requires.formed c.requires.b_bound (sym c.in_ok-s.ensures), sym c.uses_place.ensures ∙ c.if-not-uses_place.false)

pub returns-in_err-j : goal.returns-in_err-j
returns-in_err-j c =
    let n = rw c.start_of.ensures at c.in_err-j.ensures in
    rw c.from_residual-in_err-j.ensures (sym (matched_plain _ _ (sym c.in_ok-s.ensures) (sym c.uses_place.ensures ∙ c.if-not-uses_place.false) (sym n)))

pub root_before-requires : goal.root_before-requires
root_before-requires c =
    record { i_bound = note_below c.requires.formed c.requires.b_bound (sym c.in_ok-s.ensures) (sym (rw c.start_of.ensures at c.in_ok-j.ensures)) }

pub overflow_sub-result : goal.overflow_sub-result
overflow_sub-result c =
    omega (arith, c.root_before.ensures, behind_read c.requires.formed c.requires.b_bound (sym c.in_ok-s.ensures) (sym (rw c.start_of.ensures at c.in_ok-j.ensures)))

pub returns : goal.returns
returns c =
    let n = rw c.start_of.ensures at c.in_ok-j.ensures in
    rw c.root_before.ensures (sym (matched_note _ _ (sym c.in_ok-s.ensures) (sym c.uses_place.ensures ∙ c.if-not-uses_place.false) (sym n)))
