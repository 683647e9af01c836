-- `blocks::matching::latest_note` meets its contract: the latest note before s is the latest before j. Assumes nothing.
use mathlib.Core.Path.{◌≡◌, refl, sym, ap, ◌∙◌}
use mathlib.Core.Bool.{Bool, true, false, ◌&&◌}
use mathlib.Core.List.{List}
use mathlib.Core.Option.{none, some}
use Prim.Native.Nat.{ℕ, suc, ◌+◌, ◌-◌, ◌<◌, ◌≤◌}
use native.Mathlib.Omega.{arith}
use borrow.Author.Tests.{eq-eqb, ne_eqb}
use lib.Dec.{eqb}
use Rattle.model.specs.Place.{Spot, same_spot}
use Rattle.model.specs.Function.{nitems, op}
use Rattle.model.specs.Block.{spot_before, latest_note}
use Rattle.blocks.proofs.Spots.{note_uses}
use Rattle.blocks.proofs.matching.latest_note.Goals as goal
use Rattle.blocks.proofs.matching.latest_note.Goals.{else-op_of-eq-NOTE-via-then-op_of-eq-NOTE+else-same_place, else-op_of-eq-NOTE-via-else-op_of-eq-NOTE}

-- is item x a note of the place q?
abbrev notes : List ℕ → Spot → ℕ → Bool
notes fn q x = eqb (op fn x) 7 && same_spot (spot_before fn x) q

module _ (fn : List ℕ) (q : Spot) (lo j : ℕ) where
  latest_none : j ≤ lo → latest_note fn q lo (j - lo) ≡ none
  unfolding latest_note
  latest_none l = let z : j - lo ≡ 0 = omega arith in rw z

  module _ (l : lo < j) where
    last : j - lo ≡ suc (j - 1 - lo)
    last = omega arith

    there : lo + (j - 1 - lo) ≡ j - 1
    there = omega arith

    latest_here : notes fn q (j - 1) ≡ true → latest_note fn q lo (j - lo) ≡ some (j - 1)
    unfolding latest_note
    latest_here t = rw (last, latest_note, there, t) (ap some there)

    latest_past : notes fn q (j - 1) ≡ false → latest_note fn q lo (j - lo) ≡ latest_note fn q lo (j - 1 - lo)
    unfolding latest_note
    latest_past t = rw (last, latest_note, there, t) refl

-- o: the item's code
module _ (fn : List ℕ) (q : Spot) (x : ℕ) {o : ℕ} (e : o ≡ op fn x) where
  no_note : (o ≡ 7 → ⊥) → notes fn q x ≡ false
  no_note d = cc (ne_eqb (op fn x) 7 (λ z. d (e ∙ z)))

  a_note : o ≡ 7 → {b : Bool} → b ≡ same_spot (spot_before fn x) q → notes fn q x ≡ b
  a_note z s = cc (eq-eqb (op fn x) 7 (sym e ∙ z))

pub same_place-requires-clause-used_at : goal.same_place-requires-clause-used_at
same_place-requires-clause-used_at c =
    let l : c.loop-j.j - 1 < nitems c.args.fun.now.words.now = omega arith in
    (l, note_uses c.requires.formed l (sym c.op_of.ensures ∙ c.if-op_of-eq-NOTE.true))

pub returns-then-same_place : goal.returns-then-same_place
returns-then-same_place c =
    let t = a_note _ _ _ c.op_of.ensures c.if-op_of-eq-NOTE.true c.same_place.ensures ∙ c.if-same_place.true in
    sym (c.loop-j.invariant ∙ latest_here _ _ _ _ (omega arith) t)

pub loop-j-preserved : goal.loop-j-preserved
loop-j-preserved c =
    elim c.else-op_of-eq-NOTE.branch [
      | else-op_of-eq-NOTE-via-then-op_of-eq-NOTE+else-same_place w ↦
          c.loop-j.invariant ∙ latest_past _ _ _ _ (omega arith) (a_note _ _ _ c.op_of.ensures w.if-op_of-eq-NOTE.true w.same_place.ensures ∙ w.if-same_place.false)
      | else-op_of-eq-NOTE-via-else-op_of-eq-NOTE w ↦
          c.loop-j.invariant ∙ latest_past _ _ _ _ (omega arith) (no_note _ _ _ c.op_of.ensures w.if-op_of-eq-NOTE.false)
    ]

pub returns : goal.returns
returns c = sym (c.loop-j.invariant ∙ latest_none _ _ _ _ (omega arith))
