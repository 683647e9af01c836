-- Which item may follow which, and what stands before the item behind it: `may_follow` and `after`, case by case. Assumes nothing.
use mathlib.Core.Path.{◌≡◌, refl, sym, ◌∙◌}
use mathlib.Core.Bool.{Bool, true, false, beq, ◌&&◌, ◌||◌}
use mathlib.Core.List.{List, [], ◌∷◌}
use mathlib.Core.Logic.{inl, inr}
use Prim.Native.Nat.{ℕ, suc, ◌+◌, ◌-◌, ◌*◌, ◌≤◌, ◌<◌}
use native.Mathlib.Omega.{arith}
use native.Mathlib.Decide.{dec_lt}
use lib.Dec.{eqb, leb}
use lib.ListN.{get_or-eq_default}
use borrow.Author.Tests.{eq-eqb, ne_eqb, leb-true, le-leb, lt-leb}
use types.Run.{OneOf}
use Rattle.model.specs.Words.{all}
use Rattle.model.specs.Function.{follow_table, may_follow, after}
use Rattle.base.specs.Tests.{split, and_left, and_right}
use Rattle.base.specs.Ranges.{Range}
use Rattle.base.specs.Below.{all_at}

-- ONE OF SOME NUMBERS

-- one of j and those behind it
abbrev or_among : ℕ → List ℕ → ℕ → Bool
or_among j [] k = eqb k j
or_among j (i ∷ js) k = eqb k j || or_among i js k

-- the test of `OneOf`, which a match asks; of one number it is the `==` of the code
abbrev among : List ℕ → ℕ → Bool
among [] k = false
among (j ∷ js) k = or_among j js k

-- it passes for each of them
one_of : (js : List ℕ) (k : ℕ) → OneOf js k → true ≡ among js k
one_of [] k h = absurd h
one_of (j ∷ []) k e = sym (eq-eqb k j e)
one_of (j ∷ i ∷ js) k (inl e) = rw (eq-eqb k j e)
one_of (j ∷ i ∷ js) k (inr h) = split (eqb k j) (λ e. rw e) (λ e. rw e (one_of (i ∷ js) k h))

-- and for no other
none_of : (js : List ℕ) (k : ℕ) → ¬ OneOf js k → false ≡ among js k
none_of [] k n = refl
none_of (j ∷ []) k n = sym (ne_eqb k j n)
none_of (j ∷ i ∷ js) k n = rw (ne_eqb k j (λ e. n (inl e))) (none_of (i ∷ js) k (λ h. n (inr h)))

-- all of them are at most 8
abbrev low : List ℕ → Bool
low [] = true
low (j ∷ js) = leb j 8 && low js

-- and so is each
one_low : (js : List ℕ) (k : ℕ) → low js ≡ true → OneOf js k → k ≤ 8
one_low [] k t h = absurd h
one_low (j ∷ []) k t e = let l = leb-true j 8 (and_left (leb j 8) true t) in omega arith
one_low (j ∷ i ∷ js) k t (inl e) = let l = leb-true j 8 (and_left (leb j 8) (low (i ∷ js)) t) in omega arith
one_low (j ∷ i ∷ js) k t (inr h) = one_low (i ∷ js) k (and_right (leb j 8) (low (i ∷ js)) t) h

-- WHERE AN ITEM MAY STAND

-- no item stands behind a row that the table hasn't
no_row : (before o : ℕ) → 8 < before → may_follow before o ≡ false
unfolding may_follow follow_table
no_row before o h =
    split (leb o 12) (λ e. rw (e, get_or-eq_default follow_table 0 {n = 13 * before + o} (omega arith))) (λ e. rw e)

-- tests that say the same are equal
same : (a b : Bool) → beq a b ≡ true → a ≡ b
same true true e = refl
same true false e = sym e
same false true e = e
same false false e = refl

-- the items from lo up to hi stand behind these rows, and behind no other of the nine
pub record Stand (lo hi : ℕ) (js : List ℕ) : Type 0 where
  rows : low js ≡ true
  table : all (λ k. all (λ i. beq (among js k) (may_follow k (lo + i))) (suc hi - lo)) 9 ≡ true

module _ {lo hi : ℕ} {js : List ℕ} (s : Stand lo hi js) (k o : ℕ) (r : Range lo o hi) where
  -- so each of them does, whatever stands before it
  pub stands : among js k ≡ may_follow k o
  stands = elim (dec_lt k 9) [
    | yes h ↦
        let a = all_at (λ k. all (λ i. beq (among js k) (may_follow k (lo + i))) (suc hi - lo)) 9 s.table k h in
        let b = all_at (λ i. beq (among js k) (may_follow k (lo + i))) (suc hi - lo) a (o - lo) (omega arith) in
        let e : lo + (o - lo) ≡ o = omega arith in
        same (among js k) (may_follow k o) (rw e at b)
    | no n ↦
        let e = none_of js k (λ h. n (let l = one_low js k s.rows h in omega arith)) in
        sym e ∙ sym (no_row k o (omega arith))
  ]

  -- behind one of the rows
  pub behind : OneOf js k → true ≡ may_follow k o
  behind h = one_of js k h ∙ stands

  -- and behind nothing else
  pub elsewhere : ¬ OneOf js k → false ≡ may_follow k o
  elsewhere n = none_of js k n ∙ stands

-- EACH RANGE, COMPUTED OVER THE TABLE

pub root_rows : Stand 0 0 (0 ∷ 2 ∷ 4 ∷ [])
unfolding all may_follow follow_table
root_rows = record { rows = refl; table = refl }

pub element_rows : Stand 1 4 (1 ∷ 3 ∷ 5 ∷ [])
unfolding all may_follow follow_table
element_rows = record { rows = refl; table = refl }

pub use_rows : Stand 5 5 (1 ∷ 3 ∷ [])
unfolding all may_follow follow_table
use_rows = record { rows = refl; table = refl }

pub read_rows : Stand 6 6 (3 ∷ [])
unfolding all may_follow follow_table
read_rows = record { rows = refl; table = refl }

pub note_rows : Stand 7 7 (5 ∷ [])
unfolding all may_follow follow_table
note_rows = record { rows = refl; table = refl }

pub switch_rows : Stand 8 8 (2 ∷ 3 ∷ [])
unfolding all may_follow follow_table
switch_rows = record { rows = refl; table = refl }

pub arm_rows : Stand 9 9 (6 ∷ [])
unfolding all may_follow follow_table
arm_rows = record { rows = refl; table = refl }

pub target_rows : Stand 10 10 (2 ∷ 6 ∷ 7 ∷ [])
unfolding all may_follow follow_table
target_rows = record { rows = refl; table = refl }

pub end_rows : Stand 11 12 (2 ∷ [])
unfolding all may_follow follow_table
end_rows = record { rows = refl; table = refl }

-- BY CASES

module _ (before o : ℕ) where
  -- no item has a code past 12
  pub may_follow_unknown : 12 < o → false ≡ may_follow before o
  unfolding may_follow
  may_follow_unknown h = rw (lt-leb o 12 h)

  -- a place's items change nothing
  pub after_place : 1 ≤ o → o ≤ 4 → after before o ≡ before
  unfolding after
  after_place h l = rw (ne_eqb o 0 (omega arith), le-leb o 4 l)

  -- a return or a stop ends the block
  pub after_end : 10 < o → after before o ≡ 8
  unfolding after
  after_end h =
      simp (
        ne_eqb o 0 (omega arith),
        lt-leb o 4 (omega arith),
        ne_eqb o 5 (omega arith),
        ne_eqb o 6 (omega arith),
        ne_eqb o 7 (omega arith),
        ne_eqb o 8 (omega arith),
        ne_eqb o 9 (omega arith),
        ne_eqb o 10 (omega arith),
      )
