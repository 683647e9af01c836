-- Each statement of a list that passes 2, tested for 11 by its words.
use mathlib.Core.Path.{◌≡◌, refl, sym, ap, ◌∙◌}
use mathlib.Core.Bool.{Bool, true, false, not, ◌&&◌}
use mathlib.Core.List.{List, [], ◌∷◌}
use Prim.Native.Nat.{ℕ, zero, suc, ◌+◌, ◌*◌, ◌≤◌, ◌<◌}
use native.Mathlib.Omega.{arith}
use lib.ListN.{length}
use lib.Dec.{eqb, leb}
use borrow.Author.Tests.{eqb-true, ne_eqb}
use Rattle.model.specs.Words.{word}
use Rattle.model.specs.Answer.{done}
use Rattle.model.specs.Assign.{Operand, Assign, read_list, places, items_in, operands_ok, is_constant, flag_ok, count_ok, wants_place, constants_ok, known, all_known, statements_of}
use Rattle.base.specs.Tests.{split, clash}
use Rattle.base.specs.Answer.{split_answer}
use Rattle.assign.specs.Words.{items_at, operand_end, operands_at, operands_end, destination_at, assign_at, assign_end, Ahead}
use Rattle.assign.specs.Checked.{list_ok, words_known, known_in}
use Rattle.assign.specs.Kinds.{kind_code, kind_named}
use Rattle.assign.proofs.KindLaws.{known_named}
use Rattle.assign.proofs.Reading.{list_ahead, First, ahead_first, ahead_last, assign_long}

-- items are none if their number is 0
constant_items : (ws : List ℕ) (at n : ℕ) → is_constant (items_at ws at n) ≡ eqb n 0
unfolding items_at
constant_items ws at zero = refl
constant_items ws at (suc n) = sym (ne_eqb (suc n) 0 (λ e. absurd (omega arith)))

length_operands : (ws : List ℕ) (k at : ℕ) → length (operands_at ws k at) ≡ k
unfolding operands_at
length_operands ws zero at = refl
length_operands ws (suc k) at = ap suc (length_operands ws k (operand_end ws at))

-- a kind that takes constants
constants_any : (k : ℕ) (ps : List Operand) → wants_place k ≡ false → constants_ok k ps ≡ true
unfolding constants_ok
constants_any k [] e = refl
constants_any k (p ∷ ps) e = cc (constants_any k ps e)

-- one that doesn't has one operand
single : (k n : ℕ) → wants_place k ≡ true → count_ok k n ≡ true → n ≡ 1
unfolding wants_place count_ok
single k n w c = split (eqb k 2)
    (λ e. let z = eqb-true k 2 e in eqb-true n 1 (rw z at c))
    (λ e. split (eqb k 3)
    (λ d. let z = eqb-true k 3 d in eqb-true n 1 (rw z at c))
    (λ d.
    let s : eqb k 7 ≡ true = cc in
    let z = eqb-true k 7 s in eqb-true n 1 (rw z at c)))

module _ (ws : List ℕ) where
  -- the operands of a kind with this count
  constants_at : (k n at : ℕ) → count_ok k n ≡ true → constants_ok k (operands_at ws n at) ≡ not (wants_place k && eqb (word ws at) 0)
  unfolding constants_ok operands_at
  constants_at k n at c = split (wants_place k)
      (λ w. rw (single k n w c, w, constant_items ws (suc at) (word ws at)) (split (eqb (word ws at) 0) (λ e. cc) (λ e. cc)))
      (λ w. cc (constants_any k (operands_at ws n at) w))

  -- a statement, by its words
  known_words : (at : ℕ) → known (assign_at ws at)
      ≡ words_known (word ws at) (word ws (suc at)) (word ws (suc (suc at))) (word ws (suc (suc (suc at)))) (word ws (destination_at ws at))
  unfolding known words_known
  known_words at =
      let k = word ws at in
      let n = word ws (suc (suc at)) in
      let d = destination_at ws at in
      rw (length_operands ws n (suc (suc (suc at))), constant_items ws (suc d) (word ws d))
      (split (count_ok k n)
      (λ c. rw (constants_at k n (suc (suc (suc at))) c) refl)
      (λ c. split (leb k 8) (λ l. split (flag_ok k (word ws (suc at))) (λ f. cc) (λ f. cc)) (λ l. cc)))

-- where the test has come to
pub record Knowing (ws : List ℕ) (at : ℕ) : Type 0 where
  pub left : List Assign
  pub ahead : Ahead ws at left
  pub same : known_in (statements_of ws) ≡ all_known left

-- a list that passes has its statements ahead
pub record Read (ws : List ℕ) : Type 0 where
  pub all : List Assign
  pub is : statements_of ws ≡ done all
  pub ahead : Ahead ws 0 all

pub list_read : (ws : List ℕ) → list_ok ws ≡ true → Read ws
unfolding statements_of
list_read ws e = split_answer (read_list (length ws) ws)
    (λ r d. clash (cc))
    (λ ss d. split (leb (items_in (places ss)) 16384 && operands_ok (places ss))
    (λ b. record { all = ss; is = cc; ahead = list_ahead ws (length ws) 0 (omega arith) d })
    (λ b. clash (cc)))

pub knowing_start : (ws : List ℕ) → list_ok ws ≡ true → Knowing ws 0
knowing_start ws e = let R = list_read ws e in record { left = R.all; ahead = R.ahead; same = ap known_in R.is }

module _ {ws : List ℕ} {at : ℕ} (K : Knowing ws at) where
  pub knowing_end : length ws ≤ at → true ≡ known_in (statements_of ws)
  unfolding all_known
  knowing_end l = sym (K.same ∙ ap all_known (ahead_last ws K.ahead l))

  module _ (l : at < length ws) where
    -- the statement that begins here
    first : First ws at K.left
    first = ahead_first ws K.ahead l

    -- it has four words at least
    pub knowing_four : 4 + at ≤ length ws
    knowing_four = omega (arith, first.inside, assign_long ws at)

    -- where its operands end, k of them, stands the destination
    module _ {k : ℕ} (s : k ≡ word ws (at + 2)) where
      ended : operands_end ws k (at + 3) ≡ destination_at ws at
      ended =
          let y : suc (suc at) ≡ at + 2 = omega arith in
          let z : suc (suc (suc at)) ≡ at + 3 = omega arith in
          rw (z, y, s) refl

      module _ {last : ℕ} (d : last ≡ operands_end ws k (at + 3)) where
        place : destination_at ws at ≡ last
        place = sym (d ∙ ended)

        next : assign_end ws at ≡ last + 1 + 2 * word ws last
        next = rw place (omega arith)

        pub knowing_inside : last + 1 + 2 * word ws last ≤ length ws
        knowing_inside = omega (arith, first.inside, next)

        pub knowing_far : 4 + at ≤ last + 1 + 2 * word ws last
        knowing_far = omega (arith, assign_long ws at, next)

        module _ {b : Bool} (e : b ≡ words_known (kind_code (kind_named (word ws at))) (word ws (at + 1)) (word ws (at + 2)) (word ws (at + 3)) (word ws last)) where
          tested : known (assign_at ws at) ≡ b
          tested =
              let x : suc at ≡ at + 1 = omega arith in
              let y : suc (suc at) ≡ at + 2 = omega arith in
              let z : suc (suc (suc at)) ≡ at + 3 = omega arith in
              known_words ws at ∙ rw (place, z, y, x) (sym (e ∙ known_named (word ws at) (word ws (at + 1)) (word ws (at + 2)) (word ws (at + 3)) (word ws last)))

          pub knowing_stop : b ≡ false → false ≡ known_in (statements_of ws)
          unfolding all_known
          knowing_stop f =
              let k : known (assign_at ws at) ≡ false = tested ∙ f in
              let g : all_known (assign_at ws at ∷ first.rest) ≡ false = rw k refl in
              sym (K.same ∙ ap all_known first.all ∙ g)

          pub knowing_on : b ≡ true → Knowing ws (last + 1 + 2 * word ws last)
          unfolding all_known
          knowing_on t =
              let k : known (assign_at ws at) ≡ true = tested ∙ t in
              let g : all_known (assign_at ws at ∷ first.rest) ≡ all_known first.rest = rw k refl in
              record { left = first.rest; ahead = rw next at first.ahead; same = K.same ∙ ap all_known first.all ∙ g }
