-- What the tests of a list find is what model's do.
use mathlib.Core.Path.{◌≡◌, refl, sym, ap, ◌∙◌}
use mathlib.Core.Bool.{Bool, true, false, ◌&&◌}
use mathlib.Core.List.{List, [], ◌∷◌, ◌++◌}
use Prim.Native.Nat.{ℕ, zero, suc, ◌+◌, ◌*◌, ◌-◌, ◌≤◌, ◌<◌}
use native.Mathlib.Omega.{arith}
use lib.ListN.{length, drop, drop_of_length-le}
use lib.Dec.{ltb, leb}
use borrow.Author.Tests.{lt-ltb, le-ltb, leb-true, leb-false, le-leb, lt-leb}
use Rattle.std.specs.Prelude.{Option, Some, None}
use Rattle.model.specs.Words.{word}
use Rattle.model.specs.Answer.{Answer, refused, done, ◌>>=◌, require}
use Rattle.model.specs.Assign.{Operand, Assign, read_list, places, items_in, operand_ok, operands_ok, statements_of}
use Rattle.base.specs.Tests.{split, clash}
use Rattle.base.specs.Answer.{split_answer}
use Rattle.assign.specs.Operands.{operands_append}
use Rattle.assign.specs.Words.{operand_at, operand_end, operands_at, operands_end, assign_at, assign_end}
use Rattle.assign.specs.Checked.{place_end, places_end, is_read, list_ok}
use Rattle.assign.proofs.Elements.{items_length, items_append}
use Rattle.assign.proofs.Reading.{below, list_empty, list_more, one, operands_up, split_end, split_at, assign_read, list_ahead, First, ahead_first, assign_long}

-- a test and true, and false
and_true : (b : Bool) → b && true ≡ b
and_true true = refl
and_true false = refl

and_false : (b : Bool) → b && false ≡ false
and_false true = refl
and_false false = refl

-- twice the items, in words
twice : (x : ℕ) → leb x 16384 ≡ leb (0 + 2 * x) 32768
twice x = split (leb x 16384) (λ e. e ∙ sym (le-leb (0 + 2 * x) 32768 (omega (arith, leb-true x 16384 e)))) (λ e. e ∙ sym (lt-leb (0 + 2 * x) 32768 (omega (arith, leb-false x 16384 e))))

-- a list that is read passes 2 by its items and places
read_done : (ss : List Assign) → is_read (require (leb (items_in (places ss)) 16384 && operands_ok (places ss)) 2 λ _. done ss)
    ≡ leb (0 + 2 * items_in (places ss)) 32768 && operands_ok (places ss)
read_done ss = rw (← twice (items_in (places ss))) (split (leb (items_in (places ss)) 16384 && operands_ok (places ss)) (λ e. cc) (λ e. cc))

-- by cases: an end, or none; and on a number
end_cases : {P : Type 0} (x : Option ℕ) → (x ≡ None → P) → ((e : ℕ) → x ≡ Some e → P) → P
end_cases None f g = f refl
end_cases (Some e) f g = g e refl

number : {P : Type 0} (x : ℕ) → (x ≡ 0 → P) → ((m : ℕ) → x ≡ suc m → P) → P
number zero f g = f refl
number (suc m) f g = g m refl

module _ (ws : List ℕ) where
  -- ONE OPERAND

  place_good : (at : ℕ) {e : ℕ} → place_end ws at ≡ Some e → (operand_end ws at ≡ e) × (operand_end ws at ≤ length ws) × (operand_ok (operand_at ws at) ≡ true)
  unfolding place_end
  place_good at {e} p = split (leb (operand_end ws at) (length ws))
      (λ b. split (operand_ok (operand_at ws at)) (λ o. (cc, leb-true (operand_end ws at) (length ws) b, o)) (λ o. clash (cc)))
      (λ b. clash (cc))

  place_bad : (at : ℕ) → place_end ws at ≡ None → operand_end ws at ≤ length ws → operand_ok (operand_at ws at) ≡ false
  unfolding place_end
  place_bad at p l = split (operand_ok (operand_at ws at))
      (λ b.
      let t : leb (operand_end ws at) (length ws) ≡ true = le-leb (operand_end ws at) (length ws) l in
      clash (cc))
      (λ b. b)

  -- SEVERAL

  -- one more
  places_suc : (k at : ℕ) {e : ℕ} → at < length ws → place_end ws at ≡ Some e → places_end ws (suc k) at ≡ places_end ws k (operand_end ws at)
  unfolding places_end
  places_suc k at l q =
      let t : ltb at (length ws) ≡ true = lt-ltb at (length ws) l in
      let (f, h, o) = place_good at q in
      rw (t, places_end, q) (ap (places_end ws k) (sym f))

  places_stop : (k at : ℕ) → place_end ws at ≡ None → places_end ws (suc k) at ≡ None
  unfolding places_end
  places_stop k at q = split (ltb at (length ws)) (λ t. cc) (λ t. cc)

  places_cut : (k at : ℕ) → length ws ≤ at → places_end ws (suc k) at ≡ None
  unfolding places_end
  places_cut k at l = rw (places_end, le-ltb at (length ws) l) refl

  places_good : (k at : ℕ) {e : ℕ} → at ≤ length ws → places_end ws k at ≡ Some e
      → (operands_end ws k at ≡ e) × (e ≤ length ws) × (operands_ok (operands_at ws k at) ≡ true)
  unfolding places_end operands_end operands_at operands_ok
  places_good zero at {e} i p = let z : at ≡ e = cc in (z, omega arith, refl)
  places_good (suc k) at {e} i p = below at (length ws)
      (λ h. end_cases (place_end ws at)
      (λ q. clash (cc (places_stop k at q)))
      (λ m q.
      let (f, l, o) = place_good at q in
      let r : places_end ws k (operand_end ws at) ≡ Some e = sym (places_suc k at h q) ∙ p in
      let (g, j, t) = places_good k (operand_end ws at) l r in
      (g, j, cc)))
      (λ h. clash (cc (places_cut k at h)))

  places_bad : (k at : ℕ) → places_end ws k at ≡ None → operands_end ws k at ≤ length ws → operands_ok (operands_at ws k at) ≡ false
  unfolding places_end operands_end operands_at operands_ok
  places_bad zero at p l = clash (cc)
  places_bad (suc k) at p l =
      let inside : operand_end ws at ≤ length ws = omega (arith, operands_up ws k (operand_end ws at)) in
      end_cases (place_end ws at)
      (λ q. rw (place_bad at q inside) refl)
      (λ m q.
      let (f, h, o) = place_good at q in
      let r : places_end ws k (operand_end ws at) ≡ None = sym (places_suc k at (omega arith) q) ∙ p in
      rw (o, places_bad k (operand_end ws at) r l) refl)

  -- a turn of the loop over them, with m more behind the one at a
  module _ (a n m : ℕ) (s : n ≡ suc m) where
    pub places_out : length ws ≤ a → None ≡ places_end ws n a
    places_out l = sym (rw s (places_cut m a l))

    pub places_ended : None ≡ place_end ws a → None ≡ places_end ws n a
    places_ended e = sym (rw s (places_stop m a (sym e)))

    pub places_on : {r : ℕ} → Some r ≡ place_end ws a → a < length ws → places_end ws n a ≡ places_end ws m r
    places_on e l = rw s (places_suc m a l (sym e) ∙ ap (places_end ws m) (place_good a (sym e)).0)

    pub ends_next : operands_end ws n a ≡ operands_end ws m (a + (1 + 2 * word ws a))
    unfolding operands_end
    ends_next =
        let z : operand_end ws a ≡ a + (1 + 2 * word ws a) = omega arith in
        rw s (ap (operands_end ws m) z)

    -- and the first ends before the last
    pub ends_first : a + (1 + 2 * word ws a) + m ≤ operands_end ws n a
    ends_first = rw ends_next (operands_up ws m (a + (1 + 2 * word ws a)))

  -- no more
  pub places_none : (a n : ℕ) → n ≡ 0 → Some a ≡ places_end ws n a
  unfolding places_end
  places_none a n e = rw e refl

  pub ends_none : (a n : ℕ) → n ≡ 0 → a ≡ operands_end ws n a
  unfolding operands_end
  ends_none a n e = rw e refl

  -- k operands and one more
  more_end : (k at : ℕ) → operands_end ws (suc k) at ≡ operand_end ws (operands_end ws k at)
  unfolding operands_end
  more_end k at = let z : suc k ≡ k + 1 = omega arith in ap (λ (n : ℕ). operands_end ws n at) z ∙ split_end ws k 1 at

  more_at : (k at : ℕ) → operands_at ws (suc k) at ≡ operands_at ws k at ++ (operand_at ws (operands_end ws k at) ∷ [])
  unfolding operands_at operands_end
  more_at k at = let z : suc k ≡ k + 1 = omega arith in ap (λ (n : ℕ). operands_at ws n at) z ∙ split_at ws k 1 at

  -- how many words they take
  operands_words : (k at : ℕ) → operands_end ws k at ≡ at + k + 2 * items_in (operands_at ws k at)
  unfolding operands_end operands_at items_in
  operands_words zero at = omega arith
  operands_words (suc k) at = omega (arith, operands_words k (operand_end ws at), items_length ws (word ws at) (suc at))

  -- THE LIST

  -- a statement's places are k + 1 operands
  assign_places : (at : ℕ) → (assign_at ws at).operands ++ ((assign_at ws at).destination ∷ []) ≡ operands_at ws (suc (word ws (suc (suc at)))) (suc (suc (suc at)))
  assign_places at = sym (more_at (word ws (suc (suc at))) (suc (suc (suc at))))

  assign_ends : (at : ℕ) → assign_end ws at ≡ operands_end ws (suc (word ws (suc (suc at)))) (suc (suc (suc at)))
  assign_ends at = sym (more_end (word ws (suc (suc at))) (suc (suc (suc at))))

  -- what is said of the list, where its words up to `at` hold `words` words of items
  abbrev rest_ok : ℕ → Answer (List Assign) → Bool
  rest_ok words (refused r) = false
  rest_ok words (done ss) = leb (words + 2 * items_in (places ss)) 32768 && operands_ok (places ss)

  abbrev pub rest : ℕ → ℕ → ℕ → Bool
  rest n at words = rest_ok words (read_list n (drop at ws))

  rest_end : (n at words : ℕ) → length ws ≤ at → rest n at words ≡ leb words 32768
  unfolding places items_in operands_ok
  rest_end n at words l =
      let z : words + 2 * 0 ≡ words = omega arith in
      rw (drop_of_length-le ws {i = at} l, list_empty n, z) (and_true (leb words 32768))

  rest_start : list_ok ws ≡ rest (length ws) 0 0
  unfolding statements_of
  rest_start = split_answer (read_list (length ws) ws) (λ r e. cc) (λ ss e. rw e (read_done ss))

  -- what stands ahead, if the list is read
  ahead_of : (n at : ℕ) {ss : List Assign} → at < length ws → read_list n (drop at ws) ≡ done ss → First ws at ss
  ahead_of n at l e = ahead_first ws (list_ahead ws n at (omega arith) e) l

  rest_short : (n at words : ℕ) → at < length ws → length ws < 4 + at → rest n at words ≡ false
  rest_short n at words l m = split_answer (read_list n (drop at ws)) (λ r e. rw e refl)
      (λ ss e. absurd (omega (arith, (ahead_of n at l e).inside, assign_long ws at)))

  rest_bad : (n at words : ℕ) → at < length ws → places_end ws (suc (word ws (suc (suc at)))) (suc (suc (suc at))) ≡ None → rest n at words ≡ false
  unfolding places
  rest_bad n at words l p = split_answer (read_list n (drop at ws)) (λ r e. rw e refl)
      (λ ss e.
      let F = ahead_of n at l e in
      let k = suc (word ws (suc (suc at))) in
      let m : operands_end ws k (suc (suc (suc at))) ≤ length ws = omega (arith, F.inside, assign_ends at) in
      let b = places_bad k (suc (suc (suc at))) p m in
      let o : operands_ok (places ss) ≡ false = rw (F.all, assign_places at, operands_append (operands_at ws k (suc (suc (suc at)))) (places F.rest), b) refl in
      rw (e, o) (and_false (leb (words + 2 * items_in (places ss)) 32768)))

  rest_good : (n at words : ℕ) {e : ℕ} → at < length ws → suc (suc (suc at)) ≤ length ws → places_end ws (suc (word ws (suc (suc at)))) (suc (suc (suc at))) ≡ Some e
      → rest (suc n) at words ≡ rest n e (words + (e - suc (suc (suc at)) - suc (word ws (suc (suc at)))))
  unfolding places
  rest_good n at words {e} l i p =
      let k = suc (word ws (suc (suc at))) in
      let s = suc (suc (suc at)) in
      let (f, m, o) = places_good k s i p in
      let g : assign_end ws at ≡ e = assign_ends at ∙ f in
      let r = assign_read ws at (omega arith) in
      let q : read_list (suc n) (drop at ws) ≡ (read_list n (drop e ws) >>= λ ts. done (assign_at ws at ∷ ts)) =
      cc (one ws at l, list_more n (word ws at) (drop (suc at) ws)) in
      split_answer (read_list n (drop e ws)) (λ x d. rw (q, d) refl)
      (λ ts d.
      let ps = operands_at ws k s in
      let all : List Operand = (assign_at ws at).operands ++ ((assign_at ws at).destination ∷ []) in
      let u : operands_ok (all ++ places ts) ≡ operands_ok (places ts) = rw (assign_places at) (operands_append ps (places ts) ∙ ap (λ (b : Bool). b && operands_ok (places ts)) o) in
      let v : items_in (all ++ places ts) ≡ items_in ps + items_in (places ts) = rw (assign_places at) (items_append ps (places ts)) in
      let w : words + 2 * items_in (all ++ places ts) ≡ words + (e - s - k) + 2 * items_in (places ts) = omega (arith, v, operands_words k s, f) in
      rw (q, d, u, w) refl)

-- where the check has come to
pub record Going (ws : List ℕ) (at words : ℕ) : Type 0 where
  pub turns : ℕ
  pub enough : length ws ≤ at + turns
  pub inside : at ≤ length ws
  pub few : words ≤ at
  pub same : list_ok ws ≡ rest ws turns at words

pub going_start : (ws : List ℕ) → Going ws 0 0
going_start ws = record { turns = length ws; enough = omega arith; inside = omega arith; few = omega arith; same = rest_start ws }

module _ {ws : List ℕ} {at words : ℕ} (G : Going ws at words) where
  pub going_end : length ws ≤ at → leb words 32768 ≡ list_ok ws
  going_end l = sym (G.same ∙ rest_end ws G.turns at words l)

  module _ (l : at < length ws) where
    pub going_short : length ws - at < 4 → false ≡ list_ok ws
    going_short m = sym (G.same ∙ rest_short ws G.turns at words l (omega arith))

    module _ (m : 4 ≤ length ws - at) {k : ℕ} (s : k ≡ word ws (at + 2) + 1) where
      -- the end of the statement's places
      placed : {r : Option ℕ} → r ≡ places_end ws k (at + 3) → places_end ws (suc (word ws (suc (suc at)))) (suc (suc (suc at))) ≡ r
      placed e =
          let a : at + 2 ≡ suc (suc at) = omega arith in
          let b : at + 3 ≡ suc (suc (suc at)) = omega arith in
          let z : k ≡ suc (word ws (suc (suc at))) = rw (← a) (omega arith) in
          rw (← z, ← b) (sym e)

      pub going_bad : None ≡ places_end ws k (at + 3) → false ≡ list_ok ws
      going_bad e = sym (G.same ∙ rest_bad ws G.turns at words l (placed e))

      module _ {r : ℕ} (e : Some r ≡ places_end ws k (at + 3)) where
        -- it lies inside
        pub going_room : (at + 3 + k ≤ r) × (r ≤ length ws)
        going_room =
            let n = suc (word ws (suc (suc at))) in
            let b : at + 3 ≡ suc (suc (suc at)) = omega arith in
            let (f, h, o) = places_good ws n (suc (suc (suc at))) (omega arith) (placed e) in
            let a : word ws (at + 2) ≡ word ws (suc (suc at)) = ap (word ws) (omega arith) in
            (omega (arith, operands_up ws n (suc (suc (suc at))), f, s, a), h)

        pub going_on : Going ws r (words + (r - (at + 3) - k))
        going_on = number G.turns (λ z. absurd (omega (arith, G.enough, z)))
            (λ n t.
            let R = going_room in
            let u : rest ws G.turns at words ≡ rest ws (suc n) at words = ap (λ (y : ℕ). rest ws y at words) t in
            let g = rest_good ws n at words l (omega arith) (placed e) in
            let a : word ws (at + 2) ≡ word ws (suc (suc at)) = ap (word ws) (omega arith) in
            let w : r - suc (suc (suc at)) - suc (word ws (suc (suc at))) ≡ r - (at + 3) - k = omega (arith, s, a) in
            record {
              turns = n;
              enough = omega (arith, G.enough, t, R.0);
              inside = R.1;
              few = omega (arith, G.few, R.0);
              same = G.same ∙ u ∙ rw (← w) g;
            })
