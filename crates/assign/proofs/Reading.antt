-- What model reads of a list is what stands at its words; and where it is cut off.
use mathlib.Core.Path.{◌≡◌, refl, ap, ◌∙◌, subst}
use mathlib.Core.List.{List, [], ◌∷◌, ◌++◌}
use Prim.Native.Nat.{ℕ, zero, suc, ◌+◌, ◌*◌, ◌≤◌, ◌<◌}
use native.Mathlib.Omega.{arith}
use native.Mathlib.Decide.{dec_lt}
use lib.ListN.{length, drop, drop_of_length-le}
use lib.Seq.{drop-cons}
use Rattle.model.specs.Words.{word}
use Rattle.model.specs.Answer.{refused, done, ◌>>=◌}
use Rattle.model.specs.Assign.{Operand, Assign, read_items, read_operand, read_operands, read_assign, read_list}
use Rattle.base.specs.Tests.{clash}
use Rattle.base.specs.Answer.{then_done}
use Rattle.assign.specs.Words.{items_at, operand_at, operand_end, operands_at, operands_end, destination_at, assign_at, assign_end, Ahead, ahead_none, ahead_more}

-- by cases: a is below b, or b is at most a
pub below : {P : Type 0} (a b : ℕ) → (a < b → P) → (b ≤ a → P) → P
below a b f g = elim (dec_lt a b) [ yes l ↦ f l | no n ↦ g (omega arith) ]

-- a list that is read to its end; one more statement
pub list_empty : (n : ℕ) → read_list n [] ≡ done []
unfolding read_list
list_empty zero = refl
list_empty (suc n) = refl

list_stuck : (w : ℕ) (l : List ℕ) → read_list zero (w ∷ l) ≡ refused 2
unfolding read_list
list_stuck w l = refl

pub list_more : (n w : ℕ) (l : List ℕ) → read_list (suc n) (w ∷ l) ≡ (read_assign (w ∷ l) >>= λ r. read_list n r.1 >>= λ ss. done (r.0 ∷ ss))
unfolding read_list
list_more n w l = refl

module _ (ws : List ℕ) where
  -- ITEMS

  pub one : (at : ℕ) → at < length ws → drop at ws ≡ word ws at ∷ drop (suc at) ws
  one at l = drop-cons ws at 0 l

  two : (at : ℕ) → suc at < length ws → drop at ws ≡ word ws at ∷ word ws (suc at) ∷ drop (suc (suc at)) ws
  two at l = one at (omega arith) ∙ ap (λ (t : List ℕ). word ws at ∷ t) (one (suc at) l)

  items_read : (n at : ℕ) → at + 2 * n ≤ length ws → read_items n (drop at ws) ≡ done (items_at ws at n, drop (at + 2 * n) ws)
  unfolding read_items items_at
  items_read zero at l = let z : at + 2 * 0 ≡ at = omega arith in rw z refl
  items_read (suc n) at l =
      let z : at + 2 * suc n ≡ suc (suc at) + 2 * n = omega arith in
      rw (two at (omega arith), read_items, items_read n (suc (suc at)) (omega arith), z) refl

  items_cut : (n at : ℕ) → at ≤ length ws → length ws < at + 2 * n → read_items n (drop at ws) ≡ refused 2
  unfolding read_items
  items_cut zero at i l = absurd (omega arith)
  items_cut (suc n) at i l = below (suc at) (length ws)
      (λ h. rw (two at h, read_items, items_cut n (suc (suc at)) (omega arith) (omega arith)) refl)
      (λ h. below at (length ws)
      (λ k. rw (one at k, drop_of_length-le ws {i = suc at} (omega arith), read_items) refl)
      (λ k. rw (drop_of_length-le ws {i = at} (omega arith), read_items) refl))

  -- OPERANDS

  operand_read : (at : ℕ) → operand_end ws at ≤ length ws → read_operand (drop at ws) ≡ done (operand_at ws at, drop (operand_end ws at) ws)
  unfolding read_operand
  operand_read at l = rw (one at (omega arith), read_operand) (items_read (word ws at) (suc at) l)

  operand_cut : (at : ℕ) → at ≤ length ws → length ws < operand_end ws at → read_operand (drop at ws) ≡ refused 2
  unfolding read_operand
  operand_cut at i l = below at (length ws)
      (λ h. rw (one at h, read_operand) (items_cut (word ws at) (suc at) (omega arith) l))
      (λ h. rw (drop_of_length-le ws {i = at} (omega arith), read_operand) refl)

  -- an operand that is read lies inside
  operand_back : (at : ℕ) {r : Operand × List ℕ} → at ≤ length ws → read_operand (drop at ws) ≡ done r → operand_end ws at ≤ length ws
  operand_back at i e = below (length ws) (operand_end ws at) (λ h. clash (cc (operand_cut at i h))) (λ h. h)

  -- each begins behind the one before
  pub operands_up : (k at : ℕ) → at + k ≤ operands_end ws k at
  unfolding operands_end
  operands_up zero at = omega arith
  operands_up (suc k) at = omega (arith, operands_up k (operand_end ws at))

  -- i of them, then m
  pub split_end : (i m at : ℕ) → operands_end ws (i + m) at ≡ operands_end ws m (operands_end ws i at)
  unfolding operands_end
  split_end zero m at = let z : 0 + m ≡ m = omega arith in rw z refl
  split_end (suc i) m at = let z : suc i + m ≡ suc (i + m) = omega arith in rw z (split_end i m (operand_end ws at))

  pub split_at : (i m at : ℕ) → operands_at ws (i + m) at ≡ operands_at ws i at ++ operands_at ws m (operands_end ws i at)
  unfolding operands_end operands_at
  split_at zero m at = let z : 0 + m ≡ m = omega arith in rw z refl
  split_at (suc i) m at =
      let z : suc i + m ≡ suc (i + m) = omega arith in
      rw z (ap (λ (l : List Operand). operand_at ws at ∷ l) (split_at i m (operand_end ws at)))

  operands_read : (k at : ℕ) → operands_end ws k at ≤ length ws → read_operands k (drop at ws) ≡ done (operands_at ws k at, drop (operands_end ws k at) ws)
  unfolding read_operands operands_at operands_end
  operands_read zero at l = refl
  operands_read (suc k) at l =
      let m : operand_end ws at ≤ length ws = omega (arith, operands_up k (operand_end ws at)) in
      rw (operand_read at m, operands_read k (operand_end ws at) l) refl

  operands_back : (k at : ℕ) {r : List Operand × List ℕ} → at ≤ length ws → read_operands k (drop at ws) ≡ done r → operands_end ws k at ≤ length ws
  unfolding read_operands operands_end
  operands_back zero at i e = i
  operands_back (suc k) at i e =
      let (p, u, f) = then_done (read_operand (drop at ws)) e in
      let m = operand_back at i u in
      let (q, v, g) = then_done (read_operands k p.1) f in
      let z : read_operands k (drop (operand_end ws at) ws) ≡ done q = cc (operand_read at m) in
      operands_back k (operand_end ws at) m z

  -- STATEMENTS

  three : (at : ℕ) → suc (suc at) < length ws → drop at ws ≡ word ws at ∷ word ws (suc at) ∷ word ws (suc (suc at)) ∷ drop (suc (suc (suc at))) ws
  three at l = two at (omega arith) ∙ ap (λ (t : List ℕ). word ws at ∷ word ws (suc at) ∷ t) (one (suc (suc at)) l)

  pub assign_read : (at : ℕ) → assign_end ws at ≤ length ws → read_assign (drop at ws) ≡ done (assign_at ws at, drop (assign_end ws at) ws)
  unfolding read_assign
  assign_read at l =
      let u = operands_up (word ws (suc (suc at))) (suc (suc (suc at))) in
      rw (three at (omega arith), read_assign, operands_read (word ws (suc (suc at))) (suc (suc (suc at))) (omega arith), operand_read (destination_at ws at) l) refl

  assign_back : (at : ℕ) {r : Assign × List ℕ} → at ≤ length ws → read_assign (drop at ws) ≡ done r → assign_end ws at ≤ length ws
  unfolding read_assign
  assign_back at {r} i e = below (suc (suc at)) (length ws)
      (λ h.
      let f : (read_operands (word ws (suc (suc at))) (drop (suc (suc (suc at))) ws) >>= λ q. read_operand q.1 >>= λ d.
      done (record { kind = word ws at; flag = word ws (suc at); operands = q.0; destination = d.0 }, d.1)) ≡ done r = cc (three at h) in
      let (q, u, g) = then_done (read_operands (word ws (suc (suc at))) (drop (suc (suc (suc at))) ws)) f in
      let m = operands_back (word ws (suc (suc at))) (suc (suc (suc at))) (omega arith) u in
      let (d, v, w) = then_done (read_operand q.1) g in
      let z : read_operand (drop (destination_at ws at) ws) ≡ done d = cc (operands_read (word ws (suc (suc at))) (suc (suc (suc at))) m) in
      operand_back (destination_at ws at) m z)
      (λ h. clash (cc (short h)))
    where
      short : length ws ≤ suc (suc at) → read_assign (drop at ws) ≡ refused 2
      short h = below (suc at) (length ws)
          (λ k. rw (two at k, drop_of_length-le ws {i = suc (suc at)} (omega arith), read_assign) refl)
          (λ k. below at (length ws)
          (λ j. rw (one at j, drop_of_length-le ws {i = suc at} (omega arith), read_assign) refl)
          (λ j. rw (drop_of_length-le ws {i = at} (omega arith), read_assign) refl))

  -- THE LIST

  ended : (n at : ℕ) {ss : List Assign} → length ws ≤ at → at ≤ length ws → read_list n (drop at ws) ≡ done ss → Ahead ws at ss
  ended n at {ss} h i e =
      let z : [] ≡ ss = cc (drop_of_length-le ws {i = at} h, list_empty n) in
      subst (Ahead ws at) z (ahead_none (omega arith))

  ahead_read : {at : ℕ} {ss : List Assign} (n : ℕ) → Ahead ws at ss → length ws ≤ at + n → read_list n (drop at ws) ≡ done ss
  unfolding read_list
  ahead_read {at} zero (ahead_none e) f = rw (drop_of_length-le ws {i = at} (omega arith), read_list) refl
  ahead_read {at} (suc n) (ahead_none e) f = rw (drop_of_length-le ws {i = at} (omega arith), read_list) refl
  ahead_read {at} zero (ahead_more l A) f = absurd (omega (arith, operands_up (word ws (suc (suc at))) (suc (suc (suc at)))))
  ahead_read {at} (suc n) (ahead_more {ss = ss} l A) f =
      let u = operands_up (word ws (suc (suc at))) (suc (suc (suc at))) in
      let r = assign_read at l in
      let d = one at (omega arith) in
      let g : read_assign (word ws at ∷ drop (suc at) ws) ≡ done (assign_at ws at, drop (assign_end ws at) ws) = cc in
      rw (d, read_list, g, ahead_read {at = assign_end ws at} n A (omega arith)) refl

  -- what is read stands there
  pub list_ahead : (n at : ℕ) {ss : List Assign} → at ≤ length ws → read_list n (drop at ws) ≡ done ss → Ahead ws at ss
  list_ahead zero at {ss} i e = below at (length ws)
      (λ h. clash (cc (one at h, list_stuck (word ws at) (drop (suc at) ws))))
      (λ h. ended zero at h i e)
  list_ahead (suc n) at {ss} i e = below at (length ws)
      (λ h.
      let d = one at h in
      let f : (read_assign (drop at ws) >>= λ r. read_list n r.1 >>= λ ts. done (r.0 ∷ ts)) ≡ done ss = cc (list_more n (word ws at) (drop (suc at) ws)) in
      let (r, u, g) = then_done (read_assign (drop at ws)) f in
      let m = assign_back at i u in
      let q : r ≡ (assign_at ws at, drop (assign_end ws at) ws) = cc (assign_read at m) in
      let (ts, v, k) = then_done (read_list n r.1) g in
      let w : read_list n (drop (assign_end ws at) ws) ≡ done ts = cc in
      let z : assign_at ws at ∷ ts ≡ ss = cc in
      subst (Ahead ws at) z (ahead_more m (list_ahead n (assign_end ws at) m w)))
      (λ h. ended (suc n) at h i e)

  -- the first of what stands ahead
  pub record First (at : ℕ) (ss : List Assign) : Type 0 where
    pub rest : List Assign
    pub all : ss ≡ assign_at ws at ∷ rest
    pub inside : assign_end ws at ≤ length ws
    pub ahead : Ahead ws (assign_end ws at) rest

  pub ahead_first : {at : ℕ} {ss : List Assign} → Ahead ws at ss → at < length ws → First at ss
  ahead_first (ahead_none e) l = absurd (omega arith)
  ahead_first (ahead_more {ss = ss} m A) l = record { rest = ss; all = refl; inside = m; ahead = A }

  -- a statement has four words at least
  pub assign_long : (at : ℕ) → 4 + at ≤ assign_end ws at
  assign_long at = omega (arith, operands_up (word ws (suc (suc at))) (suc (suc (suc at))))

  -- nothing is ahead at the end
  pub ahead_last : {at : ℕ} {ss : List Assign} → Ahead ws at ss → length ws ≤ at → ss ≡ []
  ahead_last (ahead_none e) l = refl
  ahead_last {at} (ahead_more m A) l = absurd (omega (arith, m, assign_long at))

  pub ahead_at : {at : ℕ} {ss : List Assign} → Ahead ws at ss → length ws ≤ at → at ≡ length ws
  ahead_at (ahead_none e) l = e
  ahead_at {at} (ahead_more m A) l = absurd (omega (arith, m, assign_long at))
