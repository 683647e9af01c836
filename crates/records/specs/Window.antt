-- The window of n words from i on, `take n (drop i l)`, taken apart and put together. Nothing of any record.
use Rattle.std.specs.Prelude.{◌≡◌, refl, List, [], ◌∷◌, ◌++◌, ℕ, zero, suc, ◌+◌, ◌<◌, ◌≤◌, length, get_or, take, drop}
use Rattle.std.proofs.Common.{sym, ◌∙◌, ap, add-one, arith, length-take, length-drop, length-append, drop-cons, take-add, take-take, take_at, take-suc, drop_at, drop-drop, get_or-drop, length-take-le}
use Rattle.std.proofs.lemmas.List.{drop-append-le, take-append-le}
use Rattle.std.proofs.Math.Seq.{drop-append-add}

-- n words from i on
abbrev pub window : {A : Type 0} → List A → ℕ → ℕ → List A
window l i n = take n (drop i l)

module _ {A : Type 0} (l : List A) (i : ℕ) where
  -- a window with a word in it lies inside
  pub window_in : (n : ℕ) (xs : List A) → window l i n ≡ xs → length xs ≡ n → 0 < n → i + n ≤ length l
  window_in n xs e h p = omega (arith, length-take n (drop i l), length-drop i l, ap length e)

  -- its first word, and the others
  pub window_cons : (d : A) (n : ℕ) → i < length l → window l i (suc n) ≡ get_or l i d ∷ window l (i + 1) n
  window_cons d n h = rw (add-one, drop-cons l i d h)

  -- one window behind another
  pub window_append : (m n : ℕ) → window l i (m + n) ≡ window l i m ++ window l (i + m) n
  window_append m n = take-add m n (drop i l) ∙ ap (λ (k : List A). window l i m ++ take n k) (drop-drop m i l)

  -- one word more
  pub window_snoc : (d : A) (n : ℕ) → i + n < length l → window l i (n + 1) ≡ window l i n ++ (get_or l (i + n) d ∷ [])
  window_snoc d n h =
      ap (λ (k : ℕ). take k (drop i l)) (add-one n)
      ∙ take-suc (drop i l) n d (omega (arith, length-drop i l))
      ∙ ap (λ (x : A). window l i n ++ (x ∷ [])) (get_or-drop i l n d)

  -- as long as it says
  pub window_long : (n : ℕ) → i + n ≤ length l → length (window l i n) ≡ n
  window_long n h = length-take-le n (drop i l) (omega (arith, length-drop i l))

  -- a window that is known word by word
  pub record Consed (d : A) (n : ℕ) (x : A) (xs : List A) : Type 0 where
    pub inside : i < length l
    pub head : get_or l i d ≡ x
    pub tail : window l (i + 1) n ≡ xs

  -- a window that begins with x
  pub window_consed : (d : A) (n : ℕ) (x : A) (xs : List A) → window l i (suc n) ≡ x ∷ xs → Consed d n x xs
  window_consed d n x xs e =
      let lt : i < length l = omega (arith, length-take (suc n) (drop i l), length-drop i l, ap length e) in
      let w : get_or l i d ∷ window l (i + 1) n ≡ x ∷ xs = sym (window_cons d n lt) ∙ e in
      record { inside = lt; head = cc; tail = cc }

  -- a window that is known as two lists
  pub record Joined (m n : ℕ) (a b : List A) : Type 0 where
    pub left : window l i m ≡ a
    pub right : window l (i + m) n ≡ b

  -- a window that is a, then b
  pub window_joined : (m n : ℕ) (a b : List A) → window l i (m + n) ≡ a ++ b → length a ≡ m → Joined m n a b
  window_joined m n a b e h =
      let lm : length (window l i m) ≡ m = omega (arith, length-take m (drop i l), length-take (m + n) (drop i l), length-append a b, ap length e) in
      let w : window l i m ++ window l (i + m) n ≡ a ++ b = sym (window_append m n) ∙ e in
      record {
        left = sym (take_at (window l i m) (window l (i + m) n) m lm) ∙ ap (take m) w ∙ take_at a b m h;
        right = sym (drop_at (window l i m) (window l (i + m) n) m lm) ∙ ap (drop m) w ∙ drop_at a b m h;
      }

-- a window of the first k words
pub window_take : {A : Type 0} (l : List A) (q m k : ℕ) → q + m ≤ k → window (take k l) q m ≡ window l q m
window_take l zero m k h = take-take m k l (omega arith)
window_take [] (suc q) m zero h = refl
window_take [] (suc q) m (suc k) h = refl
window_take (a ∷ l) (suc q) m zero h = absurd (omega arith)
window_take (a ∷ l) (suc q) m (suc k) h = window_take l q m k (omega arith)

-- a window of two lists, inside the first
pub window_left : {A : Type 0} (a b : List A) (q m : ℕ) → q + m ≤ length a → window (a ++ b) q m ≡ window a q m
window_left a b q m h =
    let l : q ≤ length a = omega arith in
    let r : m ≤ length (drop q a) = rw length-drop (omega arith) in
    rw (drop-append-le q a b l, take-append-le m (drop q a) b r)

-- inside the second
pub window_right : {A : Type 0} (a b : List A) (n p m : ℕ) → length a ≡ n → window (a ++ b) (n + p) m ≡ window b p m
window_right a b n p m e = rw (← e, drop-append-add a b p)
