-- What `collect_from` collects: unfolded at the front and at the back, cut in two, its elements, its length.
use Rattle.std.specs.Prelude.{◌≡◌, Bool, true, false, length}
use Rattle.std.proofs.Math.Path.{refl}
use Rattle.std.proofs.Common.{sym, ap, ◌∙◌, add-zero, zero-add, eq-or-lt_of_le, add-one, arith, length-append}
use mathlib.Core.List.Memᴰ
use mathlib.Core.List.{List, [], ◌∷◌, ◌++◌, map, append_assoc, append-nil, Memᴰ}
use Rattle.std.proofs.Math.Logic.{⊎_elim}
use Prim.Native.Nat.{ℕ, zero, suc, ◌+◌, ◌≤◌, ◌<◌}
use Rattle.std.proofs.Math.Nat.{add-suc, suc-add}
use Rattle.model.specs.Words.{collect_from, count_below}
use Rattle.base.specs.Tests.{split}
use Rattle.base.specs.Each.{Each, each_none, each_more}
use Rattle.base.specs.Below.{count_pass, count_fail, count_zero}

-- a, if the test passed
abbrev pub passed : {A : Type 0} → Bool → A → List A
passed true a = a ∷ []
passed false a = []

-- where an element comes from: a number in the range that passes
pub record From {A : Type 0} (p : ℕ → Bool) (f : ℕ → A) (n i : ℕ) (a : A) : Type 0 where
  pub number : ℕ
  pub low : i ≤ number
  pub high : number < i + n
  pub pass : p number ≡ true
  pub is : a ≡ f number

module _ {A : Type 0} (p : ℕ → Bool) (f : ℕ → A) where
  -- no number, nothing collected
  pub collect_zero : (i : ℕ) → collect_from p f 0 i ≡ []
  unfolding collect_from
  collect_zero i = refl

  -- at the front: one that passes
  pub collect_pass : (n i : ℕ) → p i ≡ true → collect_from p f (suc n) i ≡ f i ∷ collect_from p f n (suc i)
  unfolding collect_from
  collect_pass n i e = rw (e, collect_from)

  -- at the front: one that fails
  pub collect_fail : (n i : ℕ) → p i ≡ false → collect_from p f (suc n) i ≡ collect_from p f n (suc i)
  unfolding collect_from
  collect_fail n i e = rw (e, collect_from)

  -- at the front, by either case
  pub collect_front : (n i : ℕ) → collect_from p f (suc n) i ≡ passed (p i) (f i) ++ collect_from p f n (suc i)
  collect_front n i = split (p i) (λ e. rw e (collect_pass n i e)) (λ e. rw e (collect_fail n i e))

  -- the numbers of two ranges, one behind the other
  pub collect_append : (m n i : ℕ) → collect_from p f (m + n) i ≡ collect_from p f m i ++ collect_from p f n (i + m)
  unfolding collect_from
  collect_append zero n i = rw (zero-add, add-zero)
  collect_append (suc m) n i =
      rw (suc-add, collect_front (m + n) i, collect_front m i, collect_append m n (suc i), append_assoc, suc-add i m, add-suc i m)

  -- at the back, by either case, and by one
  pub collect_back : (n i : ℕ) → collect_from p f (suc n) i ≡ collect_from p f n i ++ passed (p (i + n)) (f (i + n))
  collect_back n i =
      ap (λ (k : ℕ). collect_from p f k i) (sym (add-one n)) ∙ collect_append n 1 i
      ∙ ap (λ (l : List A). collect_from p f n i ++ l) (collect_front 0 (i + n) ∙ rw collect_zero (append-nil _))

  -- at the back: one that passes
  pub collect_back_pass : (n i : ℕ) → p (i + n) ≡ true → collect_from p f (suc n) i ≡ collect_from p f n i ++ (f (i + n) ∷ [])
  collect_back_pass n i e = collect_back n i ∙ rw e

  -- at the back: one that fails
  pub collect_back_fail : (n i : ℕ) → p (i + n) ≡ false → collect_from p f (suc n) i ≡ collect_from p f n i
  collect_back_fail n i e = collect_back n i ∙ rw e (append-nil _)

  -- a range that begins a number earlier
  from_later : {a : A} {n i : ℕ} → From p f n (suc i) a → From p f (suc n) i a
  from_later h = record { number = h.number; low = omega arith; high = omega arith; pass = h.pass; is = h.is }

  -- an element comes from a number in the range that passes
  pub collect_mem : {a : A} (n i : ℕ) → Memᴰ a (collect_from p f n i) → From p f n i a
  unfolding collect_from
  collect_mem zero i m = absurd (Memᴰ.not-nil m)
  collect_mem (suc n) i m =
      split (p i)
      (λ e. ⊎_elim
      (λ d. record { number = i; low = omega arith; high = omega arith; pass = e; is = d })
      (λ k. from_later (collect_mem n (suc i) k))
      (Memᴰ.cases_cons (rw (collect_pass n i e) at m)))
      (λ e. from_later (collect_mem n (suc i) (rw (collect_fail n i e) at m)))

  -- and what a number in the range gives that passes is collected
  pub mem_collect : (n i j : ℕ) → i ≤ j → j < i + n → p j ≡ true → Memᴰ (f j) (collect_from p f n i)
  mem_collect zero i j h l e = absurd (omega arith)
  mem_collect (suc n) i j h l e =
      ⊎_elim
      (λ d. rw (collect_pass n i (ap p d ∙ e)) (Memᴰ.head (ap f (sym d))))
      (λ k. rw (collect_front n i) (Memᴰ.append_right (passed (p i) (f i)) (mem_collect n (suc i) j k (omega arith) e)))
      (eq-or-lt_of_le h)

  -- what holds of all that the numbers in the range give that pass holds of each element
  pub collect_each : {Q : A → Type 0} (n i : ℕ) → ((j : ℕ) → i ≤ j → j < i + n → p j ≡ true → Q (f j)) → Each Q (collect_from p f n i)
  unfolding collect_from
  collect_each zero i h = each_none
  collect_each (suc n) i h =
      let k = collect_each n (suc i) (λ j l m e. h j (omega arith) (omega arith) e) in
      split (p i) (λ e. rw (e, collect_from) (each_more (h i (omega arith) (omega arith) e) k)) (λ e. rw (e, collect_from) k)

  -- none passes: nothing is collected
  pub collect_none : (n i : ℕ) → ((j : ℕ) → i ≤ j → j < i + n → p j ≡ false) → collect_from p f n i ≡ []
  unfolding collect_from
  collect_none zero i h = refl
  collect_none (suc n) i h = collect_fail n i (h i (omega arith) (omega arith)) ∙ collect_none n (suc i) (λ j k l. h j (omega arith) (omega arith))

  -- as many as pass
  pub collect_length : (n : ℕ) → length (collect_from p f n 0) ≡ count_below p n
  collect_length zero = ap length (collect_zero 0) ∙ sym (count_zero p)
  collect_length (suc n) =
      split (p n)
      (λ e. ap length (collect_back_pass n 0 (ap p (zero-add n) ∙ e)) ∙ rw (length-append, count_pass p n e, collect_length n) (add-one _))
      (λ e. ap length (collect_back_fail n 0 (ap p (zero-add n) ∙ e)) ∙ rw (count_fail p n e) (collect_length n))

-- what is collected, mapped
pub collect_map : {A B : Type 0} (p : ℕ → Bool) (f : ℕ → A) (g : A → B) (n i : ℕ) → map g (collect_from p f n i) ≡ collect_from p (λ j. g (f j)) n i
unfolding collect_from
collect_map p f g zero i = refl
collect_map p f g (suc n) i =
    split (p i)
    (λ e. rw (collect_pass p f n i e, collect_pass p (λ j. g (f j)) n i e, collect_map p f g n (suc i)))
    (λ e. rw (collect_fail p f n i e, collect_fail p (λ j. g (f j)) n i e, collect_map p f g n (suc i)))

-- tests that agree, and what they give, collect alike
pub collect_same : {A : Type 0} (p q : ℕ → Bool) (f g : ℕ → A) (n i : ℕ)
    → ((j : ℕ) → i ≤ j → j < i + n → p j ≡ q j)
    → ((j : ℕ) → i ≤ j → j < i + n → f j ≡ g j)
    → collect_from p f n i ≡ collect_from q g n i
unfolding collect_from
collect_same p q f g zero i h k = refl
collect_same p q f g (suc n) i h k =
    let ih = collect_same p q f g n (suc i) (λ j l m. h j (omega arith) (omega arith)) (λ j l m. k j (omega arith) (omega arith)) in
    rw (collect_front p f n i, collect_front q g n i, h i (omega arith) (omega arith), k i (omega arith) (omega arith), ih)
