-- Tests, sums and counts over the numbers below n: `all`, `sum`, `count_below`. Nothing of any record or tree.
use Rattle.std.specs.Prelude.{◌≡◌, ◌≢◌, Bool, true, false}
use Rattle.std.proofs.Math.Path.{refl, ap, subst}
use Rattle.std.proofs.Common.{sym, ap₂, ◌∙◌, ⊎_elim, true≢false, le_refl, le_of_suc-le-suc, eq-or-lt_of_le, not-suc-le-zero, add-suc, add-zero, add_assoc}
use Rattle.std.proofs.Math.Bool.{cond}
use Prim.Native.Nat.{ℕ, zero, suc, ◌+◌, ◌≤◌, ◌<◌}
use native.Mathlib.Omega.{arith}
use Rattle.std.proofs.Math.Decide.{dec_lt}
use Rattle.model.specs.Words.{all, sum, count_below}
use Rattle.base.specs.Tests.{split, and_left, and_right}

-- a number below n + 1 is n or below n
pub below_suc : {P : Type 0} {i n : ℕ} → i < suc n → (i ≡ n → P) → (i < n → P) → P
below_suc h f g = ⊎_elim f g (eq-or-lt_of_le (le_of_suc-le-suc h))

-- ALL

module _ (p : ℕ → Bool) where
  -- all pass: each does
  pub all_at : (n : ℕ) → all p n ≡ true → (i : ℕ) → i < n → p i ≡ true
  unfolding all
  all_at zero e i h = absurd (not-suc-le-zero h)
  all_at (suc n) e i h = below_suc h (λ d. ap p d ∙ and_right (all p n) (p n) e) (λ l. all_at n (and_left (all p n) (p n) e) i l)

  -- each passes: all do
  pub all_of : (n : ℕ) → ((i : ℕ) → i < n → p i ≡ true) → all p n ≡ true
  unfolding all
  all_of zero h = refl
  all_of (suc n) h = cc (all_of n (λ i l. h i (omega arith)), h n (omega arith))

  -- one more
  pub all_suc : (n : ℕ) → all p n ≡ true → all p (suc n) ≡ p n
  unfolding all
  all_suc n e = cc

  -- fewer pass too
  pub all_fewer : (m n : ℕ) → m ≤ n → all p n ≡ true → all p m ≡ true
  all_fewer m n h e = all_of m (λ i l. all_at n e i (omega arith))

  -- one fails: not all pass
  pub all_fails : (n i : ℕ) → i < n → p i ≡ false → all p n ≡ false
  all_fails n i h e = split (all p n) (λ d. cc (all_at n d i h)) (λ d. d)

  -- not all pass: one fails
  pub all_fails_at : (n : ℕ) → all p n ≡ false → (i : ℕ) × (i < n) × (p i ≡ false)
  unfolding all
  all_fails_at zero e = absurd (true≢false e)
  all_fails_at (suc n) e = split (all p n) (λ d. (n, omega arith, cc)) (λ d. let r = all_fails_at n d in (r.0, omega arith, r.2))

-- two tests that agree below n
pub all_same : (p q : ℕ → Bool) (n : ℕ) → ((i : ℕ) → i < n → p i ≡ q i) → all p n ≡ all q n
unfolding all
all_same p q zero h = refl
all_same p q (suc n) h = cc (all_same p q n (λ i l. h i (omega arith)), h n (omega arith))

-- SUM

module _ (f : ℕ → ℕ) where
  -- one more
  pub sum_suc : (n : ℕ) → sum f (suc n) ≡ sum f n + f n
  unfolding sum
  sum_suc n = refl

  -- what lies below i, and i's own, is in the sum
  pub sum_room : (i n : ℕ) → i < n → sum f i + f i ≤ sum f n
  unfolding sum
  sum_room i zero h = absurd (not-suc-le-zero h)
  sum_room i (suc n) h =
      below_suc h (λ e. subst (λ (k : ℕ). sum f i + f i ≤ sum f k + f k) e (le_refl _)) (λ l. omega (arith, sum_room i n l))

  -- a longer sum is no smaller
  pub sum_longer : (m n : ℕ) → m ≤ n → sum f m ≤ sum f n
  sum_longer m n h = ⊎_elim (λ e. subst (λ (k : ℕ). sum f m ≤ sum f k) e (le_refl _)) (λ l. omega (arith, sum_room m n l)) (eq-or-lt_of_le h)

-- the sum of two ranges, one behind the other
pub sum_append : (f : ℕ → ℕ) (m n : ℕ) → sum f (m + n) ≡ sum f m + sum (λ i. f (m + i)) n
unfolding sum
sum_append f m zero = ap (sum f) (add-zero m) ∙ sym (add-zero (sum f m))
sum_append f m (suc n) = ap (sum f) (add-suc m n) ∙ ap (λ (k : ℕ). k + f (m + n)) (sum_append f m n) ∙ add_assoc _ _ _

-- greater summands have a greater sum
pub sum_grows : (f g : ℕ → ℕ) (n : ℕ) → ((i : ℕ) → i < n → f i ≤ g i) → sum f n ≤ sum g n
unfolding sum
sum_grows f g zero h = omega arith
sum_grows f g (suc n) h = omega (arith, sum_grows f g n (λ i l. h i (omega arith)), h n (omega arith))

-- and a sum falls where one summand does and no other rises
pub sum_falls : (f g : ℕ → ℕ) (n b : ℕ) → b < n → f b < g b → ((i : ℕ) → i < n → f i ≤ g i) → sum f n < sum g n
unfolding sum
sum_falls f g zero b l d h = absurd (omega arith)
sum_falls f g (suc n) b l d h =
    below_suc l
    (λ e. let k : f n < g n = rw e at d in omega (arith, sum_grows f g n (λ i m. h i (omega arith)), k))
    (λ m. omega (arith, sum_falls f g n b m d (λ i k. h i (omega arith)), h n (omega arith)))

-- ones add up to their number
pub sum_ones : (n : ℕ) → sum (λ i. 1) n ≡ n
unfolding sum
sum_ones zero = refl
sum_ones (suc n) = omega (arith, sum_ones n)

-- equal summands have one sum
pub sum_same : (f g : ℕ → ℕ) (n : ℕ) → ((i : ℕ) → i < n → f i ≡ g i) → sum f n ≡ sum g n
unfolding sum
sum_same f g zero h = refl
sum_same f g (suc n) h = ap₂ ◌+◌ (sum_same f g n (λ i l. h i (omega arith))) (h n (omega arith))

-- COUNT

module _ (p : ℕ → Bool) where
  -- no number
  pub count_zero : count_below p 0 ≡ 0
  unfolding count_below sum
  count_zero = refl

  -- one more that passes is counted
  pub count_pass : (n : ℕ) → p n ≡ true → count_below p (suc n) ≡ suc (count_below p n)
  unfolding count_below sum
  count_pass n e = rw e (omega arith)

  -- one more that fails is not
  pub count_fail : (n : ℕ) → p n ≡ false → count_below p (suc n) ≡ count_below p n
  unfolding count_below sum
  count_fail n e = rw e (omega arith)

  -- a longer range has no fewer
  pub count_longer : (m n : ℕ) → m ≤ n → count_below p m ≤ count_below p n
  unfolding count_below
  count_longer m n h = sum_longer (λ i. cond (p i) 1 0) m n h

  -- at most all of them pass
  pub count_most : (n : ℕ) → count_below p n ≤ n
  unfolding count_below sum
  count_most zero = omega arith
  count_most (suc n) = split (p n) (λ e. rw (count_pass n e) (omega (arith, count_most n))) (λ e. rw (count_fail n e) (omega (arith, count_most n)))

  -- one that passes is counted behind those below it
  pub count_room : (i n : ℕ) → i < n → p i ≡ true → count_below p i < count_below p n
  count_room i n h e = omega (arith, count_pass i e, count_longer (suc i) n h)

  -- two that pass count twice
  pub count_two : (i j n : ℕ) → i < n → j < n → i ≢ j → p i ≡ true → p j ≡ true → 2 ≤ count_below p n
  count_two i j n l m d e f = elim (dec_lt i j) [
    | yes k ↦ omega (arith, count_room i j k e, count_room j n m f)
    | no k ↦ omega (arith, count_room j i (omega arith) f, count_room i n l e)
  ]

  -- none passes
  pub count_none : (n : ℕ) → ((i : ℕ) → i < n → p i ≡ false) → count_below p n ≡ 0
  unfolding count_below sum
  count_none zero h = refl
  count_none (suc n) h = count_fail n (h n (omega arith)) ∙ count_none n (λ i l. h i (omega arith))
