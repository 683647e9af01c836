-- The waiting number of lowest rank.
use Rattle.std.specs.Prelude.{◌≡◌, refl, Bool, ltb}
use Rattle.std.proofs.Common.{sym, ap, ◌∙◌, subst, arith}
use Rattle.std.proofs.Math.Bool.{true, false}
use Rattle.std.proofs.Math.Option.{Option, none, some}
use Prim.Native.Nat.{ℕ, zero, suc, ◌≤◌, ◌<◌}
use borrow.Author.Tests.{ltb-true, ltb-false}
use Rattle.model.specs.Rounds.{better, lowest}
use Rattle.base.specs.Tests.{split, split_option, clash}
use Rattle.base.specs.Below.{below_suc}

module _ (rank : ℕ → ℕ) (waits : ℕ → Bool) where
  -- what it gives: none if none waits, else one that waits and whose rank is the lowest
  pub data Lowest (n : ℕ) : Option ℕ → Type 0 where
    no_one : ((b : ℕ) → b < n → waits b ≡ false) → Lowest n none
    the_one : {b : ℕ} → b < n → waits b ≡ true → ((c : ℕ) → c < n → waits c ≡ true → rank b ≤ rank c) → Lowest n (some b)

  -- of the numbers below n, and of n
  one_more_of : (P : ℕ → Type 0) (n : ℕ) → ((c : ℕ) → c < n → P c) → P n → (c : ℕ) → c < suc n → P c
  one_more_of P n f p c l = below_suc l (λ e. subst P (sym e) p) (f c)

  -- the lowest of one number more, if that one waits
  one_more : (n : ℕ) (o : Option ℕ) → Lowest n o → waits n ≡ true → Lowest (suc n) (better rank o n)
  unfolding better
  one_more n _ (no_one f) w = the_one {b = n} (omega arith) w
      (one_more_of (λ c. waits c ≡ true → rank n ≤ rank c) n (λ c l v. clash (cc (f c l))) (λ v. omega arith))
  one_more n _ (the_one {b} l v h) w = split (ltb (rank n) (rank b))
      (λ e. let k = ltb-true (rank n) (rank b) e in rw (e, better) (the_one {b = n} (omega arith) w
      (one_more_of (λ c. waits c ≡ true → rank n ≤ rank c) n (λ c m u. omega (arith, h c m u)) (λ u. omega arith))))
      (λ e. let k = ltb-false (rank n) (rank b) e in rw (e, better) (the_one {b = b} (omega arith) v
      (one_more_of (λ c. waits c ≡ true → rank b ≤ rank c) n h (λ u. k))))

  -- it is the lowest
  pub lowest_law : (n : ℕ) → Lowest n (lowest rank waits n)
  unfolding lowest
  lowest_law zero = no_one (λ b l. absurd (omega arith))
  lowest_law (suc n) = split (waits n)
      (λ e. rw (e, lowest) (one_more n (lowest rank waits n) (lowest_law n) e))
      (λ e. rw (e, lowest) (go (lowest rank waits n) (lowest_law n) e))
    where
      go : (o : Option ℕ) → Lowest n o → waits n ≡ false → Lowest (suc n) o
      go _ (no_one f) w = no_one (one_more_of (λ c. waits c ≡ false) n f w)
      go _ (the_one {b} l v h) w = the_one {b = b} (omega arith) v
          (one_more_of (λ c. waits c ≡ true → rank b ≤ rank c) n h (λ u. clash (cc)))

  -- none: none waits
  pub lowest_none : (n : ℕ) → lowest rank waits n ≡ none → (b : ℕ) → b < n → waits b ≡ false
  lowest_none n e = go (lowest rank waits n) (lowest_law n) e
    where
      go : (o : Option ℕ) → Lowest n o → o ≡ none → (b : ℕ) → b < n → waits b ≡ false
      go _ (no_one f) d = f
      go _ (the_one l v h) d = clash (cc)

  -- some: it waits, and is below n
  pub lowest_some : (n b : ℕ) → lowest rank waits n ≡ some b → (b < n) × (waits b ≡ true)
  lowest_some n b e = go (lowest rank waits n) (lowest_law n) e
    where
      go : (o : Option ℕ) → Lowest n o → o ≡ some b → (b < n) × (waits b ≡ true)
      go _ (no_one f) d = clash (cc)
      go _ (the_one {b = c} l v h) d = let q : c ≡ b = cc in rw (← q) (l, v)

  -- and no other waiting one has a lower rank
  pub lowest_rank : (n b c : ℕ) → lowest rank waits n ≡ some b → c < n → waits c ≡ true → rank b ≤ rank c
  lowest_rank n b c e = go (lowest rank waits n) (lowest_law n) e
    where
      go : (o : Option ℕ) → Lowest n o → o ≡ some b → c < n → waits c ≡ true → rank b ≤ rank c
      go _ (no_one f) d = clash (cc)
      go _ (the_one {b = a} l v h) d = let q : a ≡ b = cc in rw (← q) (h c)

  -- none waits: there is none
  pub lowest_empty : (n : ℕ) → ((b : ℕ) → b < n → waits b ≡ false) → lowest rank waits n ≡ none
  lowest_empty n f = split_option (lowest rank waits n)
      (λ e. e)
      (λ b e. let (l, w) = lowest_some n b e in clash (cc (f b l)))

  -- b waits, and each that waits with no higher rank is b: it is b
  pub lowest_is : (n b : ℕ) → b < n → waits b ≡ true → ((c : ℕ) → c < n → waits c ≡ true → rank c ≤ rank b → c ≡ b) → lowest rank waits n ≡ some b
  lowest_is n b l w f = split_option (lowest rank waits n)
      (λ e. clash (cc (lowest_none n e b l)))
      (λ c e. let (k, v) = lowest_some n c e in e ∙ ap some (f c k v (lowest_rank n c b e l w)))

-- sets that agree below n have one lowest
pub lowest_same : (rank : ℕ → ℕ) (v w : ℕ → Bool) (n : ℕ) → ((b : ℕ) → b < n → v b ≡ w b) → lowest rank v n ≡ lowest rank w n
unfolding lowest
lowest_same rank v w zero f = refl
lowest_same rank v w (suc n) f =
    let k = lowest_same rank v w n (λ b l. f b (omega arith)) in
    let e = f n (omega arith) in
    split (v n) (λ d. cc) (λ d. cc)
