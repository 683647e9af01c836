-- Equal words in a row: what is left of them, the first of them, and each of them.
use Rattle.std.specs.Prelude.{◌≡◌, refl, List, ◌∷◌, ℕ, zero, suc, ◌-◌, ◌≤◌, take, drop, replicate}
use Rattle.std.proofs.Common.{sym, ap, ◌∙◌, arith}
use Rattle.std.proofs.Math.Nat.{sub-zero, zero-sub, suc-sub-suc}
use Rattle.model.specs.Words.{word}

-- what is left of m equal words
pub drop_replicate : (n m a : ℕ) → drop n (replicate m a) ≡ replicate (m - n) a
drop_replicate zero m a = ap (λ (k : ℕ). replicate k a) (sym (sub-zero m))
drop_replicate (suc n) zero a = ap (λ (k : ℕ). replicate k a) (sym (zero-sub (suc n)))
drop_replicate (suc n) (suc m) a = drop_replicate n m a ∙ ap (λ (k : ℕ). replicate k a) (sym (suc-sub-suc m n))

-- the first of m equal words
pub take_replicate : (n m a : ℕ) → n ≤ m → take n (replicate m a) ≡ replicate n a
take_replicate zero m a h = refl
take_replicate (suc n) zero a h = absurd (omega arith)
take_replicate (suc n) (suc m) a h = ap (λ (l : List ℕ). a ∷ l) (take_replicate n m a (omega arith))

-- each word of zeros is 0, and past them too
pub zero_word : (n i : ℕ) → word (replicate n 0) i ≡ 0
zero_word zero i = refl
zero_word (suc n) zero = refl
zero_word (suc n) (suc i) = zero_word n i
