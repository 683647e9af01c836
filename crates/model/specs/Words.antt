-- Words of a record: reading one, and tests, sums and counts over the numbers below n. Nothing of any record.
use Rattle.std.specs.Prelude.{Bool, true, false, cond, ◌&&◌, List, [], ◌∷◌, ℕ, zero, suc, ◌+◌, get_or}

-- word i of a record; 0 past its end
abbrev pub word : List ℕ → ℕ → ℕ
word l i = get_or l i 0

-- p holds of every number below n
unfoldable pub all : (ℕ → Bool) → ℕ → Bool
all p zero = true
all p (suc n) = all p n && p n

-- f 0 + .. + f (n - 1)
unfoldable pub sum : (ℕ → ℕ) → ℕ → ℕ
sum f zero = 0
sum f (suc n) = sum f n + f n

-- how many numbers below n pass p
unfoldable pub count_below : (ℕ → Bool) → ℕ → ℕ
count_below p n = sum (λ i. cond (p i) 1 0) n

-- the numbers from i on, n of them, that pass p, each as f gives it
unfoldable pub collect_from : {A : Type 0} → (ℕ → Bool) → (ℕ → A) → ℕ → ℕ → List A
collect_from p f zero i = []
collect_from p f (suc n) i = elim (p i) [ true ↦ f i ∷ collect_from p f n (suc i) | false ↦ collect_from p f n (suc i) ]
