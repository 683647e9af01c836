-- P of each element of a list. Nothing of any record or tree.
use Rattle.std.specs.Prelude.{List, [], ◌∷◌, ◌++◌, map, ℕ, zero, suc, ◌<◌, length, get_or}
use Rattle.std.proofs.Common.{arith}

-- a proof for each
pub data Each {A : Type 0} (P : A → Type 0) : List A → Type 0 where
  each_none : Each P []
  each_more : {a : A} {l : List A} → P a → Each P l → Each P (a ∷ l)

-- of the element number i
pub each_at : {A : Type 0} {P : A → Type 0} {l : List A} → Each P l → (d : A) (i : ℕ) → i < length l → P (get_or l i d)
each_at each_none d i h = absurd (omega arith)
each_at (each_more p ps) d zero h = p
each_at (each_more p ps) d (suc i) h = each_at ps d i (omega arith)

-- from a proof by number
pub at_each : {A : Type 0} {P : A → Type 0} (d : A) (l : List A) → ((i : ℕ) → i < length l → P (get_or l i d)) → Each P l
at_each d [] h = each_none
at_each d (a ∷ l) h = each_more (h 0 (omega arith)) (at_each d l (λ i n. h (suc i) (omega arith)))

-- of two lists in a row
pub each_append : {A : Type 0} {P : A → Type 0} {l r : List A} → Each P l → Each P r → Each P (l ++ r)
each_append each_none q = q
each_append (each_more p ps) q = each_more p (each_append ps q)

-- and of the first of two in a row
pub each_front : {A : Type 0} {P : A → Type 0} (l r : List A) → Each P (l ++ r) → Each P l
each_front [] r h = each_none
each_front (a ∷ l) r (each_more p ps) = each_more p (each_front l r ps)

-- two facts at once
pub each_both : {A : Type 0} {P Q : A → Type 0} {l : List A} → Each P l → Each Q l → Each (λ a. P a × Q a) l
each_both each_none each_none = each_none
each_both (each_more p ps) (each_more q qs) = each_more (p, q) (each_both ps qs)

-- each element of a list, as f gives it
pub each_map : {A B : Type 0} {P : A → Type 0} {Q : B → Type 0} (f : A → B) → ((a : A) → P a → Q (f a)) → {l : List A} → Each P l
    → Each Q (map f l)
each_map f h each_none = each_none
each_map f h (each_more {a} p ps) = each_more (h a p) (each_map f h ps)

-- a consequence
pub each_same : {A : Type 0} {P Q : A → Type 0} → ((a : A) → P a → Q a) → {l : List A} → Each P l → Each Q l
each_same h each_none = each_none
each_same h (each_more {a} p ps) = each_more (h a p) (each_same h ps)
