-- Words of a list: mapped, stored one behind another, stored at the front of zeros. Nothing of any record.
use Rattle.std.specs.Prelude.{◌≡◌, refl, List, [], ◌∷◌, ◌++◌, map, ℕ, zero, suc, ◌+◌, ◌≤◌, ◌<◌, length, drop, set, replicate}
use Rattle.std.proofs.Common.{◌∙◌, ap, not-suc-le-zero, le_of_suc-le-suc, zero-add, arith}
use Rattle.std.proofs.lemmas.List.{length-replicate}
use Rattle.std.proofs.lemmas.List.Edits.{sets, sets-eq}
use Rattle.model.specs.Words.{word}
use Rattle.model.specs.Record.{lent}
use Rattle.base.specs.Equal.{drop_replicate}

-- a word of a mapped list
pub map_word : (f : ℕ → ℕ) (l : List ℕ) (i : ℕ) → i < length l → word (map f l) i ≡ f (word l i)
map_word f [] i h = absurd (not-suc-le-zero h)
map_word f (x ∷ l) zero h = refl
map_word f (x ∷ l) (suc i) h = map_word f l i (le_of_suc-le-suc h)

-- stores one after the other
pub sets_append : (l : List ℕ) (i : ℕ) (a b : List ℕ) → sets l i (a ++ b) ≡ sets (sets l i a) (i + length a) b
sets_append l i [] b = ap (λ (k : ℕ). sets l k b) (omega arith)
sets_append l i (x ∷ a) b = sets_append (set l i x) (suc i) a b ∙ ap (λ (k : ℕ). sets (sets (set l i x) (suc i) a) k b) (omega arith)

-- a list stored from the first word of an array of zeros on
pub sets_lent : (n : ℕ) (l : List ℕ) → length l ≤ n → sets (replicate n 0) 0 l ≡ lent n l
unfolding lent
sets_lent n l h =
    sets-eq l (replicate n 0) 0 (omega (arith, length-replicate {A = ℕ} n 0))
    ∙ ap (λ (k : ℕ). l ++ drop k (replicate n 0)) (zero-add (length l))
    ∙ ap (λ (r : List ℕ). l ++ r) (drop_replicate (length l) n 0)
