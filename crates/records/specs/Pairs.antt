-- Two lists read as one list of pairs, and zeros behind a list: what a state record and a statement record share.
use Rattle.std.specs.Prelude.{◌≡◌, refl, true, List, [], ◌∷◌, ◌++◌, map, ℕ, zero, suc, ◌-◌, ◌≤◌, eqb, length, take, drop, replicate}
use Rattle.std.proofs.Common.{sym, ap, ap₂, ◌∙◌, suc-ne-zero, arith, length-append, length-drop, take-append-drop, length-take-le, eqb-true}
use Rattle.std.proofs.lemmas.List.{map-append, length-replicate}
use Rattle.std.proofs.Math.Nat.{suc_inj}
use Rattle.std.proofs.Math.Seq.{take_at, drop_at}
use Rattle.model.specs.State.{Code, most, padded, pairs, zeros}
use Rattle.base.specs.Tests.{and_left, and_right}
use Rattle.records.specs.Here.{firsts, seconds}

-- LISTS

-- the first of what a function makes of a list are made of its first
pub take_map : {A B : Type 0} (f : A → B) (n : ℕ) (l : List A) → take n (map f l) ≡ map f (take n l)
take_map f zero l = refl
take_map f (suc n) [] = refl
take_map f (suc n) (x ∷ l) = ap (λ r. f x ∷ r) (take_map f n l)

-- PAIRS

-- the first halves of two lists, one behind the other
pub firsts_append : (a b : List Code) → firsts (a ++ b) ≡ firsts a ++ firsts b
firsts_append a b = map-append (λ c. c.0) a b

-- the second halves
pub seconds_append : (a b : List Code) → seconds (a ++ b) ≡ seconds a ++ seconds b
seconds_append a b = map-append (λ c. c.1) a b

-- the pairs of both halves
pub pairs_halves : (cs : List Code) → pairs (firsts cs) (seconds cs) ≡ cs
unfolding pairs
pairs_halves [] = refl
pairs_halves (c ∷ cs) = ap (λ (l : List Code). c ∷ l) (pairs_halves cs)

-- the first halves of the pairs of two lists as long as each other
pub firsts_pairs : (a b : List ℕ) → length a ≡ length b → firsts (pairs a b) ≡ a
unfolding pairs
firsts_pairs [] b e = refl
firsts_pairs (x ∷ a) [] e = absurd (suc-ne-zero _ e)
firsts_pairs (x ∷ a) (y ∷ b) e = ap (λ (l : List ℕ). x ∷ l) (firsts_pairs a b (suc_inj e))

-- the second halves
pub seconds_pairs : (a b : List ℕ) → length a ≡ length b → seconds (pairs a b) ≡ b
unfolding pairs
seconds_pairs [] [] e = refl
seconds_pairs [] (y ∷ b) e = absurd (suc-ne-zero _ (sym e))
seconds_pairs (x ∷ a) [] e = absurd (suc-ne-zero _ e)
seconds_pairs (x ∷ a) (y ∷ b) e = ap (λ (l : List ℕ). y ∷ l) (seconds_pairs a b (suc_inj e))

-- the first n pairs
pub take_pairs : (n : ℕ) (a b : List ℕ) → take n (pairs a b) ≡ pairs (take n a) (take n b)
unfolding pairs
take_pairs zero a b = refl
take_pairs (suc n) [] b = refl
take_pairs (suc n) (x ∷ a) [] = refl
take_pairs (suc n) (x ∷ a) (y ∷ b) = ap (λ (l : List Code). (x, y) ∷ l) (take_pairs n a b)

-- ZEROS

-- n zeros are zeros
pub zeros_replicate : (n : ℕ) → zeros (replicate n 0) ≡ true
zeros_replicate zero = refl
zeros_replicate (suc n) = zeros_replicate n

-- nothing but zeros
pub zeros_are : (l : List ℕ) → zeros l ≡ true → l ≡ replicate (length l) 0
zeros_are [] e = refl
zeros_are (x ∷ l) e =
    ap₂ (λ (y : ℕ) (k : List ℕ). y ∷ k) (eqb-true x 0 (and_left (eqb x 0) (zeros l) e)) (zeros_are l (and_right (eqb x 0) (zeros l) e))

-- a list with zeros behind it, 512 in all
module _ (l : List ℕ) where
  -- a short list is 512 long
  pub length_padded : length l ≤ most → length (padded l) ≡ most
  unfolding padded
  length_padded h = rw (length-append, length-replicate) (omega arith)

  -- its own words are in front
  pub take_padded : (n : ℕ) → length l ≡ n → take n (padded l) ≡ l
  unfolding padded
  take_padded n e = take_at l _ n e

  -- zeros are behind them
  pub drop_padded : (n : ℕ) → length l ≡ n → drop n (padded l) ≡ replicate (most - length l) 0
  unfolding padded
  drop_padded n e = drop_at l _ n e

-- what is zero past n is its first n, padded
pub padded_take : (l : List ℕ) (n : ℕ) → n ≤ most → length l ≡ most → zeros (drop n l) ≡ true → padded (take n l) ≡ l
unfolding padded
padded_take l n h e z =
    let long : length (take n l) ≡ n = length-take-le n l (omega arith) in
    let rest : length (drop n l) ≡ most - length (take n l) = length-drop n l ∙ omega arith in
    rw (← rest, ← zeros_are (drop n l) z) (take-append-drop n l)
