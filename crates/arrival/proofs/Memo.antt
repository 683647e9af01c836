-- What is kept for each block, in one array: one word written in a part changes that part alone. Assumes nothing.
use mathlib.Core.Path.{◌≡◌, refl, sym, ap, ◌∙◌, subst}
use mathlib.Core.List.{List, [], ◌∷◌, ◌++◌, append-nil}
use Prim.Native.Nat.{ℕ, zero, suc, ◌+◌, ◌-◌, ◌≤◌, ◌<◌, min}
use native.Mathlib.Omega.{arith}
use lib.ListN.{length, take, drop, set, replicate, length-set, length-take, length-drop, length-append, length-replicate}
use lib.Seq.{take-set-le, drop-set-lt, get_or-take, get_or-drop, take_at, drop_at, length-take-le}
use borrow.Rule.Slice.PartMut.{put_mid}
use Rattle.std.proofs.lemmas.List.{drop_all}
use Rattle.model.specs.Words.{word}
use Rattle.base.specs.Equal.{take_replicate}
use Rattle.arrival.specs.Arrivals.{Shelved}
use Rattle.arrival.specs.Shares.{kept_in, visited_in, Stores, Visited, Unvisited, arrays_in, Alike}

-- a word written in front
take_set : (n : ℕ) (l : List ℕ) (i a : ℕ) → i < n → take n (set l i a) ≡ set (take n l) i a
take_set zero l i a h = absurd (omega arith)
take_set (suc n) [] i a h = refl
take_set (suc n) (x ∷ l) zero a h = refl
take_set (suc n) (x ∷ l) (suc i) a h = ap (λ (r : List ℕ). x ∷ r) (take_set n l i a (omega arith))

-- and behind
drop_set : (n : ℕ) (l : List ℕ) (j a : ℕ) → n ≤ j → drop n (set l j a) ≡ set (drop n l) (j - n) a
drop_set zero l j a h = ap (λ (k : ℕ). set l k a) (omega arith)
drop_set (suc n) [] j a h = refl
drop_set (suc n) (x ∷ l) zero a h = absurd (omega arith)
drop_set (suc n) (x ∷ l) (suc j) a h = drop_set n l j a (omega arith) ∙ ap (λ (k : ℕ). set (drop n l) k a) (omega arith)

-- the word of a block in the first part
pub kept_word : (memo : List ℕ) (b : ℕ) → b < 256 → word memo b ≡ word (kept_in memo) b
kept_word memo b h = sym (get_or-take 256 memo b 0 h)

-- and in the second
pub visited_word : (memo : List ℕ) (b : ℕ) → b < 256 → word memo (256 + b) ≡ word (visited_in memo) b
visited_word memo b h = sym (get_or-take 256 (drop 256 memo) b 0 h ∙ get_or-drop 256 memo b 0)

-- a count is stored
pub stores : (memo : List ℕ) (b k : ℕ) → b < 256 → Stores memo b k (set memo b k)
stores memo b k h = record {
  same = length-set memo b k;
  kept = take_set 256 memo b k h;
  visited = ap (take 256) (drop-set-lt 256 memo b k h);
}

-- a block is visited
pub visits : (memo : List ℕ) (b : ℕ) → b < 256 → Visited memo b (set memo (256 + b) 1)
visits memo b h = record {
  same = length-set memo (256 + b) 1;
  kept = take-set-le 256 memo (256 + b) 1 (omega arith);
  visited =
      let e : 256 + b - 256 ≡ b = omega arith in
      ap (take 256) (drop_set 256 memo (256 + b) 1 (omega arith) ∙ ap (λ (k : ℕ). set (drop 256 memo) k 1) e) ∙ take_set 256 (drop 256 memo) b 1 h;
}

-- both parts are there
pub parts_long : (memo : List ℕ) → length (kept_in memo) ≡ 256 → length (visited_in memo) ≡ 256 → 512 ≤ length memo
parts_long memo e d = omega (arith, rw (length-take, length-drop) at d)

-- zeros are written behind the first n
zeros_behind : (n : ℕ) (l ys : List ℕ) → n ≤ length l → ys ≡ replicate (length l - n) 0 → put_mid n (length l - n) l ys ≡ take n l ++ replicate (length l - n) 0
zeros_behind n l ys h e =
    let none : drop (length l - n) (drop n l) ≡ [] = drop_all (length l - n) (drop n l) (omega (arith, length-drop n l)) in
    rw (e, none) (ap (λ (t : List ℕ). take n l ++ t) (append-nil (replicate (length l - n) 0)))

-- none is
pub unvisits : (memo ys : List ℕ) → 512 ≤ length memo → ys ≡ replicate (length memo - 256) 0 → Unvisited memo (put_mid 256 (length memo - 256) memo ys)
unvisits memo ys h q =
    let e : length (take 256 memo) ≡ 256 = length-take-le 256 memo (omega arith) in
    let z : List ℕ = replicate (length memo - 256) 0 in
    subst (Unvisited memo) (sym (zeros_behind 256 memo ys (omega arith) q)) (record {
      same = length-append (take 256 memo) z ∙ omega (arith, e, length-replicate {A = ℕ} (length memo - 256) 0);
      kept = take_at (take 256 memo) z 256 e;
      visited = ap (take 256) (drop_at (take 256 memo) z 256 e) ∙ take_replicate 256 (length memo - 256) 0 (omega arith);
    })

-- a block of a share has a word in the first
pub kept_inside : {Γ fn memo fs ws : List ℕ} {c : ℕ} → Shelved Γ fn memo fs ws c → c < length (kept_in memo)
kept_inside {memo} h = omega (arith, length-take-le 256 memo (omega (arith, h.long)), h.block)

-- parts of lists of one length are as long
pub kept_length : (memo memo' : List ℕ) → length memo' ≡ length memo → length (kept_in memo') ≡ length (kept_in memo)
kept_length memo memo' e = length-take 256 memo' ∙ ap (min 256) e ∙ sym (length-take 256 memo)

-- arrays of the same lengths, with what is kept for each block in one
pub alike_in : (memo memo' : List ℕ) {w w' f f' g g' : List ℕ} → length memo' ≡ length memo → length w' ≡ length w → length f' ≡ length f → length g' ≡ length g
    → Alike (arrays_in memo w f g) (arrays_in memo' w' f' g')
alike_in memo memo' d w f g = record {
  kept = kept_length memo memo' d;
  visited = length-take 256 (drop 256 memo') ∙ ap (min 256) (length-drop 256 memo' ∙ ap (λ (n : ℕ). n - 256) d ∙ sym (length-drop 256 memo)) ∙ sym (length-take 256 (drop 256 memo));
  waits = w;
  forms = f;
  whats = g;
}
