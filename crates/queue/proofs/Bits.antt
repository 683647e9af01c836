-- Bits of a word: of a disjunction, of a power of two, and the lowest that is set; and of the words of a set.
use mathlib.Core.Path.{◌≡◌, refl, sym, ap, ◌∙◌}
use mathlib.Core.Bool.{Bool, true, false, cond, not, ◌||◌}
use mathlib.Core.List.{List, [], ◌∷◌}
use Prim.Native.Nat.{ℕ, zero, suc, ◌+◌, ◌*◌, ◌-◌, ◌/◌, ◌%◌, ◌^◌, ◌≤◌, ◌<◌, max}
use native.Mathlib.Nat.{pow-suc}
use native.Mathlib.Decide.{ℕ_discrete, dec_lt}
use native.Mathlib.Numerals.{add-one}
use native.Mathlib.Omega.{arith}
use lib.Arith.{digits_mod}
use lib.Bits.{bit_or, bit_xor, differ, or_step, xor_step, or_shr, xor_shr}
use lib.Count.{count_trailing_zeros, trailing_of_zero}
use lib.Dec.{eqb, eqb-zero-suc, eqb-suc-zero, eqb-suc-suc}
use lib.ListN.{length, drop, replicate}
use lib.Seq.{get_or-set_same, get_or-set_other, drop-cons, drop-length}
use borrow.Author.Tests.{eq-eqb, ne_eqb, lt-ltb, le-ltb}
use Rattle.model.specs.Words.{word}
use Rattle.base.specs.Tests.{split}
use Rattle.base.specs.Equal.{zero_word}
use Rattle.queue.specs.Bits.{bit, has, put_in, take_out, first_rank}

-- ONE WORD

-- the lowest digit is 0 or 1
digit : {P : Type 0} (w : ℕ) → (w % 2 ≡ 0 → P) → (w % 2 ≡ 1 → P) → P
digit w f g = elim (ℕ_discrete (w % 2) 0) [ yes e ↦ f e | no d ↦ g (omega arith) ]

-- 0 has none
pub bit_zero : (i : ℕ) → bit 0 i ≡ false
unfolding bit
bit_zero zero = refl
bit_zero (suc i) = bit_zero i

-- of a power of two, the one
bit_pow : (k i : ℕ) → bit (2 ^ k) i ≡ eqb k i
unfolding bit
bit_pow zero zero = refl
bit_pow zero (suc i) = bit_zero i ∙ sym (eqb-zero-suc i)
bit_pow (suc k) zero = let e = pow-suc 2 k in let d : 2 ^ suc k % 2 ≡ 0 = omega arith in rw d (sym (eqb-suc-zero k))
bit_pow (suc k) (suc i) = let e = pow-suc 2 k in let d : 2 ^ suc k / 2 ≡ 2 ^ k = omega arith in rw d (bit_pow k i ∙ sym (eqb-suc-suc k i))

-- what holds of digits holds of the lowest ones
digits : (P : ℕ → ℕ → Type 0) (a b : ℕ) → P 0 0 → P 0 1 → P 1 0 → P 1 1 → P (a % 2) (b % 2)
digits P a b p q r s = digit a (λ e. digit b (λ d. rw (e, d) p) (λ d. rw (e, d) q)) (λ e. digit b (λ d. rw (e, d) r) (λ d. rw (e, d) s))

-- the lowest digits of both
or_low : (a b : ℕ) → bit_or a b % 2 ≡ max (a % 2) (b % 2)
or_low a b = ap (λ (x : ℕ). x % 2) (or_step a b)
    ∙ digits_mod (bit_or (a / 2) (b / 2)) (digits (λ x y. max x y < 2) a b (omega arith) (omega arith) (omega arith) (omega arith))

xor_low : (a b : ℕ) → bit_xor a b % 2 ≡ differ (a % 2) (b % 2)
xor_low a b = ap (λ (x : ℕ). x % 2) (xor_step a b)
    ∙ digits_mod (bit_xor (a / 2) (b / 2)) (digits (λ x y. differ x y < 2) a b (omega arith) (omega arith) (omega arith) (omega arith))

bit_of_or : (a b i : ℕ) → bit (bit_or a b) i ≡ bit a i || bit b i
unfolding bit
bit_of_or a b zero = rw (or_low a b) (digits (λ x y. eqb (max x y) 1 ≡ eqb x 1 || eqb y 1) a b refl refl refl refl)
bit_of_or a b (suc i) = ap (λ (x : ℕ). bit x i) (or_shr a b 1) ∙ bit_of_or (a / 2) (b / 2) i

bit_of_xor : (a b i : ℕ) → bit (bit_xor a b) i ≡ cond (bit b i) (not (bit a i)) (bit a i)
unfolding bit
bit_of_xor a b zero = rw (xor_low a b) (digits (λ x y. eqb (differ x y) 1 ≡ cond (eqb y 1) (not (eqb x 1)) (eqb x 1)) a b refl refl refl refl)
bit_of_xor a b (suc i) = ap (λ (x : ℕ). bit x i) (xor_shr a b 1) ∙ bit_of_xor (a / 2) (b / 2) i

-- t is the least number below k that passes p, or k if none does
pub record Least (p : ℕ → Bool) (k t : ℕ) : Type 0 where
  pub most : t ≤ k
  pub under : (i : ℕ) → i < t → p i ≡ false
  pub there : t < k → p t ≡ true

-- the trailing zeros lead to the lowest bit that is set, if one of k is
trailing_low : (k w : ℕ) → Least (bit w) k (count_trailing_zeros k w)
unfolding bit count_trailing_zeros
trailing_low zero w = record { most = omega arith; under = λ i l. absurd (omega arith); there = λ l. absurd (omega arith) }
trailing_low (suc k) w =
    let L = trailing_low k (w / 2) in
    digit w
    (λ e. rw e (record {
      most = omega (arith, L.most);
      under = λ i l. lower e L i l;
      there = λ l. L.there (omega arith);
    }))
    (λ e. rw e (record { most = omega arith; under = λ i l. absurd (omega arith); there = λ l. rw e refl }))
  where
    lower : w % 2 ≡ 0 → Least (bit (w / 2)) k (count_trailing_zeros k (w / 2)) → (i : ℕ) → i < suc (count_trailing_zeros k (w / 2)) → bit w i ≡ false
    lower e L zero l = rw e refl
    lower e L (suc i) l = L.under i (omega arith)

-- THE WORDS OF A SET

-- words of 0 have none
pub has_none : (n r : ℕ) → has (replicate n 0) r ≡ false
unfolding has
has_none n r = rw (zero_word n (r / 64)) (bit_zero (r % 64))

-- r is in, and the others as before
pub put_in_has : (bits : List ℕ) (r : ℕ) → r / 64 < length bits → (s : ℕ) → has (put_in bits r) s ≡ cond (eqb r s) true (has bits s)
unfolding has put_in
put_in_has bits r h s = elim (ℕ_discrete (s / 64) (r / 64)) [
  | yes e ↦ rw (e, get_or-set_same bits (r / 64) (bit_or (word bits (r / 64)) (2 ^ (r % 64))) 0 h, bit_of_or (word bits (r / 64)) (2 ^ (r % 64)) (s % 64), bit_pow (r % 64) (s % 64))
      (elim (ℕ_discrete r s) [
        | yes d ↦ rw (eq-eqb (r % 64) (s % 64) (omega arith), eq-eqb r s d) (split (bit (word bits (r / 64)) (s % 64)) (λ f. rw f refl) (λ f. rw f refl))
        | no d ↦ rw (ne_eqb (r % 64) (s % 64) (λ q. d (omega arith)), ne_eqb r s d) (split (bit (word bits (r / 64)) (s % 64)) (λ f. rw f refl) (λ f. rw f refl))
      ])
  | no e ↦ rw (get_or-set_other bits (r / 64) (s / 64) (bit_or (word bits (r / 64)) (2 ^ (r % 64))) 0 e, ne_eqb r s (λ d. e (omega arith))) refl
]

-- r, which is in, is out
pub take_out_has : (bits : List ℕ) (r : ℕ) → r / 64 < length bits → has bits r ≡ true → (s : ℕ) → has (take_out bits r) s ≡ cond (eqb r s) false (has bits s)
unfolding has take_out
take_out_has bits r h t s = elim (ℕ_discrete (s / 64) (r / 64)) [
  | yes e ↦ rw (e, get_or-set_same bits (r / 64) (bit_xor (word bits (r / 64)) (2 ^ (r % 64))) 0 h, bit_of_xor (word bits (r / 64)) (2 ^ (r % 64)) (s % 64), bit_pow (r % 64) (s % 64))
      (elim (ℕ_discrete r s) [
        | yes d ↦ let k : r % 64 ≡ s % 64 = omega arith in rw (eq-eqb (r % 64) (s % 64) k, eq-eqb r s d, ← k, t) refl
        | no d ↦ rw (ne_eqb (r % 64) (s % 64) (λ q. d (omega arith)), ne_eqb r s d) refl
      ])
  | no e ↦ rw (get_or-set_other bits (r / 64) (s / 64) (bit_xor (word bits (r / 64)) (2 ^ (r % 64))) 0 e, ne_eqb r s (λ d. e (omega arith))) refl
]

-- a number that lies in a word behind the first
has_behind : (w : ℕ) (ws : List ℕ) (s : ℕ) → 64 ≤ s → has (w ∷ ws) s ≡ has ws (s - 64)
unfolding has
has_behind w ws s h =
    let e : s / 64 ≡ suc ((s - 64) / 64) = omega arith in
    let d : s % 64 ≡ (s - 64) % 64 = omega arith in
    rw (e, d) refl

-- or in the first
has_here : (w : ℕ) (ws : List ℕ) (s : ℕ) → s < 64 → has (w ∷ ws) s ≡ bit w s
unfolding has
has_here w ws s h =
    let e : s / 64 ≡ 0 = omega arith in
    let d : s % 64 ≡ s = omega arith in
    rw (e, d) refl

-- the first rank is the lowest that is in
pub first_low : (bits : List ℕ) → Least (has bits) (64 * length bits) (first_rank bits)
unfolding first_rank
first_low [] = record { most = omega arith; under = λ s l. absurd (omega arith); there = λ l. absurd (omega arith) }
first_low (w ∷ ws) =
    let L = trailing_low 64 w in
    let F = first_low ws in
    elim (dec_lt (count_trailing_zeros 64 w) 64) [
      | yes h ↦ rw (lt-ltb (count_trailing_zeros 64 w) 64 h) (record {
        most = omega arith;
        under = λ s l. has_here w ws s (omega arith) ∙ L.under s l;
        there = λ l. has_here w ws (count_trailing_zeros 64 w) h ∙ L.there h;
      })
      | no h ↦ rw (le-ltb (count_trailing_zeros 64 w) 64 (omega arith)) (record {
        most = omega (arith, F.most);
        under = λ s l. elim (dec_lt s 64) [
          | yes k ↦ has_here w ws s k ∙ L.under s (omega (arith, L.most))
          | no k ↦ has_behind w ws s (omega arith) ∙ F.under (s - 64) (omega arith)
        ];
        there = λ l.
            let e : 64 + first_rank ws - 64 ≡ first_rank ws = omega arith in
            has_behind w ws (64 + first_rank ws) (omega arith) ∙ ap (has ws) e ∙ F.there (omega arith);
      })
    ]

-- FROM THE FRONT

-- the words before word k are 0: the first rank is found behind them
abbrev pub EmptyTo : List ℕ → ℕ → Type 0
EmptyTo bits k = first_rank bits ≡ 64 * k + first_rank (drop k bits)

module _ (bits : List ℕ) (k : ℕ) (E : EmptyTo bits k) where
  -- one more
  pub empty_next : k < length bits → word bits k ≡ 0 → EmptyTo bits (k + 1)
  unfolding first_rank
  empty_next h z =
      let t : count_trailing_zeros 64 (word bits k) ≡ 64 = ap (count_trailing_zeros 64) z ∙ trailing_of_zero 64 in
      let d : first_rank (drop k bits) ≡ 64 + first_rank (drop (suc k) bits) = ap first_rank (drop-cons bits k 0 h) ∙ rw (le-ltb (count_trailing_zeros 64 (word bits k)) 64 (omega arith)) refl in
      rw (add-one k) (omega arith)

  -- word k is not: its trailing zeros lead to the first
  pub empty_here : k < length bits → {t : ℕ} → t ≡ count_trailing_zeros 64 (word bits k) → t < 64 → 64 * k + t ≡ first_rank bits
  unfolding first_rank
  empty_here h {t} e l =
      let d : first_rank (drop k bits) ≡ count_trailing_zeros 64 (word bits k) = ap first_rank (drop-cons bits k 0 h) ∙ rw (lt-ltb (count_trailing_zeros 64 (word bits k)) 64 (omega arith)) refl in
      omega arith

  -- there is none
  pub empty_end : length bits ≡ k → 64 * k ≡ first_rank bits
  unfolding first_rank
  empty_end h = let d : first_rank (drop k bits) ≡ 0 = ap (λ (n : ℕ). first_rank (drop n bits)) (sym h) ∙ ap first_rank (drop-length bits) in omega arith
