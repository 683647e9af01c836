-- Numbers as `ghosts` prints them: the digits of `number n` are digits, their value is n, none leads with 0 but 0 itself; and they
-- are read back as n.
use Rattle.std.specs.Prelude.{◌≡◌, refl, true, List, [], ◌∷◌, ◌++◌, ℕ, zero, suc, ◌+◌, ◌-◌, ◌*◌, ◌/◌, ◌%◌, ◌^◌, ◌<◌, ◌≤◌, ltb, length, get_or}
use Rattle.std.proofs.Common.{ap, ◌∙◌, pow-suc, arith, length-append, ltb-true, ltb-false, lt-ltb, le-ltb, le-leb, ne_eqb}
use Rattle.std.proofs.Math.ListN.{get_or-append}
use Rattle.model.specs.Ghosts.{Scan, digit, scan_byte, scan, decimal, number}
use Rattle.base.specs.Tests.{split}

-- the value of digits, behind a value read already
abbrev pub value_from : ℕ → List ℕ → ℕ
value_from a [] = a
value_from a (c ∷ l) = value_from (10 * a + (c - 48)) l

-- the value of digits
abbrev pub value : List ℕ → ℕ
value l = value_from 0 l

-- nothing but digits
abbrev pub Digits : List ℕ → Type 0
Digits [] = Unit {0}
Digits (c ∷ l) = (48 ≤ c) × (c ≤ 57) × Digits l

-- a digit more
value_snoc : (a : ℕ) (l : List ℕ) (c : ℕ) → value_from a (l ++ (c ∷ [])) ≡ 10 * value_from a l + (c - 48)
value_snoc a [] c = refl
value_snoc a (b ∷ l) c = value_snoc (10 * a + (b - 48)) l c

-- digits and a digit are digits
digits_snoc : (l : List ℕ) (c : ℕ) → Digits l → 48 ≤ c → c ≤ 57 → Digits (l ++ (c ∷ []))
digits_snoc [] c h p q = (p, q, tt)
digits_snoc (b ∷ l) c h p q = (h.0, h.1, digits_snoc l c h.2 p q)

module _ (d n : ℕ) where
  -- a number below ten is one digit
  pub decimal_one : n < 10 → decimal (suc d) n ≡ (48 + n) ∷ []
  unfolding decimal
  decimal_one h = rw (lt-ltb n 10 h, decimal)

  -- any other is a tenth's digits and a digit
  pub decimal_more : 10 ≤ n → decimal (suc d) n ≡ decimal d (n / 10) ++ ((48 + n % 10) ∷ [])
  unfolding decimal
  decimal_more h = rw (le-ltb n 10 h, decimal)

  -- a tenth has a digit less
  tenth : n < 10 ^ suc d → n / 10 < 10 ^ d
  tenth h = omega (arith, pow-suc 10 d)

-- by either case
either : {P : Type 0} (n : ℕ) → (n < 10 → P) → (10 ≤ n → P) → P
either n f g = split (ltb n 10) (λ e. f (ltb-true n 10 e)) (λ e. g (ltb-false n 10 e))

-- d digits are enough below 10 ^ d
pub decimal_value : (d n : ℕ) → n < 10 ^ d → value (decimal d n) ≡ n
unfolding decimal
decimal_value zero n h = omega arith
decimal_value (suc d) n h =
    either n
    (λ l. ap value (decimal_one d n l) ∙ omega arith)
    (λ l. ap value (decimal_more d n l) ∙ value_snoc 0 (decimal d (n / 10)) (48 + n % 10) ∙ rw (decimal_value d (n / 10) (tenth d n h)) (omega arith))

-- they are digits
pub decimal_digits : (d n : ℕ) → Digits (decimal d n)
unfolding decimal
decimal_digits zero n = tt
decimal_digits (suc d) n =
    either n
    (λ l. rw (decimal_one d n l) (omega arith, omega arith, tt))
    (λ l. rw (decimal_more d n l) (digits_snoc (decimal d (n / 10)) (48 + n % 10) (decimal_digits d (n / 10)) (omega arith) (omega arith)))

-- not more than asked for
pub length_decimal : (d n : ℕ) → length (decimal d n) ≤ d
unfolding decimal
length_decimal zero n = omega arith
length_decimal (suc d) n =
    either n
    (λ l. rw (decimal_one d n l) (omega arith))
    (λ l. rw (decimal_more d n l, length-append) (omega (arith, length_decimal d (n / 10))))

-- one at least
pub decimal_some : (d n : ℕ) → 0 < length (decimal (suc d) n)
decimal_some d n = either n (λ l. rw (decimal_one d n l) (omega arith)) (λ l. rw (decimal_more d n l, length-append) (omega arith))

-- what has a first digit is not empty
led : (l : List ℕ) → 48 < get_or l 0 0 → 0 < length l
led [] h = absurd (omega arith)
led (c ∷ l) h = omega arith

-- no leading 0
pub decimal_lead : (d n : ℕ) → 0 < n → n < 10 ^ d → 48 < get_or (decimal d n) 0 0
decimal_lead zero n p h = absurd (omega arith)
decimal_lead (suc d) n p h =
    either n
    (λ l. rw (decimal_one d n l) (omega arith))
    (λ l.
    let ih : 48 < get_or (decimal d (n / 10)) 0 0 = decimal_lead d (n / 10) (omega arith) (tenth d n h) in
    let some : 0 < length (decimal d (n / 10)) = led (decimal d (n / 10)) ih in
    rw (decimal_more d n l, get_or-append (decimal d (n / 10)) ((48 + n % 10) ∷ []) 0 0) ih)

-- A WORD'S DIGITS

module _ (n : ℕ) (h : n < 2 ^ 32) where
  -- ten digits are enough
  word_fits : n < 10 ^ 10
  word_fits = omega arith

  -- their value is the word
  pub number_value : value (number n) ≡ n
  number_value = decimal_value 10 n word_fits

  -- 0 leads no other word
  pub number_lead : 0 < n → 48 < get_or (number n) 0 0
  number_lead p = decimal_lead 10 n p word_fits

-- 0 is one digit
pub number_zero : number 0 ≡ 48 ∷ []
unfolding decimal
number_zero = refl

-- they are digits
pub number_digits : (n : ℕ) → Digits (number n)
number_digits n = decimal_digits 10 n

-- ten at the most
pub length_number : (n : ℕ) → length (number n) ≤ 10
length_number n = length_decimal 10 n

-- one at least
pub number_some : (n : ℕ) → 0 < length (number n)
number_some n = decimal_some 9 n

-- READ BACK

-- s, while a word is being read whose value is n so far
abbrev pub reading : Scan → ℕ → Scan
reading s n = record { words = s.words; total = s.total; inside = true; value = n; fine = s.fine }

-- a digit is read
byte_digit : (c : ℕ) (s : Scan) → 48 ≤ c → c ≤ 57 → s.fine ≡ true → 10 * s.value + (c - 48) < 2 ^ 32
    → scan_byte c s ≡ reading s (10 * s.value + (c - 48))
unfolding scan_byte digit
byte_digit c s p q f h =
    cc (ne_eqb c 32 (λ e. omega arith), ne_eqb c 10 (λ e. omega arith), le-leb 48 c p, le-leb c 57 q, lt-ltb (10 * s.value + (c - 48)) (2 ^ 32) h)

-- a value only grows
value_grows : (a : ℕ) (l : List ℕ) → a ≤ value_from a l
value_grows a [] = omega arith
value_grows a (c ∷ l) = omega (arith, value_grows (10 * a + (c - 48)) l)

-- digits are read, one at least
pub scan_digits : (l : List ℕ) (s : Scan) → 0 < length l → Digits l → s.fine ≡ true → value_from s.value l < 2 ^ 32
    → scan l s ≡ reading s (value_from s.value l)
unfolding scan
scan_digits [] s p g f h = absurd (omega arith)
scan_digits (c ∷ []) s p g f h = byte_digit c s g.0 g.1 f h
scan_digits (c ∷ (b ∷ l)) s p g f h =
    ap (scan (b ∷ l)) (byte_digit c s g.0 g.1 f (omega (arith, value_grows (10 * s.value + (c - 48)) (b ∷ l))))
    ∙ scan_digits (b ∷ l) (reading s (10 * s.value + (c - 48))) (omega arith) g.2 f h

-- a word's digits, where no word is being read, are read as the word
pub scan_number : (n : ℕ) (s : Scan) → n < 2 ^ 32 → s.fine ≡ true → s.value ≡ 0
    → scan (number n) s ≡ reading s n
scan_number n s h f z =
    let e : value_from s.value (number n) ≡ n = ap (λ (a : ℕ). value_from a (number n)) z ∙ number_value n h in
    scan_digits (number n) s (number_some n) (number_digits n) f (rw e h) ∙ ap (reading s) e
