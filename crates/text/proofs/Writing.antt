-- Bytes written into a text: one, a list's, some behind others; and a decimal number as its tenth's digits and a digit.
use mathlib.Core.Path.{◌≡◌, refl, sym, ◌∙◌, ap}
use mathlib.Core.List.{List, [], ◌∷◌, ◌++◌, append_assoc, append-nil}
use Prim.Native.Nat.{ℕ, zero, suc, ◌+◌, ◌/◌, ◌%◌, ◌^◌, ◌≤◌, ◌<◌}
use native.Mathlib.Nat.{pow-suc}
use native.Mathlib.Numerals.{add-one}
use native.Mathlib.Omega.{arith}
use lib.Dec.{ltb}
use lib.ListN.{length, take, set, length-append, length-set}
use lib.Seq.{paste, length-paste, take-paste, take_all, take-suc-set}
use borrow.Author.Tests.{ltb-true, ltb-false}
use Rattle.model.specs.Ghosts.{decimal, number}
use Rattle.base.specs.Tests.{split}
use Rattle.records.specs.Digits.{decimal_one, decimal_more}
use Rattle.text.specs.Printing.{Writes}

-- none
pub writes_none : (t : List ℕ) (at : ℕ) → Writes t t at at []
writes_none t at = record { end = omega arith; long = refl; front = sym (append-nil (take at t)) }

-- one byte
pub writes_one : (t : List ℕ) (at c : ℕ) → at + 1 ≤ length t → Writes t (set t at c) at (at + 1) (c ∷ [])
writes_one t at c h = record { end = refl; long = length-set t at c; front = rw add-one (take-suc-set t at c (omega arith)) }

-- a list's bytes
pub writes_list : (t s : List ℕ) (at n : ℕ) → length s ≡ n → at + n ≤ length t → Writes t (paste t at s n) at (at + n) s
writes_list t s at n e h = record {
  end = omega arith;
  long = length-paste t at s n h (omega arith);
  front = take-paste t at s n (omega arith) (omega arith) ∙ ap (λ (l : List ℕ). take at t ++ l) (take_all n s (omega arith));
}

-- bytes behind bytes
pub writes_then : {t u v : List ℕ} {at a r : ℕ} {x y : List ℕ} → Writes t u at a x → Writes u v a r y → Writes t v at r (x ++ y)
writes_then {t} {u} {v} {at} {a} {r} {x} {y} p q = record {
  end = omega (arith, length-append x y, p.end, q.end);
  long = q.long ∙ p.long;
  front = q.front ∙ ap (λ (l : List ℕ). l ++ y) p.front ∙ append_assoc (take at t) x y;
}

-- the same bytes, told otherwise
pub writes_same : {t u : List ℕ} {at r : ℕ} {x y : List ℕ} → x ≡ y → Writes t u at r x → Writes t u at r y
writes_same e w = rw e at w

-- one digit more to spend changes nothing
decimal_enough : (d n : ℕ) → n < 10 ^ suc d → decimal (suc (suc d)) n ≡ decimal (suc d) n
decimal_enough zero n h = decimal_one 1 n (omega arith) ∙ sym (decimal_one 0 n (omega arith))
decimal_enough (suc d) n h =
    split (ltb n 10)
    (λ e. let l : n < 10 = ltb-true n 10 e in decimal_one (suc (suc d)) n l ∙ sym (decimal_one (suc d) n l))
    (λ e.
    let l : 10 ≤ n = ltb-false n 10 e in
    decimal_more (suc (suc d)) n l
    ∙ ap (λ (k : List ℕ). k ++ ((48 + n % 10) ∷ [])) (decimal_enough d (n / 10) (omega (arith, pow-suc 10 (suc d))))
    ∙ sym (decimal_more (suc d) n l))

-- a number below ten is a digit
pub number_one : (n : ℕ) → n < 10 → number n ≡ (48 + n) ∷ []
number_one n h = decimal_one 9 n h

-- a word from ten on is its tenth and a digit
pub number_more : (n : ℕ) → n < 2 ^ 32 → 10 ≤ n → number n ≡ number (n / 10) ++ ((48 + n % 10) ∷ [])
number_more n h l = decimal_more 9 n l ∙ ap (λ (k : List ℕ). k ++ ((48 + n % 10) ∷ [])) (sym (decimal_enough 8 (n / 10) (omega arith)))
