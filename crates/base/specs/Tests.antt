-- Case splits that keep the equation, what a conjunction or a disjunction says, a word that is set. Nothing of any record or tree. What the tests
-- eqb, ltb, leb and not say is in `borrow.Author.Tests`.
use Rattle.std.specs.Prelude.{◌≡◌, refl, ◌↔◌, Bool, true, false, cond, not, ◌&&◌, ◌||◌, List, ℕ, ◌<◌, eqb, length, set}
use Rattle.std.proofs.Common.{sym, ap, ◌∙◌, arith, get_or-set_same, get_or-set_other, eqb-true, eq-eqb}
use Rattle.std.proofs.Math.Option.{Option, none, some}
use Rattle.std.proofs.lemmas.Bool.{eqb-false}
use Rattle.model.specs.Words.{word}

-- CASES

-- by cases on b: `split (p i) (λ e. ..) (λ e. ..)`, with e in reach of `cc`
pub split : {P : Type 0} (b : Bool) → (b ≡ true → P) → (b ≡ false → P) → P
split true f g = f refl
split false f g = g refl

-- the same on what may be there
pub split_option : {A P : Type 0} (o : Option A) → (o ≡ none → P) → ((a : A) → o ≡ some a → P) → P
split_option none f g = f refl
split_option (some a) f g = g a refl

-- the same where the goal is of a `cond` and is no path: `cond_split (Fit Γ t) b (λ e. ..) (λ e. ..)`
pub cond_split : {A : Type 0} {x y : A} (P : A → Type 0) (b : Bool) → (b ≡ true → P x) → (b ≡ false → P y)
    → P (cond b x y)
cond_split P true f g = f refl
cond_split P false f g = g refl

-- where two facts clash, as that a test passes and fails: `clash (cc)`
pub clash : {P : Type 0} → ◌≡◌ {A = ℕ} 0 1 → P
clash p = absurd (omega arith)

-- what fails exactly if P holds passes exactly if not
pub passes_exactly : {P : Type 0} (b : Bool) → (b ≡ false) ↔ P → (b ≡ true) ↔ ¬ P
passes_exactly b h = (λ e p. clash (cc (h.1 p)), λ n. split b (λ e. e) (λ e. absurd (n (h.0 e))))

-- CONNECTIVES

-- a conjunction passes: its first test does
pub and_left : (a b : Bool) → a && b ≡ true → a ≡ true
and_left true b e = refl
and_left false b e = e

-- and its second
pub and_right : (a b : Bool) → a && b ≡ true → b ≡ true
and_right true b e = e
and_right false b e = cc

-- both pass: so does the conjunction
pub and_both : {a b : Bool} → a ≡ true → b ≡ true → a && b ≡ true
and_both e d = cc

-- the second of two tests passes: so does the disjunction
pub or_passes : (a b : Bool) → b ≡ true → a || b ≡ true
or_passes true b e = refl
or_passes false b e = e

-- a disjunction fails: its first test does
pub or_left : (a b : Bool) → a || b ≡ false → a ≡ false
or_left true b e = e
or_left false b e = refl

-- and its second
pub or_right : (a b : Bool) → a || b ≡ false → b ≡ false
or_right true b e = cc
or_right false b e = e

-- EQUALITY

-- a number equals itself
pub eqb_same : (n : ℕ) → eqb n n ≡ true
eqb_same n = eq-eqb n n refl

-- the test does not see the order
pub eqb_sym : (m n : ℕ) → eqb m n ≡ eqb n m
eqb_sym m n = split (eqb m n) (λ e. cc (eqb-true m n e)) (λ e. split (eqb n m) (λ d. cc (eqb-true n m d)) (λ d. cc))

-- WORDS

-- a word that is set, as a test
pub set_test : (l : List ℕ) (b v c : ℕ) → b < length l → not (eqb (word (set l b v) c) 0) ≡ cond (eqb b c) (not (eqb v 0)) (not (eqb (word l c) 0))
set_test l b v c h = split (eqb b c)
    (λ e.
    let q = eqb-true b c e in
    let k : word (set l b v) c ≡ v = ap (λ (i : ℕ). word (set l b v) i) (sym q) ∙ get_or-set_same l b v 0 h in
    cc)
    (λ e. cc (get_or-set_other l b c v 0 (λ q. eqb-false b c e (sym q))))
