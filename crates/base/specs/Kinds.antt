-- The kinds of types as tests: what a kind that passes one is, and is not. The kinds of a type record that passes are 0 to 10, and an
-- open node's form is not 0: so a state record tells folded from open.
use Rattle.std.specs.Prelude.{◌≡◌, refl, ◌≢◌, Bool, true, false, cond, ◌&&◌, ◌||◌, List, ℕ, ◌≤◌, ◌<◌, eqb, ltb, leb}
use Rattle.std.proofs.Common.{true≢false, arith, ltb-true, ltb-false, le-ltb, eqb-true, ne_eqb, leb-true, leb-false}
use Rattle.model.specs.Words.{all}
use Rattle.model.specs.Types.{ntypes, kind, count, pointer, fielded, sticky, shut, form, type_ok, all_types_ok, type_sizes, counts_add, types_ok}
use Rattle.model.specs.Typing.{Openable}
use Rattle.base.specs.Tests.{split, and_left, and_right}
use Rattle.base.specs.Below.{all_at}

-- THE KINDS OF A RECORD

-- no kind above 10
abbrev pub Known : List ℕ → Type 0
Known Γ = (t : ℕ) → kind Γ t ≤ 10

-- a kind that `type_ok` names is one of document 01's
listed : (k : ℕ) (a b c d e f : Bool)
    → cond (eqb k 0 || eqb k 4) a (cond (pointer k) b (cond (fielded k) c (cond (eqb k 7) d (eqb k 8 && e && f)))) ≡ true
    → k ≤ 10
unfolding pointer fielded
listed k a b c d e f h =
    split (leb k 10) (leb-true k 10) (λ g.
    let l : 10 < k = leb-false k 10 g in
    let off : (n : ℕ) → n ≤ 10 → eqb k n ≡ false = λ n m. ne_eqb k n (λ x. omega arith) in
    absurd (true≢false (cc (
      off 0 (omega arith),
      off 1 (omega arith),
      off 2 (omega arith),
      off 3 (omega arith),
      off 4 (omega arith),
      off 5 (omega arith),
      off 6 (omega arith),
      off 7 (omega arith),
      off 8 (omega arith),
      off 9 (omega arith),
      off 10 (omega arith),
    ))))

-- a record that passes has its sizes
pub types_sized : (Γ : List ℕ) → types_ok Γ ≡ true → type_sizes Γ ≡ true
unfolding types_ok
types_sized Γ e = and_left (type_sizes Γ) (counts_add Γ) (and_left (type_sizes Γ && counts_add Γ) (all_types_ok Γ) e)

-- its counts add up
pub types_counted : (Γ : List ℕ) → types_ok Γ ≡ true → counts_add Γ ≡ true
unfolding types_ok
types_counted Γ e = and_right (type_sizes Γ) (counts_add Γ) (and_left (type_sizes Γ && counts_add Γ) (all_types_ok Γ) e)

-- each type passes
pub types_each : (Γ : List ℕ) → types_ok Γ ≡ true → (t : ℕ) → t < ntypes Γ → type_ok Γ t ≡ true
unfolding types_ok all_types_ok
types_each Γ e = all_at (type_ok Γ) (ntypes Γ) (and_right (type_sizes Γ && counts_add Γ) (all_types_ok Γ) e)

-- past the last type a kind is 0
pub kind_past : (Γ : List ℕ) (t : ℕ) → ntypes Γ ≤ t → kind Γ t ≡ 0
unfolding kind
kind_past Γ t h = rw (le-ltb t (ntypes Γ) h)

-- so a type of another kind is one of the record's
pub kind_known : (Γ : List ℕ) (t : ℕ) → kind Γ t ≢ 0 → t < ntypes Γ
kind_known Γ t n = split (ltb t (ntypes Γ)) (ltb-true t (ntypes Γ)) (λ e. absurd (n (kind_past Γ t (ltb-false t (ntypes Γ) e))))

-- a record that passes has no kind above 10
pub types_known : (Γ : List ℕ) → types_ok Γ ≡ true → Known Γ
unfolding type_ok
types_known Γ e t =
    split (ltb t (ntypes Γ))
    (λ h. listed (kind Γ t) _ _ _ _ _ _ (types_each Γ e t (ltb-true t (ntypes Γ) h)))
    (λ h. rw (kind_past Γ t (ltb-false t (ntypes Γ) h)) (omega arith))

-- THE KINDS BY CASES

-- the kinds with a pointee
pub pointer_cases : {P : Type 0} (k : ℕ) → pointer k ≡ true → (k ≡ 1 → P) → (k ≡ 2 → P) → (k ≡ 3 → P) → P
unfolding pointer
pointer_cases k e f g h =
    split (eqb k 1) (λ a. f (eqb-true k 1 a)) (λ a. split (eqb k 2) (λ b. g (eqb-true k 2 b)) (λ b. h (eqb-true k 3 (cc))))

-- the kinds that a field opens
pub fielded_cases : {P : Type 0} (k : ℕ) → fielded k ≡ true → (k ≡ 5 → P) → (k ≡ 6 → P) → (k ≡ 9 → P) → (k ≡ 10 → P) → P
unfolding fielded
fielded_cases k e f g h p =
    split (eqb k 5) (λ a. f (eqb-true k 5 a)) (λ a.
    split (eqb k 6) (λ b. g (eqb-true k 6 b)) (λ b. split (eqb k 9) (λ c. h (eqb-true k 9 c)) (λ c. p (eqb-true k 10 (cc)))))

-- the kinds that cannot be opened
pub shut_cases : {P : Type 0} (k : ℕ) → shut k ≡ true → (k ≡ 0 → P) → (k ≡ 4 → P) → (k ≡ 8 → P) → P
unfolding shut
shut_cases k e f g h =
    split (eqb k 0) (λ a. f (eqb-true k 0 a)) (λ a. split (eqb k 4) (λ b. g (eqb-true k 4 b)) (λ b. h (eqb-true k 8 (cc))))

-- a kind that opens is an enum's, a pointer's, or one that a field opens
pub open_cases : {P : Type 0} (k : ℕ) → k ≤ 10 → shut k ≡ false → (k ≡ 7 → P) → (pointer k ≡ true → P) → (fielded k ≡ true → P) → P
unfolding shut pointer fielded all
open_cases k h e f g p =
    let test : ℕ → Bool = λ j. shut j || eqb j 7 || pointer j || fielded j in
    let at : test k ≡ true = all_at test 11 refl k (omega arith) in
    split (eqb k 7) (λ a. f (eqb-true k 7 a)) (λ a. split (pointer k) g (λ b. p (cc)))

-- KINDS APART

module _ (k : ℕ) where
  -- a pointer can be opened
  pub pointer_not_shut : pointer k ≡ true → shut k ≡ false
  unfolding shut
  pointer_not_shut e = pointer_cases k e (λ h. cc) (λ h. cc) (λ h. cc)

  -- it is no enum
  pub pointer_not_enum : pointer k ≡ true → k ≢ 7
  pointer_not_enum e h = pointer_cases k e (λ d. omega arith) (λ d. omega arith) (λ d. omega arith)

  -- a mutable reference is a pointer
  pub pointer_mut : eqb k 2 ≡ true → pointer k ≡ true
  unfolding pointer
  pointer_mut e = cc (eqb-true k 2 e)

  -- what a field opens can be opened
  pub fielded_not_shut : fielded k ≡ true → shut k ≡ false
  unfolding shut
  fielded_not_shut e = fielded_cases k e (λ h. cc) (λ h. cc) (λ h. cc) (λ h. cc)

  -- it is no enum
  pub fielded_not_enum : fielded k ≡ true → k ≢ 7
  fielded_not_enum e h = fielded_cases k e (λ d. omega arith) (λ d. omega arith) (λ d. omega arith) (λ d. omega arith)

  -- and no pointer
  pub fielded_not_pointer : fielded k ≡ true → pointer k ≡ false
  unfolding pointer
  fielded_not_pointer e = fielded_cases k e (λ h. cc) (λ h. cc) (λ h. cc) (λ h. cc)

  -- an enum is no pointer
  pub enum_not_pointer : k ≡ 7 → pointer k ≡ false
  unfolding pointer
  enum_not_pointer e = cc

-- what stays open is no enum
pub sticky_not_enum : (m : Bool) (k : ℕ) → sticky m k ≡ true → k ≢ 7
unfolding sticky
sticky_not_enum m k e h = true≢false (cc)

-- FORMS

-- the form of a kind that opens is not 0
pub form_pos : (k : ℕ) → k ≤ 10 → shut k ≡ false → 0 < form k
unfolding shut form all
form_pos k h e =
    let table : all (λ j. shut j || ltb 0 (form j)) 11 ≡ true = refl in
    ltb-true 0 (form k) (cc (all_at (λ j. shut j || ltb 0 (form j)) 11 table k (omega arith)))

-- OPEN NODES

-- what may be open can be opened
pub openable_not_shut : {Γ : List ℕ} {t v : ℕ} → Openable Γ t v → shut (kind Γ t) ≡ false
unfolding shut
openable_not_shut {Γ} {t} o = rw (ne_eqb (kind Γ t) 0 o.not_opaque, ne_eqb (kind Γ t) 4 o.not_array, ne_eqb (kind Γ t) 8 o.not_variant)

-- an open node's form is not 0
pub openable_form : {Γ : List ℕ} {t v : ℕ} → Known Γ → Openable Γ t v → 0 < form (kind Γ t)
openable_form {Γ} {t} g o = form_pos (kind Γ t) (g t) (openable_not_shut o)

-- and what can be opened may be open: an enum at one of its variants, any other at 0
pub openable_by : {Γ : List ℕ} {t v : ℕ} → shut (kind Γ t) ≡ false → (kind Γ t ≢ 7 → v ≡ 0) → (kind Γ t ≡ 7 → v < count Γ t) → Openable Γ t v
unfolding shut
openable_by e f g = record {
  plain = f;
  ranged = g;
  not_opaque = λ h. true≢false (cc);
  not_array = λ h. true≢false (cc);
  not_variant = λ h. true≢false (cc);
}

-- so at 0, if it is no enum
pub openable_zero : {Γ : List ℕ} (t : ℕ) → shut (kind Γ t) ≡ false → kind Γ t ≢ 7 → Openable Γ t 0
openable_zero t e n = openable_by e (λ h. refl) (λ h. absurd (n h))
