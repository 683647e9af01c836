-- A number and the kind that it names: what model says of the one holds of the other. Assumes nothing.
use mathlib.Core.Path.{◌≡◌, refl, sym, ap, ◌∙◌}
use mathlib.Core.Logic.{◌≢◌}
use mathlib.Core.Bool.{Bool, true, false}
use mathlib.Core.List.{[], ◌∷◌}
use Prim.Native.Nat.{ℕ, ◌≤◌, ◌<◌}
use native.Mathlib.Omega.{arith}
use denote.Enum.Bare.{sameb}
use denote.Enum.Declared.{tag_of}
use lib.Dec.{ltb, eqb}
use lib.ListN.{get_or-eq_default}
use borrow.Author.Tests.{ne_eqb, eqb-true, eqb-false, ltb-true, ltb-false}
use Rattle.model.specs.Types.{pointer, fielded, shut, sticky, below, form}
use Rattle.base.specs.Tests.{split}
use Rattle.type_record.proofs.Ranged.{Each, ranged}
use Rattle.type_record.specs.Kinds.{kind_code, kind_named}
use Rattle.type_record.specs.contracts.kinds.Kind.{the_type}
use Rattle.type_record.specs.declared.kinds.Kind.{Kind}
use Rattle.type_record.specs.declared.kinds.Kind.TheVariants.{Opaque, Pointer, Reference, Box, Array, Tuple, Struct, Enum, Variant, Closure, Coroutine, Other}

-- a number above 10 names none
pub named_other : (n : ℕ) → 11 ≤ n → kind_named n ≡ Other
unfolding kind_named
named_other n l = get_or-eq_default (Opaque ∷ Pointer ∷ Reference ∷ Box ∷ Array ∷ Tuple ∷ Struct ∷ Enum ∷ Variant ∷ Closure ∷ Coroutine ∷ []) Other {n = n} l

-- what holds of each number from 0 to 10 and its kind, and of each above and Other, holds of any number and its kind
pub named : (P : ℕ → Kind → Type 0) → Each (λ n. P n (kind_named n)) 0 11 → ((n : ℕ) → 11 ≤ n → P n Other) → (n : ℕ) → P n (kind_named n)
named P e f n =
    split (ltb n 11)
    (λ l. ranged (λ i. P i (kind_named i)) 0 11 n (omega arith) (ltb-true n 11 l) e)
    (λ l. rw (named_other n (ltb-false n 11 l)) (f n (ltb-false n 11 l)))

-- WHAT A KIND ALLOWS

pub pointer_named : (n : ℕ) → pointer (kind_code (kind_named n)) ≡ pointer n
unfolding kind_named pointer
pointer_named =
    named (λ n k. pointer (kind_code k) ≡ pointer n) (refl, (refl, (refl, (refl, (refl, (refl, (refl, (refl, (refl, (refl, (refl, tt)))))))))))
    (λ n l. rw (ne_eqb n 1 (omega arith), ne_eqb n 2 (omega arith), ne_eqb n 3 (omega arith)))

pub fielded_named : (n : ℕ) → fielded (kind_code (kind_named n)) ≡ fielded n
unfolding kind_named fielded
fielded_named =
    named (λ n k. fielded (kind_code k) ≡ fielded n) (refl, (refl, (refl, (refl, (refl, (refl, (refl, (refl, (refl, (refl, (refl, tt)))))))))))
    (λ n l. rw (ne_eqb n 5 (omega arith), ne_eqb n 6 (omega arith), ne_eqb n 9 (omega arith), ne_eqb n 10 (omega arith)))

pub shut_named : (n : ℕ) → shut (kind_code (kind_named n)) ≡ shut n
unfolding kind_named shut
shut_named =
    named (λ n k. shut (kind_code k) ≡ shut n) (refl, (refl, (refl, (refl, (refl, (refl, (refl, (refl, (refl, (refl, (refl, tt)))))))))))
    (λ n l. rw (ne_eqb n 0 (omega arith), ne_eqb n 4 (omega arith), ne_eqb n 8 (omega arith)))

pub sticky_named : (m : Bool) (n : ℕ) → sticky m (kind_code (kind_named n)) ≡ sticky m n
unfolding kind_named sticky
sticky_named m =
    named (λ n k. sticky m (kind_code k) ≡ sticky m n) (refl, (refl, (refl, (refl, (refl, (refl, (refl, (refl, (refl, (refl, (refl, tt)))))))))))
    (λ n l. rw (ne_eqb n 5 (omega arith), ne_eqb n 6 (omega arith), ne_eqb n 9 (omega arith), ne_eqb n 10 (omega arith)))

pub below_named : (m : Bool) (n : ℕ) → below m (kind_code (kind_named n)) ≡ below m n
unfolding kind_named below
below_named m =
    named (λ n k. below m (kind_code k) ≡ below m n) (refl, (refl, (refl, (refl, (refl, (refl, (refl, (refl, (refl, (refl, (refl, tt)))))))))))
    (λ n l. rw (ne_eqb n 2 (omega arith)))

pub form_named : (n : ℕ) → form (kind_code (kind_named n)) ≡ form n
unfolding kind_named form
form_named =
    named (λ n k. form (kind_code k) ≡ form n) (refl, (refl, (refl, (refl, (refl, (refl, (refl, (refl, (refl, (refl, (refl, tt)))))))))))
    (λ n l. sym (get_or-eq_default (0 ∷ 1 ∷ 1 ∷ 1 ∷ 0 ∷ 5 ∷ 2 ∷ 2 ∷ 0 ∷ 3 ∷ 4 ∷ []) 0 {n = n} l))

-- WHICH NUMBER A KIND IS. The last argument is `refl` for each kind but Other

code_below : (n : ℕ) → n < 11 → kind_code (kind_named n) ≡ n
unfolding kind_named
code_below n l = ranged (λ i. kind_code (kind_named i) ≡ i) 0 11 n (omega arith) l (refl, (refl, (refl, (refl, (refl, (refl, (refl, (refl, (refl, (refl, (refl, tt)))))))))))

named_code : (k : Kind) → ltb (kind_code k) 11 ≡ true → kind_named (kind_code k) ≡ k
unfolding kind_named
named_code Opaque h = refl
named_code Pointer h = refl
named_code Reference h = refl
named_code Box h = refl
named_code Array h = refl
named_code Tuple h = refl
named_code Struct h = refl
named_code Enum h = refl
named_code Variant h = refl
named_code Closure h = refl
named_code Coroutine h = refl
named_code Other h = absurd (cc)

-- `kind_is n Enum e refl : n ≡ 7`
pub kind_is : (n : ℕ) (k : Kind) → kind_named n ≡ k → ltb (kind_code k) 11 ≡ true → n ≡ kind_code k
kind_is n k e h =
    split (ltb n 11)
    (λ l. sym (code_below n (ltb-true n 11 l)) ∙ ap kind_code e)
    (λ l. absurd (omega (arith, ap kind_code (sym (named_other n (ltb-false n 11 l)) ∙ e), ltb-true (kind_code k) 11 h)))

-- `is_kind n Enum e refl : kind_named n ≡ Enum`
pub is_kind : (n : ℕ) (k : Kind) → n ≡ kind_code k → ltb (kind_code k) 11 ≡ true → kind_named n ≡ k
is_kind n k e h = ap kind_named e ∙ named_code k h

-- `kind_not n Enum f refl : n ≢ 7`
pub kind_not : (n : ℕ) (k : Kind) → kind_named n ≢ k → ltb (kind_code k) 11 ≡ true → n ≢ kind_code k
kind_not n k f h e = f (is_kind n k e h)

-- WHAT `==` ON KINDS ANSWERS

tag_code : (k : Kind) → tag_of the_type k ≡ kind_code k
tag_code Opaque = refl
tag_code Pointer = refl
tag_code Reference = refl
tag_code Box = refl
tag_code Array = refl
tag_code Tuple = refl
tag_code Struct = refl
tag_code Enum = refl
tag_code Variant = refl
tag_code Closure = refl
tag_code Coroutine = refl
tag_code Other = refl

pub same_named : (n : ℕ) (k : Kind) → ltb (kind_code k) 11 ≡ true → sameb the_type (kind_named n) k ≡ eqb n (kind_code k)
same_named n k h =
    rw (tag_code (kind_named n), tag_code k)
    (split (ltb n 11)
    (λ l. rw (code_below n (ltb-true n 11 l)))
    (λ l. rw (named_other n (ltb-false n 11 l), ne_eqb n (kind_code k) (omega (arith, ltb-false n 11 l, ltb-true (kind_code k) 11 h)), ne_eqb 11 (kind_code k) (omega (arith, ltb-true (kind_code k) 11 h)))))

-- what a test `kind_at(..) == k` says of the kind's number n: j is what `kind_at` gave and b what `==` did, as in
-- `eq_true _ Enum c.kind_at.ensures c.eq.ensures c.if-eq.true refl`
module _ (n : ℕ) {j : Kind} {b : Bool} (k : Kind) (e : j ≡ kind_named n) (f : b ≡ sameb the_type j k) where
  pub eq_code : ltb (kind_code k) 11 ≡ true → b ≡ eqb n (kind_code k)
  eq_code h = f ∙ ap (λ (i : Kind). sameb the_type i k) e ∙ same_named n k h

  pub eq_true : b ≡ true → ltb (kind_code k) 11 ≡ true → n ≡ kind_code k
  eq_true g h = eqb-true n (kind_code k) (sym (eq_code h) ∙ g)

  pub eq_false : b ≡ false → ltb (kind_code k) 11 ≡ true → n ≢ kind_code k
  eq_false g h = eqb-false n (kind_code k) (sym (eq_code h) ∙ g)
