-- What the code's tests of a kind say of the number that names it.
use mathlib.Core.Path.{◌≡◌, refl, sym, ◌∙◌, ap}
use mathlib.Core.Logic.{◌≢◌}
use mathlib.Core.Bool.{Bool, true, false, not}
use Prim.Native.Nat.{ℕ}
use lib.Dec.{ltb}
use borrow.Author.Tests.{not-true, not-false}
use denote.Enum.Bare.{sameb}
use Rattle.model.specs.Types.{pointer, fielded, shut, form}
use Rattle.type_record.specs.Kinds.{kind_code, kind_named}
use Rattle.type_record.specs.contracts.kinds.Kind.{the_type}
use Rattle.type_record.specs.declared.kinds.Kind.{Kind}
use Rattle.type_record.proofs.KindLaws.{pointer_named, fielded_named, shut_named, form_named, eq_true, eq_false}

module _ (n : ℕ) {k : Kind} (e : k ≡ kind_named n) where
  -- what is computed from the kind is computed from the number
  computed : {A : Type 0} (f : ℕ → A) → ((m : ℕ) → f (kind_code (kind_named m)) ≡ f m) → {r : A} → r ≡ f (kind_code k) → r ≡ f n
  computed f named p = p ∙ ap (λ (j : Kind). f (kind_code j)) e ∙ named n

  pub form_is : {r : ℕ} → r ≡ form (kind_code k) → r ≡ form n
  form_is = computed form form_named

  module _ {r b : Bool} where
    pub pointer_is : r ≡ pointer (kind_code k) → r ≡ b → pointer n ≡ b
    pointer_is p q = sym (computed pointer pointer_named p) ∙ q

    pub fielded_is : r ≡ fielded (kind_code k) → r ≡ b → fielded n ≡ b
    fielded_is p q = sym (computed fielded fielded_named p) ∙ q

    pub shut_is : r ≡ shut (kind_code k) → r ≡ b → shut n ≡ b
    shut_is p q = sym (computed shut shut_named p) ∙ q

  -- a comparison by `!=` (`==`: type_record, KindLaws); the last argument is `refl` for each kind but Other
  module _ (j : Kind) {r : Bool} (p : r ≡ not (sameb the_type k j)) where
    pub ne_true : r ≡ true → ltb (kind_code j) 11 ≡ true → n ≢ kind_code j
    ne_true q = eq_false n j e refl (not-true (sameb the_type k j) (sym p ∙ q))

    pub ne_false : r ≡ false → ltb (kind_code j) 11 ≡ true → n ≡ kind_code j
    ne_false q = eq_true n j e refl (not-false (sameb the_type k j) (sym p ∙ q))
