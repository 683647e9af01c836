-- A number and the kind that it names: what model says of the one holds of the other. Assumes nothing.
use mathlib.Core.Path.{◌≡◌, refl, sym, ap, ◌∙◌}
use mathlib.Core.Bool.{Bool, true, false}
use mathlib.Core.List.{List, [], ◌∷◌}
use Prim.Native.Nat.{ℕ, zero, suc, ◌≤◌, ◌<◌}
use native.Mathlib.Omega.{arith}
use denote.Enum.Bare.{sameb}
use denote.Enum.Declared.{tag_of}
use lib.Dec.{eqb}
use lib.ListN.{get_or-eq_default}
use borrow.Author.Tests.{ne_eqb, eqb-true, eqb-false, lt-leb}
use Rattle.model.specs.Assign.{Operand, operand_gives, operands_give}
use Rattle.assign.specs.Checked.{words_known}
use Rattle.assign.specs.Kinds.{kind_code, kind_named}
use Rattle.assign.specs.contracts.known.Rvalue.{the_type}
use Rattle.assign.specs.declared.known.Rvalue.{Rvalue}
use Rattle.assign.specs.declared.known.Rvalue.TheVariants.{Use, Repeat, Ref, RawPtr, Cast, BinaryOp, UnaryOp, Discriminant, Aggregate, Other}
use Rattle.assign.proofs.Reading.{below}

-- a number up to 8 is its kind's
named_small : (n : ℕ) → n < 9 → kind_code (kind_named n) ≡ n
unfolding kind_named
named_small zero l = refl
named_small (suc zero) l = refl
named_small (suc (suc zero)) l = refl
named_small (suc (suc (suc zero))) l = refl
named_small (suc (suc (suc (suc zero)))) l = refl
named_small (suc (suc (suc (suc (suc zero))))) l = refl
named_small (suc (suc (suc (suc (suc (suc zero)))))) l = refl
named_small (suc (suc (suc (suc (suc (suc (suc zero))))))) l = refl
named_small (suc (suc (suc (suc (suc (suc (suc (suc zero)))))))) l = refl
named_small (suc (suc (suc (suc (suc (suc (suc (suc (suc n))))))))) l = absurd (omega arith)

-- one above names none
named_above : (n : ℕ) → 9 ≤ n → kind_named n ≡ Other
unfolding kind_named
named_above n l = get_or-eq_default (Use ∷ Repeat ∷ Ref ∷ RawPtr ∷ Cast ∷ BinaryOp ∷ UnaryOp ∷ Discriminant ∷ Aggregate ∷ []) Other {n = n} l

-- so what does not tell the numbers above 8 apart says the same of a number and of its kind's
named_same : {A : Type 0} (f : ℕ → A) → ((n : ℕ) → 9 ≤ n → f n ≡ f 9) → (n : ℕ) → f (kind_code (kind_named n)) ≡ f n
named_same f h n = below n 9 (λ l. ap f (named_small n l)) (λ l. ap (λ (k : Rvalue). f (kind_code k)) (named_above n l) ∙ sym (h n l))

pub known_named : (n f c first last : ℕ) → words_known (kind_code (kind_named n)) f c first last ≡ words_known n f c first last
unfolding words_known
known_named n f c first last = named_same (λ k. words_known k f c first last) (λ m l. rw (lt-leb m 8 l) refl) n

operand_above : (n f : ℕ) (p : Operand) → 9 ≤ n → operand_gives n f p ≡ operand_gives 9 f p
unfolding operand_gives
operand_above n f p l = rw (ne_eqb n 2 (λ e. absurd (omega arith)), ne_eqb n 6 (λ e. absurd (omega arith)), ne_eqb n 7 (λ e. absurd (omega arith))) refl

operands_above : (n f : ℕ) (ps : List Operand) → 9 ≤ n → operands_give n f ps ≡ operands_give 9 f ps
unfolding operands_give
operands_above n f [] l = refl
operands_above n f (p ∷ ps) l = rw (operand_above n f p l, operands_above n f ps l) refl

pub operands_named : (n f : ℕ) (ps : List Operand) → operands_give (kind_code (kind_named n)) f ps ≡ operands_give n f ps
operands_named n f ps = named_same (λ k. operands_give k f ps) (λ m l. operands_above m f ps l) n

pub seven_named : (n : ℕ) → eqb (kind_code (kind_named n)) 7 ≡ eqb n 7
seven_named = named_same (λ k. eqb k 7) (λ m l. rw (ne_eqb m 7 (λ e. absurd (omega arith))) refl)

-- what `==` on kinds answers
tag_code : (k : Rvalue) → tag_of the_type k ≡ kind_code k
tag_code Use = refl
tag_code Repeat = refl
tag_code Ref = refl
tag_code RawPtr = refl
tag_code Cast = refl
tag_code BinaryOp = refl
tag_code UnaryOp = refl
tag_code Discriminant = refl
tag_code Aggregate = refl
tag_code Other = refl

pub same_code : (k l : Rvalue) → sameb the_type k l ≡ eqb (kind_code k) (kind_code l)
same_code k l = rw (tag_code k, tag_code l) refl

module _ (k l : Rvalue) {b : Bool} (e : b ≡ sameb the_type k l) where
  pub code_true : b ≡ true → kind_code k ≡ kind_code l
  code_true t = eqb-true (kind_code k) (kind_code l) (sym (e ∙ same_code k l) ∙ t)

  pub code_false : b ≡ false → kind_code k ≡ kind_code l → ⊥
  code_false t = eqb-false (kind_code k) (kind_code l) (sym (e ∙ same_code k l) ∙ t)
