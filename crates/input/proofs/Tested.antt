-- What the tests of input say to the calls that model defines: each goes on, or is refused. Assumes nothing.
use mathlib.Core.Path.{◌≡◌}
use mathlib.Core.Bool.{cond}
use mathlib.Core.List.{List}
use mathlib.Core.Option.{some}
use Prim.Native.Nat.{ℕ}
use native.Mathlib.Omega.{arith}
use Rattle.model.specs.Answer.{Answer, refused}
use Rattle.model.specs.Types.{types_ok}
use Rattle.model.specs.Tree.{Forest}
use Rattle.model.specs.State.{State, decode, locals_ok}
use Rattle.model.specs.Calls.{typed, taken}
use Rattle.base.specs.Tests.{split, split_option}
use Rattle.records.specs.Here.{Holds}
use Rattle.records.specs.Encode.{decode_holds}
use Rattle.mir.specs.Parts.{is_some}
use Rattle.input.specs.Input.{Checked}

module _ {A : Type 0} {Γ locals os : List ℕ} {r : ℕ} (c : Checked Γ locals os r) (f : Unit {0} → Answer A) where
  -- the types and the local types pass
  pub typed_goes : r ≡ 0 → typed Γ locals f ≡ f tt
  unfolding typed
  typed_goes z =
      split (types_ok Γ)
      (λ e. split (locals_ok Γ locals) (λ d. cc) (λ d. let no : ◌≡◌ {A = ℕ} 0 3 = cc c.answer in absurd (omega arith)))
      (λ e. let no : ◌≡◌ {A = ℕ} 0 1 = cc c.answer in absurd (omega arith))

  -- they do not
  pub typed_stops : (r ≡ 0 → ⊥) → typed Γ locals f ≡ refused r
  unfolding typed
  typed_stops n =
      split (types_ok Γ)
      (λ e. split (locals_ok Γ locals) (λ d. absurd (n (cc c.answer))) (λ d. cc c.answer))
      (λ e. cc c.answer)

module _ (Γ locals : List ℕ) (s : State) {r : ℕ} (c : r ≡ cond (is_some (decode Γ locals s)) 0 3) where
  -- a state passes: it is read, and held
  pub given_read : r ≡ 0 → (E : Forest) × (decode Γ locals s ≡ some E) × Holds Γ locals s E
  given_read z = split_option (decode Γ locals s) (λ e. let no : ◌≡◌ {A = ℕ} 0 3 = cc in absurd (omega arith)) (λ E e. (E, e, decode_holds Γ locals s E e))

  -- it does not
  pub taken_stops : {A : Type 0} → (r ≡ 0 → ⊥) → (f : Forest → Answer A) → taken Γ locals s f ≡ refused 3
  unfolding taken
  taken_stops n f = split_option (decode Γ locals s) (λ e. rw (e, taken)) (λ E e. absurd (n (cc)))

-- a state that is read is taken
pub taken_goes : {A : Type 0} (Γ locals : List ℕ) (s : State) {E : Forest} (f : Forest → Answer A) → decode Γ locals s ≡ some E → taken Γ locals s f ≡ f E
unfolding taken
taken_goes Γ locals s f e = rw (e, taken)
