-- What a call has tested where it goes on (`typed`, `taken`, `placed` of model's Calls), and the states that it reads and gives.
use Rattle.std.specs.Prelude.{◌≡◌, refl, ◌≢◌, Bool, true, List, ℕ}
use Rattle.std.proofs.Math.Option.{Option, none, some}
use Rattle.model.specs.Answer.{Answer, refused}
use Rattle.model.specs.Types.{types_ok}
use Rattle.model.specs.Tree.{Forest}
use Rattle.model.specs.State.{State, encode, decode, locals_ok}
use Rattle.model.specs.Place.{Spot}
use Rattle.model.specs.Calls.{typed, taken, placed, spot_of}
use Rattle.base.specs.Tests.{split, split_option}
use Rattle.base.specs.Answer.{Good, good_refused, good_require}
use Rattle.laws.specs.Sound.{types_sound}
use Rattle.laws.specs.Valid.{Valid}
use Rattle.records.specs.Encode.{decode_fits, decode_few, decode_deep}
use Rattle.records.specs.Decode.{decode_encode}

-- types and local types that pass
pub record Passing (Γ locals : List ℕ) : Type 0 where
  pub types : types_ok Γ ≡ true
  pub typed : locals_ok Γ locals ≡ true

-- an answer by cases on what may be there: P of its value, if it has one
option_good : {A B : Type 0} (P : B → Type 0) (o : Option A) (r : ℕ) (f : A → Answer B) → ((a : A) → o ≡ some a → Good P (f a))
    → Good P (elim o [ none ↦ refused r | some a ↦ f a ])
option_good P none r f h = good_refused
option_good P (some a) r f h = h a refl

module _ {A : Type 0} (P : A → Type 0) (Γ locals : List ℕ) where
  -- the types pass
  pub good_typed : (f : Unit {0} → Answer A) → (Passing Γ locals → Good P (f tt)) → Good P (typed Γ locals f)
  unfolding typed
  good_typed f h = good_require P (types_ok Γ) 1 _ (λ t. good_require P (locals_ok Γ locals) 3 f (λ l. h (record { types = t; typed = l })))

  -- a state is read
  pub good_taken : (s : State) (f : Forest → Answer A) → ((E : Forest) → decode Γ locals s ≡ some E → Good P (f E)) → Good P (taken Γ locals s f)
  unfolding taken
  good_taken s f h = option_good P (decode Γ locals s) 3 f h

  -- and a place
  pub good_placed : (ok : Spot → Bool) (ops args : List ℕ) (f : Spot → Answer A)
      → ((q : Spot) → spot_of ops args ≡ some q → ok q ≡ true → Good P (f q)) → Good P (placed ok ops args f)
  unfolding placed
  good_placed ok ops args f h = option_good P (spot_of ops args) 4 _ (λ q e. good_require P (ok q) 4 (λ _. f q) (λ k. h q e k))

-- WHAT IS REFUSED WITH ANOTHER NUMBER THAN THE TESTS'

module _ {A : Type 0} (Γ locals : List ℕ) where
  -- the types pass
  pub typed_past : (f : Unit {0} → Answer A) (r : ℕ) → typed Γ locals f ≡ refused r → r ≢ 1 → r ≢ 3 → Passing Γ locals × (f tt ≡ refused r)
  unfolding typed
  typed_past f r e a b = split (types_ok Γ)
      (λ t. split (locals_ok Γ locals) (λ l. (record { types = t; typed = l }, cc)) (λ l. absurd (b (cc))))
      (λ t. absurd (a (cc)))

  -- a state is read
  pub taken_past : (s : State) (f : Forest → Answer A) (r : ℕ) → taken Γ locals s f ≡ refused r → r ≢ 3
      → (E : Forest) × (decode Γ locals s ≡ some E) × (f E ≡ refused r)
  unfolding taken
  taken_past s f r e b = split_option (decode Γ locals s) (λ d. absurd (b (cc))) (λ E d. (E, d, cc))

-- THE STATES

module _ (Γ locals : List ℕ) where
  -- a state that is read is one of a run
  pub decode_valid : (s : State) {E : Forest} → decode Γ locals s ≡ some E → Valid Γ locals E
  decode_valid s {E} e = record { fits = decode_fits Γ locals s E e; small = decode_few Γ locals s E e; shallow = decode_deep Γ locals s E e }

  -- and one of a run is read back
  pub valid_decode : {E : Forest} → types_ok Γ ≡ true → Valid Γ locals E → decode Γ locals (encode Γ E) ≡ some E
  valid_decode t v = decode_encode (types_sound Γ t).known v.fits v.shallow v.small
