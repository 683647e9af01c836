-- The whole-function call with the numbers beside its statement record (document 02, F-4): an accepted one leaves what it leaves without
-- them, and the numbers say where openings began; demand 1.
use Rattle.std.specs.Prelude.{◌≡◌, true, List, ℕ, ◌≤◌, length, leb}
use Rattle.std.proofs.Math.Path.{refl, ap}
use Rattle.std.proofs.Common.{◌∙◌, le-leb}
use Rattle.model.specs.Answer.{Answer, refused, done, ◌>>=◌}
use Rattle.model.specs.Tree.{Forest}
use Rattle.model.specs.Place.{At}
use Rattle.model.specs.Passes.{Found}
use Rattle.model.specs.Record.{lent}
use Rattle.model.specs.Rounds.{elem}
use Rattle.model.specs.Whole.{accepted, denied, result, found, whole, with_numbers, found_told, told_of, whole_told}
use Rattle.model.specs.Replay.{Replayed}
use Rattle.model.specs.Told.{Numbered, NumbersRight}
use Rattle.model.specs.Promised.{OneOf, whole_numbers}
use Rattle.base.specs.Tests.{split, clash}
use Rattle.base.specs.Answer.{then_done}
use Rattle.base.specs.Only.{only_done, only_bind, only_require, only_at}
use Rattle.demand.specs.Whole.{front_numbered, found_passed, whole_demand}
use Rattle.demand.specs.Refused.{found_refuses, result_refuses}

-- how many numbers there are to tell
abbrev pub needed : Answer (Found Forest At) → ℕ
needed (refused n) = 0
needed (done f) = length f.lines

module _ (Γ fn : List ℕ) (nforms nwhats nout ntold : ℕ) where
  -- a call accepted with its numbers is accepted without them, and there is room for them
  numbers_fit : (s : Found Forest At) {r : Found Forest At} → with_numbers Γ fn nforms nwhats nout ntold s ≡ done r → (s ≡ r) × (leb (length r.lines) ntold ≡ true)
  unfolding with_numbers
  numbers_fit s e = split (leb (length s.lines) ntold) (λ d. (cc, cc)) (λ d. clash (cc))

  pub told_found : {r : Found Forest At} → found_told Γ fn nforms nwhats nout ntold ≡ done r
      → (found Γ fn nforms nwhats nout ≡ done r) × (leb (length r.lines) ntold ≡ true)
  unfolding found_told
  told_found {r} e =
      let (s, u, d) = then_done (found Γ fn nforms nwhats nout) e in
      let (q, l) = numbers_fit s d in
      (u ∙ ap done q, l)

  -- with the same result
  told_result : (a : Answer (Found Forest At)) → found_told Γ fn nforms nwhats nout ntold ≡ a → {c : ℕ × ℕ} → (result Γ fn nforms nwhats nout a).answer ≡ done c
      → result Γ fn nforms nwhats nout a ≡ whole Γ fn nforms nwhats nout
  unfolding result denied whole
  told_result (refused n) p e = clash (cc)
  told_result (done r) p e = cc (told_found p).0

  pub told_whole : {c : ℕ × ℕ} → (whole_told Γ fn nforms nwhats nout ntold).result.answer ≡ done c
      → (whole_told Γ fn nforms nwhats nout ntold).result ≡ whole Γ fn nforms nwhats nout
  unfolding whole_told
  told_whole e = told_result (found_told Γ fn nforms nwhats nout ntold) refl e

  -- and so is a refused one, where the array has an entry for each statement
  found_enough : (a : Answer (Found Forest At)) → needed a ≤ ntold → a >>= with_numbers Γ fn nforms nwhats nout ntold ≡ a
  unfolding with_numbers
  found_enough (refused n) l = refl
  found_enough (done f) l = rw (le-leb (length f.lines) ntold l) refl

  pub told_enough : needed (found Γ fn nforms nwhats nout) ≤ ntold → (whole_told Γ fn nforms nwhats nout ntold).result ≡ whole Γ fn nforms nwhats nout
  unfolding whole_told whole found_told
  told_enough l = ap (result Γ fn nforms nwhats nout) (found_enough (found Γ fn nforms nwhats nout) l)

  -- DEMAND 3, of that call
  pub told_demand : {c : ℕ × ℕ} → (whole_told Γ fn nforms nwhats nout ntold).result.answer ≡ done c → Replayed Γ fn (whole_told Γ fn nforms nwhats nout ntold).result.out
  told_demand e = let q = told_whole e in rw q (whole_demand Γ fn nforms nwhats nout (rw q at e))

  -- DEMAND 1
  pub told_refuses : (n : ℕ) → (whole_told Γ fn nforms nwhats nout ntold).result.answer ≡ refused n → OneOf whole_numbers n
  unfolding whole_told found_told with_numbers elem
  told_refuses n e = only_at (result_refuses Γ fn nforms nwhats nout (only_bind (found_refuses Γ fn nforms nwhats nout)
      (λ f. only_require whole_numbers (leb (length f.lines) ntold) 10 _ refl (λ w. only_done)))) e

  -- WHAT THE NUMBERS SAY
  found_numbered : (a : Answer (Found Forest At)) → found_told Γ fn nforms nwhats nout ntold ≡ a → {c : ℕ × ℕ} → (result Γ fn nforms nwhats nout a).answer ≡ done c
      → Numbered Γ fn (result Γ fn nforms nwhats nout a).out (told_of Γ fn nforms nwhats nout ntold a)
  unfolding result accepted denied told_of lent
  found_numbered (refused n) p e = clash (cc)
  found_numbered (done r) p e = let (H, q, w) = found_passed Γ fn nforms nwhats nout (told_found p).0 in front_numbered H _ _ q

-- of model's statement
pub numbers_right : NumbersRight
unfolding whole_told
numbers_right Γ fn nforms nwhats nout ntold c e = found_numbered Γ fn nforms nwhats nout ntold (found_told Γ fn nforms nwhats nout ntold) refl e
