-- The code's results as answers: which they are. Assumes nothing.
use mathlib.Core.Path.{◌≡◌, refl}
use Prim.Native.Nat.{ℕ}
use Rattle.std.specs.Prelude.{Result, Ok, Err}
use Rattle.std.specs.Result.{IsOk}
use Rattle.model.specs.Answer.{Answer, refused, done, ◌>>=◌}
use Rattle.base.specs.Tests.{clash}
use Rattle.refusal.specs.Refusal.{number, answered}
use Rattle.refusal.specs.declared.Refusal.{Refusal}

-- a refusal
pub answered_refused : {A : Type 0} (r : Result A Refusal) {n : ℕ} → answered r ≡ refused n → (e : Refusal) × (r ≡ Err e) × (number e ≡ n)
answered_refused (Ok a) e = clash (cc)
answered_refused (Err d) e = (d, refl, cc)

-- none
pub answered_done : {A : Type 0} (r : Result A Refusal) {a : A} → answered r ≡ done a → IsOk r
answered_done (Ok b) e = refl
answered_done (Err d) e = clash (cc)

-- an answer whose value is changed is refused as it is
pub same_refused : {A B : Type 0} (a : Answer A) (f : A → B) {n : ℕ} → refused n ≡ a >>= (λ x. done (f x)) → a ≡ refused n
same_refused (refused k) f e = cc
same_refused (done x) f e = clash (cc)
