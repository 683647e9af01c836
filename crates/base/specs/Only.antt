-- With which numbers an answer is refused. `Only ns a` says that a is refused with no number but those of the list ns; like `Good` it
-- goes through a definition as the definition does.
use Rattle.std.specs.Prelude.{◌≡◌, refl, ◌≢◌, Bool, true, false, ◌&&◌, List, [], ◌∷◌, ℕ, eqb}
use Rattle.std.proofs.Common.{subst, eqb-true}
use Rattle.model.specs.Answer.{Answer, refused, done, ◌>>=◌, require}
use Rattle.model.specs.Rounds.{elem}
use Rattle.model.specs.Promised.{OneOf}
use Rattle.base.specs.Tests.{split, clash, and_left, and_right}

-- an answer that is refused only with these numbers
pub data Only (ns : List ℕ) {A : Type 0} : Answer A → Type 0 where
  only_refused : {n : ℕ} → OneOf ns n → Only ns (refused n)
  only_done : {a : A} → Only ns (done a)

-- through a step, whose value is the answer's
pub only_then : {ns : List ℕ} {A B : Type 0} {a : Answer A} {f : A → Answer B} → Only ns a → ((x : A) → a ≡ done x → Only ns (f x)) → Only ns (a >>= f)
only_then (only_refused e) h = only_refused e
only_then (only_done {a}) h = h a refl

-- through a step, whatever its value
pub only_bind : {ns : List ℕ} {A B : Type 0} {a : Answer A} {f : A → Answer B} → Only ns a → ((x : A) → Only ns (f x)) → Only ns (a >>= f)
only_bind o h = only_then o (λ x e. h x)

-- through a demand
pub only_require : (ns : List ℕ) {A : Type 0} (b : Bool) (r : ℕ) (f : Unit {0} → Answer A) → OneOf ns r → (b ≡ true → Only ns (f tt)) → Only ns (require b r f)
only_require ns true r f e h = h refl
only_require ns false r f e h = only_refused e

-- are all of the first numbers among the second?
abbrev pub within : List ℕ → List ℕ → Bool
within [] ns = true
within (m ∷ ms) ns = elem m ns && within ms ns

-- so is one of the first
within_one : (ms ns : List ℕ) (n : ℕ) → within ms ns ≡ true → OneOf ms n → OneOf ns n
unfolding elem
within_one [] ns n h e = clash (cc)
within_one (m ∷ ms) ns n h e = split (eqb n m)
    (λ d. rw (eqb-true n m d) (and_left (elem m ns) (within ms ns) h))
    (λ d. within_one ms ns n (and_right (elem m ns) (within ms ns) h) (cc))

-- one of these numbers is none that is not among them
pub one_apart : (ns : List ℕ) (k n : ℕ) → OneOf ns n → elem k ns ≡ false → n ≢ k
one_apart ns k n o d e = clash (cc)

-- more numbers
pub only_more : {ms ns : List ℕ} {A : Type 0} {a : Answer A} → within ms ns ≡ true → Only ms a → Only ns a
only_more {ms} {ns} h (only_refused {n} e) = only_refused (within_one ms ns n h e)
only_more h only_done = only_done

-- of a refusal
only_value : {ns : List ℕ} {A : Type 0} {n : ℕ} → Only ns {A = A} (refused n) → OneOf ns n
only_value (only_refused e) = e

-- in the form of a user
pub only_at : {ns : List ℕ} {A : Type 0} {a : Answer A} {n : ℕ} → Only ns a → a ≡ refused n → OneOf ns n
only_at {ns} {A} o e = only_value {A = A} (subst (Only ns) e o)

-- and back
pub only_of : {ns : List ℕ} {A : Type 0} (a : Answer A) → ((n : ℕ) → a ≡ refused n → OneOf ns n) → Only ns a
only_of (refused n) h = only_refused (h n refl)
only_of (done x) h = only_done
