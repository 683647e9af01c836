-- Laws of answers. Nothing of any record or tree.
-- A law of what is accepted is stated by `Good`: nothing is asked of a refusal, and P of a value. It goes through a
-- definition as the definition does: `good_bind` at a `>>=`, `good_cond` at a test, `refl` or `cc` at a `done`.
use Rattle.std.specs.Prelude.{◌≡◌, refl, ◌↔◌, Bool, true, false, cond, List, [], ◌∷◌, ◌++◌, map, ℕ}
use Rattle.std.proofs.Common.{sym, ◌∙◌, subst}
use Rattle.std.proofs.Math.Option.{Option, none, some}
use Rattle.model.specs.Answer.{run, refused, ◌>>=◌, done, Answer, require, earlier}
use Rattle.base.specs.Tests.{clash}

-- by cases on an answer: `split_answer (walk Γ act p s) (λ r e. ..) (λ u e. ..)`, with e in reach of `cc`
pub split_answer : {A P : Type 0} (a : Answer A) → ((r : ℕ) → a ≡ refused r → P) → ((x : A) → a ≡ done x → P) → P
split_answer (refused r) f g = f r refl
split_answer (done x) f g = g x refl

-- P of the value, if there is one
pub data Good {A : Type 0} (P : A → Type 0) : Answer A → Type 0 where
  good_refused : {n : ℕ} → Good P (refused n)
  good_done : {a : A} → P a → Good P (done a)

-- through a step
pub good_bind : {A B : Type 0} {P : A → Type 0} {Q : B → Type 0} {a : Answer A} {f : A → Answer B} → Good P a
    → ((x : A) → P x → Good Q (f x)) → Good Q (a >>= f)
good_bind good_refused h = good_refused
good_bind (good_done {a} p) h = h a p

-- through a test
pub good_cond : {A : Type 0} (P : A → Type 0) {x y : Answer A} (b : Bool) → (b ≡ true → Good P x) → (b ≡ false → Good P y)
    → Good P (cond b x y)
good_cond P true f g = f refl
good_cond P false f g = g refl

-- through a demand
pub good_require : {A : Type 0} (P : A → Type 0) (b : Bool) (r : ℕ) (f : Unit {0} → Answer A) → (b ≡ true → Good P (f tt))
    → Good P (require b r f)
good_require P true r f h = h refl
good_require P false r f h = good_refused

-- of a value
pub good_value : {A : Type 0} {P : A → Type 0} {a : A} → Good P (done a) → P a
good_value (good_done p) = p

-- the law in the form of a user: accepted with x, so P of x
pub good_at : {A : Type 0} {P : A → Type 0} {a : Answer A} {x : A} → Good P a → a ≡ done x → P x
good_at {P} g e = good_value (subst (Good P) e g)

-- the value is the answer's
pub good_self : {A : Type 0} (a : Answer A) → Good (λ x. a ≡ done x) a
good_self (refused n) = good_refused
good_self (done x) = good_done refl

-- and the value is the answer's
pub good_both : {A : Type 0} {P : A → Type 0} {a : Answer A} → Good P a → Good (λ x. P x × (a ≡ done x)) a
good_both good_refused = good_refused
good_both (good_done p) = good_done (p, refl)

-- two laws of one answer
pub good_and : {A : Type 0} {P Q : A → Type 0} {a : Answer A} → Good P a → Good Q a → Good (λ x. P x × Q x) a
good_and good_refused k = good_refused
good_and (good_done p) k = good_done (p, good_value k)

-- of a refusal nothing is asked
pub good_none : {A : Type 0} {P : A → Type 0} {a : Answer A} {n : ℕ} → a ≡ refused n → Good P a
good_none {P} e = subst (Good P) (sym e) good_refused

-- a consequence
pub good_same : {A : Type 0} {P Q : A → Type 0} {a : Answer A} → ((x : A) → P x → Q x) → Good P a → Good Q a
good_same h good_refused = good_refused
good_same h (good_done {a} p) = good_done (h a p)

-- WHAT IS ACCEPTED

-- an answer that is a value
pub data Accepted {A : Type 0} : Answer A → Type 0 where
  accepted : {a : A} → Accepted (done a)

-- through a step
pub accept_bind : {A B : Type 0} {a : Answer A} {f : A → Answer B} → Accepted a → ((x : A) → Accepted (f x)) → Accepted (a >>= f)
accept_bind (accepted {a}) h = h a

-- the value
pub accepted_value : {A : Type 0} {a : Answer A} → Accepted a → (x : A) × (a ≡ done x)
accepted_value (accepted {a}) = (a, refl)

-- a step is accepted: so were both its parts
pub then_done : {A B : Type 0} (a : Answer A) {f : A → Answer B} {b : B} → a >>= f ≡ done b → (x : A) × (a ≡ done x) × (f x ≡ done b)
then_done (refused r) e = clash (cc)
then_done (done x) e = (x, refl, e)

-- an answer's value, mapped
abbrev pub answer_map : {A B : Type 0} → (A → B) → Answer A → Answer B
answer_map h a = a >>= λ x. done (h x)

-- WHAT IS REFUSED

-- the number of the refusal, if it is one
abbrev pub refusal : {A : Type 0} → Answer A → Option ℕ
refusal (refused n) = some n
refusal (done a) = none

-- a step is refused as its first part is, else as its second
pub refusal_bind : {A B : Type 0} (a : Answer A) (f : A → Answer B) {r : Option ℕ} → ((x : A) → refusal (f x) ≡ r)
    → refusal (a >>= f) ≡ earlier (refusal a) r
refusal_bind (refused n) f h = refl
refusal_bind (done x) f h = h x

-- a step that is never refused
pub refusal_map : {A B : Type 0} (a : Answer A) (f : A → B) → refusal (a >>= λ x. done (f x)) ≡ refusal a
refusal_map (refused n) f = refl
refusal_map (done x) f = refl

-- the answer is that refusal exactly if that is its number
pub refusal_refused : {A : Type 0} (a : Answer A) (n : ℕ) → (a ≡ refused n) ↔ (refusal a ≡ some n)
refusal_refused (refused m) n = (λ e. cc, λ e. cc)
refusal_refused (done x) n = (λ e. cc, λ e. cc)

-- and accepted exactly if it has none
pub refusal_accepted : {A : Type 0} (a : Answer A) → Accepted a ↔ (refusal a ≡ none)
refusal_accepted (refused m) = (
  λ e. clash (cc (accepted_value e).1),
  λ e. clash (cc),
)
refusal_accepted (done x) = (λ e. refl, λ e. accepted)

-- EQUATIONS

-- two continuations that agree
pub bind_same : {A B : Type 0} {f g : A → Answer B} (a : Answer A) → ((x : A) → f x ≡ g x) → a >>= f ≡ a >>= g
bind_same (refused n) h = refl
bind_same (done x) h = h x

-- to answer with the value is nothing
pub bind_done : {A : Type 0} (a : Answer A) → a >>= done ≡ a
bind_done (refused n) = refl
bind_done (done x) = refl

-- steps in a row
pub bind_bind : {A B C : Type 0} (a : Answer A) (f : A → Answer B) (g : B → Answer C) → (a >>= f) >>= g ≡ a >>= (λ x. f x >>= g)
bind_bind (refused n) f g = refl
bind_bind (done x) f g = refl

-- two lists of steps, one after the other
pub run_append : {A S : Type 0} (f : A → S → Answer S) (a b : List A) (s : S) → run f (a ++ b) s ≡ run f a s >>= run f b
run_append f [] b s = refl
run_append f (x ∷ a) b s = bind_same (f x s) (run_append f a b) ∙ sym (bind_bind (f x s) (run f a) (run f b))

-- a list of steps that stand for others, on what stands for the same: a successful run of those is one of these.
-- Ok: what the steps keep
module _ {A B S U : Type 0} (f : A → S → Answer S) (g : B → U → Answer U) (name : A → B) (frame : S → U) (Ok : S → Type 0)
    (sim : (a : A) (s : S) → Ok s → Good (λ u. Ok u × (g (name a) (frame s) ≡ done (frame u))) (f a s)) where
  -- the run of the others
  pub run_sim : (as' : List A) (s : S) → Ok s → Good (λ u. run g (map name as') (frame s) ≡ done (frame u)) (run f as' s)
  run_sim [] s o = good_done refl
  run_sim (a ∷ as') s o = good_bind (sim a s o) (λ u h. good_same (λ w k. cc) (run_sim as' u h.0))

-- what each step keeps, the run keeps
pub run_keeps : {A S : Type 0} {f : A → S → Answer S} {Ok : S → Type 0} → ((a : A) (s : S) → Ok s → Good Ok (f a s))
    → (as' : List A) (s : S) → Ok s → Good Ok (run f as' s)
run_keeps h [] s o = good_done o
run_keeps h (a ∷ as') s o = good_bind (h a s o) (λ u k. run_keeps h as' u k)
