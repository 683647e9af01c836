-- The code's answers as model's: what is recorded, the number told with it, and the state; refusals by document 01's numbers.
use Rattle.std.specs.Prelude.{◌≡◌, List, ℕ, Option, Some, None, Result, Ok, Err}
use Rattle.std.proofs.Math.Option as Math
use Rattle.model.specs.Answer.{Answer, refused, done, ◌>>=◌}
use Rattle.model.specs.Tree.{Forest}
use Rattle.model.specs.State as Model
use Rattle.model.specs.Place.{Elem, Verb, Spot, At}
use Rattle.model.specs.Walk.{nth, walk, carry_at, fitting}
use Rattle.model.specs.Calls.{Recorded, nothing, fold, unfold_at, recorded_as, statement_at}
use Rattle.model.specs.Promised.{OneOf, use_numbers, UsePromise}
use Rattle.records.specs.Here.{Holds}
use Rattle.refusal.specs.Refusal.{number, answered}
use Rattle.refusal.specs.declared.Refusal.{Refusal}
use Rattle.walk.specs.Way.{acts}
use Rattle.walk.specs.Applied.{Opens, Carried}
use Rattle.walk.specs.declared.step.More.{More}
use Rattle.walk.specs.declared.along.Walk.{Walk}
use Rattle.state.specs.Value.{value}
use Rattle.state.specs.declared.nodes.State.{State}
use Rattle.env.specs.declared.project.Projected.{Projected}
use Rattle.env.specs.declared.project.Projected.TheVariants.{Nothing, Fold, Unfold}
use Rattle.env.specs.declared.project.Use.{Use}
use Rattle.env.specs.declared.project.Usage.{Usage}
use Rattle.env.specs.declared.project.Moved.{Moved}
use Rattle.env.specs.declared.project.On.{On}
use Rattle.env.specs.declared.project.On.TheVariants.{Enum, Element}

-- what a call in a lent state leaves, as a call by value has it
abbrev pub usage : Result Use Refusal → State → Usage
usage a s = record { answer = a; state = s }

abbrev pub moved : Result (Unit {0}) Refusal → State → Moved
moved a s = record { answer = a; state = s }

abbrev pub recorded : Recorded → Projected
recorded nothing = Nothing
recorded fold = Fold
recorded (unfold_at n) = Unfold n

-- what is recorded, with the number m told beside it
abbrev pub use_of : ℕ → Recorded → Use
use_of m w = record { recorded = recorded w; passed = m }

-- an answer without its value
abbrev pub granted : {A : Type 0} → Answer A → Answer (Unit {0})
granted a = a >>= λ _. done tt

-- the code's projection r from the state s is model's a, told with the number m: its answer, and its state, which a refusal gives back as it came
pub record Projects (Γ locals : List ℕ) (s : State) (m : ℕ) (a : Answer (Forest × List At)) (r : Usage) : Type 0 where
  pub answer : answered r.answer ≡ a >>= λ w. done (use_of m (recorded_as w.1))
  pub moved : (w : Forest × List At) → a ≡ done w → Holds Γ locals (value r.state) w.0
  pub kept : (n : ℕ) → a ≡ refused n → r.state ≡ s

-- a walk with one step more at the node reached, and the test of its result
unfoldable pub last_step : List ℕ → Elem → Spot → Forest → Answer Forest
last_step Γ e q E = nth q.local (walk Γ (acts Γ e) q.place) E >>= fitting Γ

-- a statement carried out, and the test of its result
unfoldable pub carrying : List ℕ → List ℕ → Verb → Spot → Forest → Answer Forest
carrying Γ locals v q E = carry_at Γ (statement_at Γ locals v q) E >>= fitting Γ

-- the same of a call that gives a state alone
pub record Moves (Γ locals : List ℕ) (s : State) (a : Answer Forest) (r : Moved) : Type 0 where
  pub answer : answered r.answer ≡ granted a
  pub moved : (D : Forest) → a ≡ done D → Holds Γ locals (value r.state) D
  pub kept : (n : ℕ) → a ≡ refused n → r.state ≡ s

-- the walk w opens what model's a gives, by its last step m
pub record Widens (Γ locals ops args : List ℕ) (s : State) (m : More) (a : Answer Forest) (w : Walk) : Type 0 where
  pub opens : Opens Γ ops args s w (Some m)
  pub fine : granted a ≡ done tt
  pub gives : (r : State) → Carried Γ ops args s w (Some m) r → Moves Γ locals s a (moved (Ok tt) r)

-- what the step m does in the state s is model's a: nothing, or it opens the nodes of a walk, or it is refused
abbrev pub Lasts : (Γ locals ops args : List ℕ) → State → More → Answer Forest → Result (Option Walk) Refusal → Type 0
Lasts Γ locals ops args s m a (Ok None) = Moves Γ locals s a (moved (Ok tt) s)
Lasts Γ locals ops args s m a (Ok (Some w)) = Widens Γ locals ops args s m a w
Lasts Γ locals ops args s m a (Err r) = a ≡ refused (number r)

-- what a match is on
abbrev pub on_of : Math.Option ℕ → On
on_of Math.none = Element
on_of (Math.some t) = Enum t

-- THE CALLS FOR USERS

-- the answer of a projection is model's a: what is recorded, the number told with it, and the state, which a refusal gives back as it came
pub record Records (s : State) (a : Answer (Recorded × ℕ × Model.State)) (r : Usage) : Type 0 where
  pub answer : answered r.answer ≡ a >>= λ w. done (use_of w.1 w.0)
  pub moved : (w : Recorded × ℕ × Model.State) → a ≡ done w → value r.state ≡ w.2
  pub kept : (n : ℕ) → a ≡ refused n → r.state ≡ s

-- the answer of a call that gives a state alone is model's a
pub record Gives (s : State) (a : Answer Model.State) (r : Moved) : Type 0 where
  pub answer : answered r.answer ≡ granted a
  pub moved : (m : Model.State) → a ≡ done m → value r.state ≡ m
  pub kept : (n : ℕ) → a ≡ refused n → r.state ≡ s

-- what a projection promises beside that: with which numbers it refuses, and what holds of what it records and of the state that it gives
pub record Uses (Γ locals : List ℕ) (s : State) (ops args : List ℕ) (r : Usage) : Type 0 where
  pub numbered : (n : Refusal) → r.answer ≡ Err n → OneOf use_numbers (number n)
  pub used : (w : Recorded) (m : ℕ) → r.answer ≡ Ok (use_of m w) → UsePromise Γ locals (value s) ops args w m (value r.state)

-- a call that gives a state alone refuses with these numbers
abbrev pub Refuses : List ℕ → Moved → Type 0
Refuses ns r = (n : Refusal) → r.answer ≡ Err n → OneOf ns (number n)
