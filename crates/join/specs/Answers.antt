-- The code's answers as model's.
use Rattle.std.specs.Prelude.{◌≡◌, Bool, false, cond, Option, Some, None, Ok, Err, List, ℕ, ◌≤◌, leb}
use Rattle.model.specs.Answer.{Answer, refused, done}
use Rattle.model.specs.Tree.{Forest, sizes, joins, flagss}
use Rattle.model.specs.State as Model
use Rattle.model.specs.Promised.{OneOf, join_numbers, JoinPromise}
use Rattle.records.specs.Here.{Holds}
use Rattle.refusal.specs.declared.Refusal.{Refusal}
use Rattle.refusal.specs.Refusal.{number, answered}
use Rattle.state.specs.Value.{value}
use Rattle.state.specs.declared.nodes.State.{State}
use Rattle.join.specs.declared.trees.Joined.{Joined}
use Rattle.join.specs.declared.Merged.{Merged}

-- how many nodes a joined state has, and whether the first one changed
abbrev pub joined_to : ℕ → Bool → Joined
joined_to n c = record { nodes = n; changed = c }

-- what a join of the states S and E gives, if it has room
unfoldable pub joined : List ℕ → Forest → Forest → Option Joined
joined Γ S E = cond (leb (sizes (joins Γ false S E)) 512) (Some (joined_to (sizes (joins Γ false S E)) (flagss Γ false S E).0)) None

-- and the two arrays that it is written to, where it has room
pub record JoinedIn (Γ : List ℕ) (S E : Forest) (r : Option Joined) (of ow : List ℕ) : Type 0 where
  pub answer : r ≡ joined Γ S E
  pub forms : sizes (joins Γ false S E) ≤ 512 → of ≡ (Model.encode Γ (joins Γ false S E)).forms
  pub whats : sizes (joins Γ false S E) ≤ 512 → ow ≡ (Model.encode Γ (joins Γ false S E)).whats

-- some state stands in s
abbrev pub Given : List ℕ → List ℕ → State → Type 0
Given Γ locals s = (S : Forest) × Holds Γ locals (value s) S

-- r and the arrays are the join of the states that stand in s and e
abbrev pub JoinedAs : List ℕ → List ℕ → State → State → Option Joined → List ℕ → List ℕ → Type 0
JoinedAs Γ locals s e r of ow = (S E : Forest) → Holds Γ locals (value s) S → Holds Γ locals (value e) E → JoinedIn Γ S E r of ow

-- the flag alone
abbrev pub flag_of : Answer (Bool × Model.State) → Answer Bool
flag_of (refused n) = refused n
flag_of (done w) = done w.0

-- a refusal gives the first state back
abbrev pub refusal : Refusal → State → Merged
refusal r s = record { answer = Err r; state = s }

-- the call's answer is model's a: the flag, and the state, which a refusal gives back as it came
pub record Joins (s : State) (a : Answer (Bool × Model.State)) (r : Merged) : Type 0 where
  pub answer : answered r.answer ≡ flag_of a
  pub moved : (w : Bool × Model.State) → a ≡ done w → value r.state ≡ w.1
  pub kept : (n : ℕ) → a ≡ refused n → r.state ≡ s

-- what the call promises beside that: with which numbers it refuses, and what holds of a state that it gives
pub record Promises (Γ locals : List ℕ) (s e : State) (r : Merged) : Type 0 where
  pub numbered : (x : Refusal) → r.answer ≡ Err x → OneOf join_numbers (number x)
  pub joined : (b : Bool) → r.answer ≡ Ok b → JoinPromise Γ locals (value s) (value e) b (value r.state)
