-- The calls on states for users, by the words handed in: each tests its own input, in document 01's order. `refused` stands for
-- states given back as they came and lent output zeroed.
use Rattle.std.specs.Prelude.{Bool, true, false, ◌&&◌, ◌||◌, length, eqb, ltb, leb}
use mathlib.Core.List.{List, [], ◌∷◌}
use Rattle.std.proofs.Math.Option.{Option, none, some}
use Prim.Native.Nat.{ℕ}
use Rattle.model.specs.Answer.{Answer, refused, done, ◌>>=◌, require}
use Rattle.model.specs.Types.{types_ok}
use Rattle.model.specs.Tree.{Forest, joins, flagss}
use Rattle.model.specs.State.{State, encode, decode, locals_ok}
use Rattle.model.specs.Place.{Place, Spot, Verb, Fold, Unfold, dash, At, used_ok, fold_ok, unfold_ok}
use Rattle.model.specs.Walk.{pick, passed, projection, downcasting, carry_at, fitting}
use Rattle.model.specs.Collect.{collects, unfoldss, folds_at_ret}
use Rattle.model.specs.Block.{elem_of}
use Rattle.model.specs.Frame.{mark}
use Rattle.model.specs.Record.{entries, statement_record, writable}

-- THE INPUT

-- types, local types (1 and 3)
unfoldable pub typed : {A : Type 0} → List ℕ → List ℕ → (Unit {0} → Answer A) → Answer A
typed Γ locals f = require (types_ok Γ) 1 λ _. require (locals_ok Γ locals) 3 f

-- a state (3)
unfoldable pub taken : {A : Type 0} → List ℕ → List ℕ → State → (Forest → Answer A) → Answer A
taken Γ locals s f = elim (decode Γ locals s) [ none ↦ refused 3 | some E ↦ f E ]

-- the elements of a place, if the items are any
unfoldable pub elems_of : List ℕ → List ℕ → Option Place
elems_of [] [] = some []
elems_of [] (a ∷ args) = none
elems_of (o ∷ ops) [] = none
elems_of (o ∷ ops) (a ∷ args) = elim (leb 1 o && leb o 4 && (eqb a 0 || eqb o 2 || eqb o 3)) [
  | true ↦ elim (elems_of ops args) [ none ↦ none | some p ↦ some (elem_of o a ∷ p) ]
  | false ↦ none
]

-- the place that the items are: a root, then items 1 to 4
unfoldable pub spot_of : List ℕ → List ℕ → Option Spot
spot_of [] args = none
spot_of (o ∷ ops) [] = none
spot_of (o ∷ ops) (a ∷ args) = elim (eqb o 0) [
  | true ↦ elim (elems_of ops args) [ none ↦ none | some p ↦ some (record { local = a; place = p }) ]
  | false ↦ none
]

-- a place (4)
unfoldable pub placed : {A : Type 0} → (Spot → Bool) → List ℕ → List ℕ → (Spot → Answer A) → Answer A
placed ok ops args f = elim (spot_of ops args) [ none ↦ refused 4 | some q ↦ require (ok q) 4 λ _. f q ]

-- THE CALLS

-- what a projection records: nothing, a fold of the place, an unfold of its first elements
pub data Recorded : Type 0 where
  nothing : Recorded
  fold : Recorded
  unfold_at : ℕ → Recorded

unfoldable pub recorded_verb : Verb → Place → Recorded
recorded_verb Fold p = fold
recorded_verb Unfold p = unfold_at (length p)

unfoldable pub recorded_as : List At → Recorded
recorded_as [] = nothing
recorded_as (a ∷ as') = recorded_verb a.what.verb a.what.place

module _ (Γ locals : List ℕ) where
  -- what is recorded, how many elements the walk had passed before the step that first changed a tree (F-4), and the state
  unfoldable pub call_projection : State → List ℕ → List ℕ → Answer (Recorded × ℕ × State)
  call_projection s ops args = typed Γ locals λ _. taken Γ locals s λ E. placed (used_ok (length locals)) ops args λ q.
      projection Γ q E >>= λ r. done (recorded_as r.1, passed Γ q.place (pick q.local E), encode Γ r.0)

  unfoldable pub call_downcast : State → List ℕ → List ℕ → ℕ → Answer State
  call_downcast s ops args v = typed Γ locals λ _. taken Γ locals s λ E. placed (used_ok (length locals)) ops args λ q.
      downcasting Γ q v E >>= λ D. done (encode Γ D)

  unfoldable pub statement_ok : Verb → Spot → Bool
  statement_ok Fold q = fold_ok (length locals) q
  statement_ok Unfold q = unfold_ok (length locals) q

  unfoldable pub statement_at : Verb → Spot → At
  statement_at w q = record { number = q.local; what = record { verb = w; place = q.place; told = dash } }

  -- carrying out one fold or unfold
  unfoldable pub call_carry : Verb → State → List ℕ → List ℕ → Answer State
  call_carry w s ops args = typed Γ locals λ _. taken Γ locals s λ E. placed (statement_ok w) ops args λ q.
      carry_at Γ (statement_at w q) E >>= fitting Γ >>= λ D. done (encode Γ D)

  -- the first state and its flag
  unfoldable pub call_join : State → State → Answer (Bool × State)
  call_join s e = typed Γ locals λ _. taken Γ locals s λ S. taken Γ locals e λ E.
      fitting Γ (joins Γ false S E) >>= λ D. done ((flagss Γ false S E).0, encode Γ D)

  -- a collecting call's record, in a lent buffer of n words: every point is the entry
  unfoldable pub written : ℕ → List At → Answer (List ℕ)
  written n as' = require (writable n (entries 0 (mark 0 as'))) 10 λ _. done (statement_record 0 (mark 0 as'))

  unfoldable pub call_collect : State → State → ℕ → Answer (List ℕ)
  call_collect s e n = typed Γ locals λ _. taken Γ locals s λ S. taken Γ locals e λ E. collects Γ S E >>= written n

  -- from all folded to a state
  unfoldable pub call_unfolds : State → ℕ → Answer (List ℕ)
  call_unfolds s n = typed Γ locals λ _. taken Γ locals s λ S. unfoldss Γ S >>= written n

  -- at return; an A not below L is 3
  unfoldable pub call_folds : ℕ → State → ℕ → Answer (List ℕ)
  call_folds args s n = typed Γ locals λ _. require (ltb args (length locals)) 3 λ _. taken Γ locals s λ S.
      written n (folds_at_ret Γ args S)
