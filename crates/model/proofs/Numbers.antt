-- Each number of each call's list of refusals (Promised) is met: calls that are refused, one for each, give the list. That no call gives
-- another number is a theorem (calls, Numbers; demand, Refused).
use mathlib.Core.Path.{◌≡◌, refl}
use mathlib.Core.List.{List, [], ◌∷◌, ◌++◌, map}
use Prim.Native.Nat.{ℕ}
use lib.ListN.{replicate}
use Rattle.model.specs.Answer.{Answer, refused, done}
use Rattle.model.specs.State.{State}
use Rattle.model.specs.Place.{Fold, Unfold}
use Rattle.model.specs.Calls.{call_projection, call_downcast, call_carry, call_join, call_collect, call_unfolds, call_folds}
use Rattle.model.specs.Whole.{whole}
use Rattle.model.specs.Promised.{whole_numbers, use_numbers, unfold_numbers, join_numbers, collect_numbers, unfolds_numbers, folds_numbers}
use Rattle.model.proofs.Build.{Item, opaque, struct, enum, variant, types_of, root, deref, field, downcast, used, read, note, switch, arm, target, return, stop, function_of, state_of}
use Rattle.model.proofs.Computed.{computed}

-- the number of a refusal
abbrev number : {A : Type 0} → Answer A → ℕ
number (refused n) = n
number (done a) = 0

-- 0 opaque, 1 struct of 300 opaque fields, 2 variant value 0 of as many, 3 variant value 1 with none, 4 enum(2,3)
abbrev types : List ℕ
types = types_of (opaque ∷ struct (replicate 300 0) ∷ variant 0 (replicate 300 0) ∷ variant 1 [] ∷ enum (2 ∷ 3 ∷ []) ∷ [])

-- a struct that holds itself
abbrev bad : List ℕ
bad = types_of (struct (0 ∷ []) ∷ [])

-- _0 and _1 structs, _2 an enum
abbrev locals : List ℕ
locals = 1 ∷ 1 ∷ 4 ∷ []

-- all folded; _0 open, and _1 (with both there would be 603 nodes); _2 open at variant 0, and at 1
abbrev folded : State
folded = state_of 3 [] []

abbrev first : State
first = state_of 303 (2 ∷ []) []

abbrev second : State
second = state_of 303 (0 ∷ 2 ∷ []) []

abbrev third : State
third = state_of 303 (0 ∷ 0 ∷ 2 ∷ []) []

abbrev bare : State
bare = state_of 3 (0 ∷ 0 ∷ 2 ∷ []) (0 ∷ 0 ∷ 1 ∷ [])

-- _1.0; then a local that there is not, _1.*, _2.as0.0, and _1.0 where _0 is open
projection_each : map number
    (call_projection bad locals folded (0 ∷ 2 ∷ []) (1 ∷ 0 ∷ [])
    ∷ call_projection types (9 ∷ []) folded (0 ∷ 2 ∷ []) (1 ∷ 0 ∷ [])
    ∷ call_projection types locals folded (0 ∷ []) (3 ∷ [])
    ∷ call_projection types locals folded (0 ∷ 1 ∷ []) (1 ∷ 0 ∷ [])
    ∷ call_projection types locals bare (0 ∷ 3 ∷ 2 ∷ []) (2 ∷ 0 ∷ 0 ∷ [])
    ∷ call_projection types locals first (0 ∷ 2 ∷ []) (1 ∷ 0 ∷ []) ∷ [])
    ≡ use_numbers
unfolding computed
projection_each = refl

-- _2 to variant 0
downcast_each : map number
    (call_downcast bad locals folded (0 ∷ []) (2 ∷ []) 0
    ∷ call_downcast types (9 ∷ []) folded (0 ∷ []) (2 ∷ []) 0
    ∷ call_downcast types locals folded (0 ∷ []) (3 ∷ []) 0
    ∷ call_downcast types locals folded (0 ∷ []) (2 ∷ []) 2
    ∷ call_downcast types locals bare (0 ∷ []) (2 ∷ []) 0
    ∷ call_downcast types locals first (0 ∷ []) (2 ∷ []) 0 ∷ [])
    ≡ use_numbers
unfolding computed
downcast_each = refl

-- fold _1.0 opens _1 on its way
fold_each : map number
    (call_carry bad locals Fold folded (0 ∷ []) (1 ∷ [])
    ∷ call_carry types (9 ∷ []) Fold folded (0 ∷ []) (1 ∷ [])
    ∷ call_carry types locals Fold folded (0 ∷ []) (3 ∷ [])
    ∷ call_carry types locals Fold folded (0 ∷ 1 ∷ []) (1 ∷ 0 ∷ [])
    ∷ call_carry types locals Fold bare (0 ∷ 3 ∷ 2 ∷ []) (2 ∷ 0 ∷ 0 ∷ [])
    ∷ call_carry types locals Fold first (0 ∷ 2 ∷ []) (1 ∷ 0 ∷ []) ∷ [])
    ≡ use_numbers
unfolding computed
fold_each = refl

-- unfold _2 can't say which variant
unfold_each : map number
    (call_carry bad locals Unfold folded (0 ∷ []) (1 ∷ [])
    ∷ call_carry types (9 ∷ []) Unfold folded (0 ∷ []) (1 ∷ [])
    ∷ call_carry types locals Unfold folded (0 ∷ []) (3 ∷ [])
    ∷ call_carry types locals Unfold folded (0 ∷ 1 ∷ []) (1 ∷ 0 ∷ [])
    ∷ call_carry types locals Unfold bare (0 ∷ 3 ∷ []) (2 ∷ 0 ∷ [])
    ∷ call_carry types locals Unfold folded (0 ∷ []) (2 ∷ [])
    ∷ call_carry types locals Unfold first (0 ∷ []) (1 ∷ []) ∷ [])
    ≡ unfold_numbers
unfolding computed
unfold_each = refl

join_each : map number
    (call_join bad locals folded folded
    ∷ call_join types (9 ∷ []) folded folded
    ∷ call_join types locals first second ∷ [])
    ≡ join_numbers
unfolding computed
join_each = refl

-- from one variant to the other; from folded to one whose fields are all folded; with no word lent
collect_each : map number
    (call_collect bad locals folded folded 64
    ∷ call_collect types (9 ∷ []) folded folded 64
    ∷ call_collect types locals bare third 64
    ∷ call_collect types locals folded bare 64
    ∷ call_collect types locals folded first 0 ∷ [])
    ≡ collect_numbers
unfolding computed
collect_each = refl

unfolds_each : map number
    (call_unfolds bad locals folded 64
    ∷ call_unfolds types (9 ∷ []) folded 64
    ∷ call_unfolds types locals bare 64
    ∷ call_unfolds types locals first 0 ∷ [])
    ≡ unfolds_numbers
unfolding computed
unfolds_each = refl

folds_each : map number
    (call_folds bad locals 0 folded 64
    ∷ call_folds types (9 ∷ []) 0 folded 64
    ∷ call_folds types locals 0 folded 0 ∷ [])
    ≡ folds_numbers
unfolding computed
folds_each = refl

-- WHOLE FUNCTIONS, over these locals, with room for one join point and some statements

abbrev answer : List ℕ → List (List Item) → Answer (ℕ × ℕ)
answer Γ blocks = (whole Γ (function_of (0 ∷ 1 ∷ 1 ∷ 4 ∷ 0 ∷ []) blocks) 512 512 64).answer

-- a match on _3, by its discriminant in _4, with these arms; then the blocks 1 and 2
abbrev match : List Item → List Item → List (List Item)
match arms items = (root 3 ∷ read ∷ root 4 ∷ note ∷ root 4 ∷ switch ∷ (arms ++ (target 2 ∷ []))) ∷ items ∷ (stop ∷ []) ∷ []

whole_each : map number
    (answer bad ((return ∷ []) ∷ [])
    ∷ answer types ((used ∷ []) ∷ [])
    ∷ answer types ((root 9 ∷ used ∷ return ∷ []) ∷ [])
    ∷ answer types ((root 1 ∷ deref ∷ used ∷ return ∷ []) ∷ [])
    ∷ answer types (match (arm 1 ∷ target 1 ∷ []) (root 3 ∷ downcast 0 ∷ field 0 ∷ used ∷ return ∷ []))
    ∷ answer types (match (arm 7 ∷ target 1 ∷ []) (return ∷ []))
    ∷ answer types ((root 1 ∷ field 0 ∷ used ∷ root 2 ∷ field 0 ∷ used ∷ return ∷ []) ∷ [])
    ∷ (whole types (function_of (0 ∷ []) ((target 0 ∷ []) ∷ [])) 511 512 64).answer ∷ [])
    ≡ whole_numbers
unfolding computed
whole_each = refl
