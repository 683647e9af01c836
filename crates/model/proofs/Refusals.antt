-- Each of document 01's ten refusals, met: 3 and 7 by calls on states, the others by whole functions. Then which comes first.
use mathlib.Core.Path.{◌≡◌, refl}
use mathlib.Core.List.{List, [], ◌∷◌, ◌++◌}
use Prim.Native.Nat.{ℕ}
use lib.ListN.{replicate}
use Rattle.model.specs.Answer.{Answer, refused, done}
use Rattle.model.specs.Whole.{whole}
use Rattle.model.specs.Calls.{call_join, call_collect}
use Rattle.model.proofs.Build.{Item, opaque, struct, enum, variant, types_of, root, deref, field, downcast, used, read, note, switch, arm, target, return, stop, function_of, state_of}
use Rattle.model.proofs.Computed.{computed}
use Rattle.model.proofs.Limits.{wide, each}

-- 0 opaque, 1 struct(0,0), 2 variant value 0 (0), 3 variant value 1 (0), 4 enum(2,3)
abbrev types : List ℕ
types = types_of (opaque ∷ struct (0 ∷ 0 ∷ []) ∷ variant 0 (0 ∷ []) ∷ variant 1 (0 ∷ []) ∷ enum (2 ∷ 3 ∷ []) ∷ [])

-- one block over a local of type t
abbrev block : ℕ → List Item → List ℕ
block t items = function_of (0 ∷ t ∷ []) (items ∷ [])

-- with room for one join point and for the statements
abbrev answer : List ℕ → List ℕ → Answer (ℕ × ℕ)
answer Γ fn = (whole Γ fn 512 512 64).answer

-- a type that holds itself
bad_types : answer (types_of (struct (0 ∷ []) ∷ [])) (block 0 (return ∷ [])) ≡ refused 1
unfolding computed
bad_types = refl

-- a block with no ender
bad_function : answer types (block 1 (root 1 ∷ used ∷ [])) ≡ refused 2
unfolding computed
bad_function = refl

-- an unfolded opaque local
bad_state : call_join types (0 ∷ 0 ∷ []) (state_of 2 [] []) (state_of 2 (0 ∷ 5 ∷ []) []) ≡ refused 3
unfolding computed
bad_state = refl

-- a local that isn't there
bad_place : answer types (block 1 (root 2 ∷ used ∷ return ∷ [])) ≡ refused 4
unfolding computed
bad_place = refl

-- a struct has no pointee
wrong_step : answer types (block 1 (root 1 ∷ deref ∷ used ∷ return ∷ [])) ≡ refused 5
unfolding computed
wrong_step = refl

-- a match on _1, by its discriminant in _2, with these arms; then the blocks 1 and 2
abbrev match : List Item → List Item → List ℕ
match arms items = function_of (0 ∷ 4 ∷ 0 ∷ []) ((root 1 ∷ read ∷ root 2 ∷ note ∷ root 2 ∷ switch ∷ (arms ++ (target 2 ∷ []))) ∷ items ∷ (stop ∷ []) ∷ [])

-- the arm of value 1 has unfolded variant 1, and variant 0 is used
other_variant : answer types (match (arm 1 ∷ target 1 ∷ []) (root 1 ∷ downcast 0 ∷ field 0 ∷ used ∷ return ∷ [])) ≡ refused 6
unfolding computed
other_variant = refl

-- from folded to variant 1 with its field folded
bare_variant : call_collect types (4 ∷ []) (state_of 1 [] []) (state_of 2 (2 ∷ []) (1 ∷ [])) 64 ≡ refused 7
unfolding computed
bare_variant = refl

-- a value that an earlier arm has taken
no_such_value : answer types (match (arm 1 ∷ target 1 ∷ arm 1 ∷ target 2 ∷ []) (return ∷ [])) ≡ refused 8
unfolding computed
no_such_value = refl

-- four structs of 127 fields, unfolded, and the return place are 513 nodes. What was lent is zeroed, as after every refusal
state_full : whole (wide 127) (function_of (0 ∷ replicate 4 1) (each 4 ∷ [])) 512 513 64
    ≡ record { answer = refused 9; forms = replicate 512 0; whats = replicate 513 0; out = replicate 64 0 }
unfolding computed
state_full = refl

-- one join point, since the start block jumps to itself, and one array short of a share
short_store : (whole types (block 1 (target 0 ∷ [])) 511 512 64).answer ≡ refused 10
unfolding computed
short_store = refl

-- one statement has three entries: point, verb, root. Eight words hold it, seven don't
short_buffer : (whole types (block 1 (root 1 ∷ field 0 ∷ used ∷ return ∷ [])) 0 0 7).answer ≡ refused 10
unfolding computed
short_buffer = refl

long_buffer : (whole types (block 1 (root 1 ∷ field 0 ∷ used ∷ return ∷ [])) 0 0 8).answer ≡ done (1, 3)
unfolding computed
long_buffer = refl

-- WHICH COMES FIRST

-- 1 before 2
types_first : answer (types_of (struct (0 ∷ []) ∷ [])) (block 1 []) ≡ refused 1
unfolding computed
types_first = refl

-- 4 before 10 for the store, though the place is never reached
place_first : (whole types (function_of (0 ∷ 1 ∷ []) ((target 0 ∷ []) ∷ (root 2 ∷ used ∷ return ∷ []) ∷ [])) 0 0 64).answer ≡ refused 4
unfolding computed
place_first = refl

-- 10 for the store before 5
store_first : (whole types (block 1 (root 1 ∷ deref ∷ used ∷ target 0 ∷ [])) 0 0 64).answer ≡ refused 10
unfolding computed
store_first = refl

-- 5 before 10 for the buffer
buffer_last : (whole types (block 1 (root 1 ∷ deref ∷ used ∷ return ∷ [])) 0 0 0).answer ≡ refused 5
unfolding computed
buffer_last = refl

-- an earlier arm's 6 before a later arm's 8: _1.as0.0 is used, so that variant 0 is unfolded
arms_in_order : answer types (function_of (0 ∷ 4 ∷ 0 ∷ []) (
    (root 1 ∷ read ∷ root 2 ∷ note ∷ root 1 ∷ downcast 0 ∷ field 0 ∷ used ∷ root 2 ∷ switch ∷ arm 1 ∷ target 1 ∷ arm 5 ∷ target 2 ∷ target 3 ∷ [])
    ∷ (stop ∷ []) ∷ (stop ∷ []) ∷ (stop ∷ []) ∷ []
    )) ≡ refused 6
unfolding computed
arms_in_order = refl
