-- Matches on an array's element (document 02, F-1): the targets leave the state as it is, arm values aren't looked up; the walk is
-- made at the switch, and what it opens is dropped.
use mathlib.Core.Path.{◌≡◌, refl}
use mathlib.Core.List.{List, [], ◌∷◌, ◌++◌}
use Prim.Native.Nat.{ℕ}
use Rattle.model.specs.Answer.{Answer, refused, done}
use Rattle.model.specs.Tree.{leaf, node, nil, more}
use Rattle.model.specs.Block.{entry_point}
use Rattle.model.specs.Whole.{found, whole}
use Rattle.model.specs.Ghosts.{answer_text}
use Rattle.model.specs.Replay.{replay}
use Rattle.model.proofs.Build.{Item, bytes, opaque, array, mutable, struct, enum, variant, types_of, root, deref, field, downcast, index, used, read, note, switch, arm, target, return, stop, function_of}
use Rattle.model.proofs.Computed.{computed}

-- 0 opaque, 1 array, 2 struct(1,0), 3 mutable reference to 2, 4 variant value 0 (1), 5 variant value 1 (0), 6 enum(4,5)
abbrev types : List ℕ
types = types_of (opaque ∷ array ∷ struct (1 ∷ 0 ∷ []) ∷ mutable 2 ∷ variant 0 (1 ∷ []) ∷ variant 1 (0 ∷ []) ∷ enum (4 ∷ 5 ∷ []) ∷ [])

abbrev printed : List ℕ → List ℕ
printed fn = answer_text (entry_point fn) (found types fn 1024 1024 64)

abbrev answer : List ℕ → Answer (ℕ × ℕ)
answer fn = (whole types fn 512 512 64).answer

-- _1 of type t, noted in _2, which is opaque: block 0 ends with these arms, and any other way leads to block 2
abbrev function : ℕ → List Item → List Item → List Item → List ℕ
function t items arms block_1 = function_of (0 ∷ t ∷ 0 ∷ []) ((items ++ (root 2 ∷ switch ∷ (arms ++ (target 2 ∷ [])))) ∷ block_1 ∷ (stop ∷ []) ∷ [])

-- the place is read, and noted
abbrev seen : List Item → List Item
seen place = place ++ (read ∷ root 2 ∷ note ∷ [])

-- values may repeat, and be anything
any_values : printed (function 1 (seen (root 1 ∷ index ∷ [])) (arm 7 ∷ target 1 ∷ arm 7 ∷ target 1 ∷ arm 4294967295 ∷ target 1 ∷ []) (return ∷ [])) ≡ []
unfolding computed
any_values = refl

-- a timer of a restored device: the owner stays open in the arm, and is folded at return
abbrev timer : List ℕ
timer = function 3 (seen (root 1 ∷ deref ∷ field 0 ∷ index ∷ [])) (arm 0 ∷ target 1 ∷ []) (root 1 ∷ deref ∷ field 0 ∷ index ∷ used ∷ return ∷ [])

timer_printed : printed timer ≡ bytes "at 4 unfold _1.* 0\nat 17 fold _1.* -\n"
unfolding computed
timer_printed = refl

-- its replay along the arm: no target has an unfolding of its own
timer_replayed : replay types timer (whole types timer 512 512 64).out (10 ∷ [])
    ≡ done (1, more (leaf 0) (more (node 3 0 (more (node 2 0 (more (leaf 1) (more (leaf 0) nil))) nil)) (more (leaf 0) nil)))
unfolding computed
timer_replayed = refl

-- folded between note and switch: the walk at the switch would open it, and the arm finds it folded
dropped : printed (function 2 (seen (root 1 ∷ field 0 ∷ index ∷ []) ++ (root 1 ∷ used ∷ [])) (arm 0 ∷ target 1 ∷ []) (root 1 ∷ field 0 ∷ index ∷ used ∷ return ∷ []))
    ≡ bytes "at 3 unfold _1 0\nat 7 fold _1\nat 16 unfold _1 0\n"
unfolding computed
dropped = refl

-- an array with no index; a struct that holds one; an index at a struct
no_element : answer (function 1 (seen (root 1 ∷ [])) [] (stop ∷ [])) ≡ refused 5
unfolding computed
no_element = refl

holds_array : answer (function 2 (seen (root 1 ∷ [])) [] (stop ∷ [])) ≡ refused 5
unfolding computed
holds_array = refl

index_at_struct : answer (function 2 (seen (root 1 ∷ index ∷ [])) [] (stop ∷ [])) ≡ refused 5
unfolding computed
index_at_struct = refl

-- what stands behind the index isn't looked at
behind : printed (function 1 (seen (root 1 ∷ index ∷ downcast 1 ∷ [])) (arm 9 ∷ target 1 ∷ []) (return ∷ [])) ≡ []
unfolding computed
behind = refl

-- THE WALK AT THE SWITCH

-- through an enum with no downcast, which is folded again then: 5
folded_again : answer (function 6 ((root 1 ∷ downcast 0 ∷ field 0 ∷ used ∷ []) ++ (seen (root 1 ∷ field 0 ∷ index ∷ []) ++ (root 1 ∷ used ∷ []))) [] (stop ∷ [])) ≡ refused 5
unfolding computed
folded_again = refl

-- with one, which meets another variant: 6
other_variant : answer (function 6 (seen (root 1 ∷ downcast 0 ∷ field 0 ∷ index ∷ []) ++ (root 1 ∷ used ∷ root 1 ∷ downcast 1 ∷ field 0 ∷ used ∷ [])) [] (stop ∷ [])) ≡ refused 6
unfolding computed
other_variant = refl

-- THE PLACE THAT DECIDES

-- an index in the place switched on alone changes nothing: 8 stands
abbrev noted_in_element : List Item → List ℕ
noted_in_element arms = function_of (0 ∷ 6 ∷ 1 ∷ []) (
    (root 1 ∷ read ∷ root 2 ∷ index ∷ note ∷ root 2 ∷ index ∷ switch ∷ (arms ++ (target 2 ∷ [])))
    ∷ (root 1 ∷ downcast 0 ∷ field 0 ∷ used ∷ return ∷ [])
    ∷ (stop ∷ [])
    ∷ [])

value_looked_up : answer (noted_in_element (arm 9 ∷ target 1 ∷ [])) ≡ refused 8
unfolding computed
value_looked_up = refl

-- and an arm unfolds its variant
variant_opened : answer (noted_in_element (arm 1 ∷ target 1 ∷ [])) ≡ refused 6
unfolding computed
variant_opened = refl
