-- A match, whole: each target unfolds its variant unrecorded, the otherwise target too, since one is left. Where the two ways
-- meet the enum is folded, on both edges.
use mathlib.Core.Path.{◌≡◌, refl}
use mathlib.Core.List.{List, [], ◌∷◌}
use Prim.Native.Nat.{ℕ}
use Rattle.model.specs.Ghosts.{answer_text}
use Rattle.model.specs.Block.{entry_point}
use Rattle.model.specs.Whole.{found}
use Rattle.model.proofs.Build.{bytes, opaque, enum, variant, types_of, root, field, downcast, used, read, note, switch, arm, target, return, function_of}
use Rattle.model.proofs.Computed.{computed}

-- 0 opaque, 1 variant value 5 (0), 2 variant value 7 (0), 3 enum(1,2)
abbrev pub types : List ℕ
types = types_of (opaque ∷ variant 5 (0 ∷ []) ∷ variant 7 (0 ∷ []) ∷ enum (1 ∷ 2 ∷ []) ∷ [])

-- _1 is the enum, _2 its discriminant
abbrev pub function : List ℕ
function = function_of (0 ∷ 3 ∷ 0 ∷ []) (
    (root 1 ∷ read ∷ root 2 ∷ note ∷ root 2 ∷ switch ∷ arm 7 ∷ target 1 ∷ target 2 ∷ [])
    ∷ (root 1 ∷ downcast 1 ∷ field 0 ∷ used ∷ target 3 ∷ [])
    ∷ (root 1 ∷ downcast 0 ∷ field 0 ∷ used ∷ target 3 ∷ [])
    ∷ (root 1 ∷ downcast 0 ∷ field 0 ∷ used ∷ return ∷ [])
    ∷ [])

matched : answer_text (entry_point function) (found types function 512 512 64) ≡ bytes "at 13 fold _1 -\nat 18 fold _1 -\nat 22 unfold _1.as0 0\n"
unfolding computed
matched = refl
