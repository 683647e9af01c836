-- Where an opening began (document 02, F-4): the numbers beside the statement record, in print and in the lent array, and its length at
-- n - 1, n and n + 1.
use mathlib.Core.Path.{◌≡◌, refl}
use mathlib.Core.List.{List, [], ◌∷◌}
use Prim.Native.Nat.{ℕ}
use lib.ListN.{replicate}
use Rattle.model.specs.Answer.{refused, done}
use Rattle.model.specs.Calls.{nothing, fold, unfold_at, call_projection}
use Rattle.model.specs.Ghosts.{ghosts}
use Rattle.model.specs.Whole.{Told, whole_told}
use Rattle.model.proofs.Build.{bytes, opaque, array, struct, enum, variant, types_of, root, field, downcast, used, return, function_of, state_of}
use Rattle.model.proofs.Computed.{computed}

-- 0 opaque, 1 array, 2 struct(0,1), 3 variant value 0 (), 4 variant value 1 (2), 5 enum(3,4)
abbrev types : List ℕ
types = types_of (opaque ∷ array ∷ struct (0 ∷ 1 ∷ []) ∷ variant 0 [] ∷ variant 1 (2 ∷ []) ∷ enum (3 ∷ 4 ∷ []) ∷ [])

-- A DOWNCAST IS COUNTED, and is itself the step that opens: of _1.as1.0 on a folded _1 0 is told, of _1.as1.0.0 then 2; a fold tells 0
abbrev function : List ℕ
function = function_of (0 ∷ 5 ∷ []) ((root 1 ∷ downcast 1 ∷ field 0 ∷ used
    ∷ root 1 ∷ downcast 1 ∷ field 0 ∷ field 0 ∷ used
    ∷ root 1 ∷ downcast 1 ∷ field 0 ∷ used
    ∷ return ∷ []) ∷ [])

abbrev numbers : ℕ → Told
numbers n = whole_told types function 0 0 64 n

-- zeros behind
told : (numbers 4).told ≡ 0 ∷ 2 ∷ 0 ∷ 0 ∷ []
unfolding computed
told = refl

enough : (numbers 3).told ≡ 0 ∷ 2 ∷ 0 ∷ []
unfolding computed
enough = refl

-- too short: 10, and zeros in all that was lent
short : numbers 2 ≡ record { result = record { answer = refused 10; forms = []; whats = []; out = replicate 64 0 }; told = 0 ∷ 0 ∷ [] }
unfolding computed
short = refl

-- found last: the run's own refusal comes first (a downcast of the struct is a wrong step)
wrong : (whole_told types (function_of (0 ∷ 2 ∷ []) ((root 1 ∷ field 0 ∷ used ∷ root 1 ∷ downcast 1 ∷ field 0 ∷ used ∷ return ∷ []) ∷ [])) 0 0 64 0).result.answer ≡ refused 5
unfolding computed
wrong = refl

-- 255 of what is collected: document 01's example
worked : (whole_told (2 ∷ 2 ∷ 0 ∷ 6 ∷ 0 ∷ 2 ∷ 0 ∷ 0 ∷ [])
    (2 ∷ 1 ∷ 4 ∷ 12 ∷ 0 ∷ 1 ∷ 0 ∷ 7 ∷ 10 ∷ 11 ∷ 0 ∷ 1 ∷ 2 ∷ 3 ∷ 0 ∷ 2 ∷ 5 ∷ 8 ∷ 9 ∷ 10 ∷ 10 ∷ 0 ∷ 5 ∷ 10 ∷ 10 ∷ 11 ∷ 1 ∷ 0 ∷ 0 ∷ 0 ∷ 0 ∷ 1 ∷ 2 ∷ 1 ∷ 0 ∷ 3 ∷ 3 ∷ 0 ∷ [])
    512 512 64 4).told ≡ 0 ∷ 0 ∷ 255 ∷ 0 ∷ []
unfolding computed
worked = refl

-- AT THE ENTRY, where the start block is a join point: an unfold and a fold from uses there, then what is collected
entered : ghosts (bytes "2 2 0 6 0 2 0 0\n2 1 2 13 0 1 5 12 0 1 0 2 5 0 5 0 2 5 8 9 10 10 11 1 0 0 1 0 1 0 0 0 0 0 1 0\n")
    ≡ bytes "entry unfold _1 0\nentry fold _1\nentry unfold _1 -\n"
unfolding computed
entered = refl

-- PROJECTION PASSES IT ON, in all three answers: _1 the enum at its variant 1, its field open or folded
abbrev opened : List ℕ
opened = 0 ∷ 2 ∷ 2 ∷ []

abbrev half : List ℕ
half = 0 ∷ 2 ∷ []

abbrev at_1 : List ℕ
at_1 = 0 ∷ 1 ∷ []

unfolded : call_projection types (0 ∷ 5 ∷ []) (state_of 3 half at_1) (0 ∷ 3 ∷ 2 ∷ 2 ∷ []) (1 ∷ 1 ∷ 0 ∷ 1 ∷ []) ≡ done (unfold_at 2, 2, state_of 5 opened at_1)
unfolding computed
unfolded = refl

-- the walked length where no step changed a tree: of a fold
folds : call_projection types (0 ∷ 5 ∷ []) (state_of 5 opened at_1) (0 ∷ 3 ∷ 2 ∷ []) (1 ∷ 1 ∷ 0 ∷ []) ≡ done (fold, 2, state_of 3 half at_1)
unfolding computed
folds = refl

-- of nothing: an index cuts
cut : call_projection types (0 ∷ 5 ∷ []) (state_of 5 opened at_1) (0 ∷ 3 ∷ 2 ∷ 2 ∷ 4 ∷ 2 ∷ []) (1 ∷ 1 ∷ 0 ∷ 1 ∷ 0 ∷ 7 ∷ []) ≡ done (nothing, 3, state_of 5 opened at_1)
unfolding computed
cut = refl
