-- The limits that document 01 leaves unmarked: 512 nodes pass, 513 is 9; 63 fields pass, 64 is 4 (a fold statement's 64 pass);
-- 128 elements pass, 129 is 4.
use mathlib.Core.Path.{◌≡◌, refl}
use mathlib.Core.List.{List, [], ◌∷◌, ◌++◌, map}
use Prim.Native.Nat.{ℕ}
use lib.ListN.{replicate}
use Rattle.model.specs.Answer.{Answer, refused, done}
use Rattle.model.specs.Place.{Verb, Fold, Unfold}
use Rattle.model.specs.Whole.{whole}
use Rattle.model.specs.Calls.{call_carry}
use Rattle.model.proofs.Build.{Item, opaque, array, struct, types_of, root, field, index, used, return, function_of, state_of, numbers, joined}
use Rattle.model.proofs.Computed.{computed}

-- a function of one block
abbrev answer : List ℕ → List ℕ → List Item → Answer (ℕ × ℕ)
answer Γ locals items = (whole Γ (function_of locals (items ∷ [])) 0 0 512).answer

-- NODES

-- 0 opaque, 1 struct of n fields
abbrev pub wide : ℕ → List ℕ
wide n = types_of (opaque ∷ struct (replicate n 0) ∷ [])

-- a field is used of each of the locals 1 to k
abbrev pub each : ℕ → List Item
each k = joined (map (λ l. root l ∷ field 0 ∷ used ∷ []) (numbers 1 k)) ++ (return ∷ [])

-- k structs of n fields, unfolded, and the return place: 1 + k + k * n nodes
abbrev spread : ℕ → ℕ → Answer (ℕ × ℕ)
spread k n = answer (wide n) (0 ∷ replicate k 1) (each k)

nodes_512 : spread 7 72 ≡ done (7, 21)
unfolding computed
nodes_512 = refl

nodes_513 : spread 8 63 ≡ refused 9
unfolding computed
nodes_513 = refl

-- FIELDS

-- 0 opaque, 1 struct(0), 2 struct(1), and so on to n
abbrev deep : ℕ → List ℕ
deep n = types_of (opaque ∷ map (λ t. struct (t ∷ [])) (numbers 0 n))

-- the first field's first field's .., n of them, of a local of type n
abbrev along : ℕ → Answer (ℕ × ℕ)
along n = answer (deep n) (0 ∷ n ∷ []) ((root 1 ∷ replicate n (field 0)) ++ (used ∷ return ∷ []))

fields_63 : along 63 ≡ done (1, 65)
unfolding computed
fields_63 = refl

fields_64 : along 64 ≡ refused 4
unfolding computed
fields_64 = refl

abbrev number : {A : Type 0} → Answer A → ℕ
number (refused r) = r
number (done a) = 0

-- 0, or the refusal, of a statement on n fields that is carried out on a folded local
abbrev carried : Verb → ℕ → ℕ
carried w n = number (call_carry (deep 65) (65 ∷ []) w (state_of 1 [] []) (0 ∷ replicate n 2) (0 ∷ replicate n 0))

folds : carried Fold 64 ∷ carried Fold 65 ∷ [] ≡ 0 ∷ 4 ∷ []
unfolding computed
folds = refl

unfolds : carried Unfold 63 ∷ carried Unfold 64 ∷ [] ≡ 0 ∷ 4 ∷ []
unfolding computed
unfolds = refl

-- ELEMENTS

-- in an array, n times
abbrev indexed : ℕ → Answer (ℕ × ℕ)
indexed n = answer (types_of (opaque ∷ array ∷ [])) (0 ∷ 1 ∷ []) ((root 1 ∷ replicate n index) ++ (used ∷ return ∷ []))

elements_128 : indexed 128 ≡ done (0, 0)
unfolding computed
elements_128 = refl

elements_129 : indexed 129 ≡ refused 4
unfolding computed
elements_129 = refl
