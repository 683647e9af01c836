-- What the conditions of the laws are for: trees and places that are led elsewhere without them, by computation.
use Rattle.std.specs.Prelude.{◌≡◌, refl, List, [], ◌∷◌, ℕ}
use Rattle.model.specs.Words.{sum}
use Rattle.model.specs.Answer.{done, refused}
use Rattle.model.specs.Types.{parts, owner, first, part, shut, count, pointer, casts, fielded, kids, offset, kind}
use Rattle.model.specs.Tree.{nil, more, Forest, leaves, leaf, Tree, node}
use Rattle.model.specs.Place.{downcast, field, deref, Statement, Fold, Verb, Place, Unfold, dash}
use Rattle.model.specs.Walk.{enter, carries, opening, opened, project, changed, reached, passed, wide, step, walk, carry}
use Rattle.model.specs.Collect.{hop, lift, unfolds, collect}

-- a forest of one tree
abbrev one : Tree → Forest
one s = more s nil

-- a list of one statement
abbrev alone : Verb → Place → ℕ → List Statement
alone w p n = record { verb = w; place = p; told = n } ∷ []

-- without one pointee (Sound): 0 struct(), 1 box(0,0). The second is taken for the first, and stays open
pair : List ℕ
pair = 2 ∷ 2 ∷ 6 ∷ 3 ∷ 0 ∷ 2 ∷ 0 ∷ 0 ∷ []

abbrev twins : Tree
twins = node 1 0 (more (leaf 0) (one (node 0 0 nil)))

twins_stay : (collect pair twins (node 1 0 (more (leaf 0) (one (leaf 0)))) ≡ done (alone Fold (deref ∷ []) dash))
    × (carries pair (alone Fold (deref ∷ []) dash) twins ≡ done twins)
unfolding pair kind pointer collect unfolds lift hop carry walk step enter
twins_stay = (refl, refl)

-- without the bound on kinds (Sound): 0 struct(), 1 of kind 11 over 0. No field opens it
beyond : List ℕ
beyond = 2 ∷ 1 ∷ 6 ∷ 11 ∷ 0 ∷ 1 ∷ 0 ∷ []

beyond_shut : (collect beyond (leaf 1) (node 1 0 (one (node 0 0 nil))) ≡ done (alone Unfold (field 0 ∷ []) dash))
    × (carries beyond (alone Unfold (field 0 ∷ []) dash) (leaf 1) ≡ refused 5)
unfolding beyond kind pointer fielded collect unfolds lift hop carry walk step enter
beyond_shut = (refl, refl)

-- without `usable`: 0 and 1 variants without fields, 2 enum(0,1). What is recorded for a place that ends in downcast is refused
enum : List ℕ
enum = 3 ∷ 4 ∷ 8 ∷ 8 ∷ 7 ∷ 1 ∷ 1 ∷ 2 ∷ 0 ∷ 1 ∷ 0 ∷ 1 ∷ []

ending_refused : (project enum (downcast 1 ∷ []) (leaf 2) ≡ done (node 2 1 nil, alone Unfold [] 0)) × (carries enum (alone Unfold [] 0) (leaf 2) ≡ refused 7)
unfolding enum kind count kids owner first part parts offset sum casts shut opened leaves opening enter step walk wide reached changed passed project carry
ending_refused = (refl, refl)
