-- Rows that document 01's table leaves out, in its form, as one claim; and the measure of a struct with no field.
use mathlib.Core.Path.{◌≡◌, refl}
use mathlib.Core.Bool.{true, false}
use mathlib.Core.List.{List, [], ◌∷◌, map}
use Prim.Native.Nat.{ℕ}
use lib.Dec.{ltb}
use Rattle.model.specs.Types.{types_ok}
use Rattle.model.specs.Tree.{leaf, node, nil, more, joins}
use Rattle.model.specs.Collect.{returned}
use Rattle.model.specs.Measure.{measure}
use Rattle.model.specs.Place.{deref, field, downcast, index}
use Rattle.model.proofs.Build.{opaque, plain, mutable, box, array, struct, enum, variant, closure, types_of}
use Rattle.model.proofs.Rows.{F, S, T, *, V0, Shape, open_at, none, also, join_of, use_in, from_to, at_return, gives, records, refuses, fold_1, unfold_1, yes, no, Row, row, computed_row, stated_row, computed_clash, stated_clash, tree}
use Rattle.model.proofs.Computed.{computed}

-- 0 opaque, 1 struct(0,0), 2 mutable reference to 1, 3 variant value 0 no field, 4 variant value 1 (1,2), 5 enum(3,4),
-- 6 struct(), 7 plain pointer to 2, 8 closure(0), 9 mutable reference to 8, 10 array, 11 box of 1
abbrev types : List ℕ
types = types_of (opaque ∷ struct (0 ∷ 0 ∷ []) ∷ mutable 1 ∷ variant 0 [] ∷ variant 1 (1 ∷ 2 ∷ []) ∷ enum (3 ∷ 4 ∷ [])
    ∷ struct [] ∷ plain 2 ∷ closure (0 ∷ []) ∷ mutable 8 ∷ array ∷ box 1 ∷ [])

abbrev V1 : Shape → Shape → Shape
V1 a b = open_at 1 (also a (also b none))

abbrev rows : List Row
rows =
    -- an enum that meets a folded one folds, on either side, and so does a box
    row 5 (join_of (V1 F F) F) (gives F (yes, no))
    ∷ row 5 (join_of F (V1 F F)) (gives F (no, yes))
    ∷ row 11 (join_of (* F) F) (gives F (yes, no))
    -- opening a struct with no fields is a change
    ∷ row 6 (join_of F V0) (gives V0 (yes, no))
    -- a closure stays unfolded inside a mutable reference
    ∷ row 9 (join_of (* (T F)) (* F)) (gives (* (T F)) (no, yes))
    -- the same variant: its fields are joined
    ∷ row 5 (join_of (V1 (S F F) F) (V1 F F)) (gives (V1 (S F F) F) (no, yes))
    -- a used place that is folded already; one that the walk leaves at an index
    ∷ row 2 (use_in (* (S F F)) (deref ∷ field 1 ∷ [])) (records [])
    ∷ row 10 (use_in F (index ∷ deref ∷ [])) (records [])
    -- steps that don't fit, the lower number first: a variant out of range, on an enum unfolded at another
    ∷ row 1 (use_in F (field 2 ∷ [])) (refuses 5)
    ∷ row 5 (use_in V0 (downcast 2 ∷ field 0 ∷ [])) (refuses 5)
    ∷ row 5 (use_in V0 (downcast 1 ∷ field 0 ∷ [])) (refuses 6)
    -- below an enum `collect_fold_unfolds` writes no downcast, `collect_unfolds` does
    ∷ row 5 (from_to (V1 (S F F) F) (V1 F F)) (fold_1 (field 0 ∷ []))
    ∷ row 5 (from_to F (V1 (S F F) F)) (unfold_1 (downcast 1 ∷ field 0 ∷ []))
    -- and at return; behind a plain pointer nothing is owed
    ∷ row 5 (at_return (V1 F (* F))) (fold_1 (downcast 1 ∷ field 1 ∷ deref ∷ []))
    ∷ row 7 (at_return (* (* F))) (records [])
    ∷ []

types_pass : types_ok types ≡ true
unfolding computed
types_pass = refl

further : map (computed_row types) rows ≡ map (stated_row types) rows
unfolding computed computed_row stated_row
further = refl

-- collecting is refused with the first clash of the two trees
further_clashes : map (computed_clash types) rows ≡ map stated_clash rows
unfolding computed computed_clash stated_clash
further_clashes = refl

-- a return folds what is behind a mutable reference, in a variant's field too, and leaves what is behind a plain pointer
return_leaves : returned types (tree types (V1 F (* (S F F))) 5) ≡ tree types (V1 F (* F)) 5
unfolding computed tree
return_leaves = refl

plain_stays : returned types (tree types (* (* F)) 7) ≡ tree types (* (* F)) 7
unfolding computed tree
plain_stays = refl

-- a struct with no field that is opened has no more nodes than before; yet the measure falls
unit_falls : ltb (measure types (joins types false (more (leaf 6) nil) (more (node 6 0 nil) nil))) (measure types (more (leaf 6) nil)) ≡ true
unfolding computed
unit_falls = refl
