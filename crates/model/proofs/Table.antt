-- W1 to W14 of document 01, its table line by line, as one claim.
use mathlib.Core.Path.{◌≡◌, refl}
use mathlib.Core.Bool.{true}
use mathlib.Core.List.{List, [], ◌∷◌, map}
use Prim.Native.Nat.{ℕ}
use Rattle.model.specs.Types.{types_ok}
use Rattle.model.specs.Place.{deref, field, downcast}
use Rattle.model.proofs.Rows.{F, S, T, *, V0, V1, Input, join_of, use_in, from_to, at_return, Stated, gives, refuses, fold_1, unfold_1, yes, no, Row, row, computed_row, stated_row, computed_clash, stated_clash}
use Rattle.model.proofs.Computed.{computed}

-- 0 opaque, 1 struct(0,0), 2 mutable reference to 1, 3 variant value 0 no field, 4 variant value 1 (0), 5 enum(3,4), 6 plain
-- pointer to 1, 7 tuple(1), 8 array, 9 mutable reference to 7
abbrev Γ : List ℕ
Γ =
    10 ∷ 11
    ∷ 0 ∷ 6 ∷ 2 ∷ 8 ∷ 8 ∷ 7 ∷ 1 ∷ 5 ∷ 4 ∷ 2
    ∷ 0 ∷ 2 ∷ 1 ∷ 1 ∷ 2 ∷ 2 ∷ 1 ∷ 1 ∷ 0 ∷ 1
    ∷ 0 ∷ 0 ∷ 1 ∷ 0 ∷ 1 ∷ 0 ∷ 3 ∷ 4 ∷ 1 ∷ 1 ∷ 7 ∷ []

-- the row's number is a label
abbrev W : ℕ → ℕ → Input → Stated → Row
W n = row

-- W12 has two inputs
abbrev table : List Row
table =
    W 1 0 (join_of F F) (gives F (no, no))
    ∷ W 2 1 (join_of (S F F) F) (gives (S F F) (no, yes))
    ∷ W 3 6 (join_of (* F) F) (gives F (yes, no))
    ∷ W 4 2 (join_of (* (S F F)) (* F)) (gives (* F) (yes, no))
    ∷ W 5 9 (join_of (* (T F)) (* F)) (gives (* (T F)) (no, yes))
    ∷ W 6 9 (join_of (* (T (S F F))) (* F)) (gives (* (T F)) (yes, yes))
    ∷ W 7 5 (join_of V0 (V1 F)) (gives F (yes, yes))
    ∷ W 8 6 (join_of (* (S F F)) (* F)) (gives (* (S F F)) (no, yes))
    ∷ W 9 2 (use_in F (deref ∷ field 0 ∷ [])) (unfold_1 (deref ∷ []))
    ∷ W 10 1 (use_in (S F F) []) (fold_1 [])
    ∷ W 11 5 (use_in F (downcast 1 ∷ field 0 ∷ [])) (unfold_1 (downcast 1 ∷ []))
    ∷ W 12 5 (from_to F (V1 F)) (refuses 7)
    ∷ W 12 5 (from_to V0 (V1 F)) (refuses 6)
    ∷ W 13 7 (from_to F (T (S F F))) (unfold_1 (field 0 ∷ []))
    ∷ W 14 2 (at_return (* F)) (fold_1 (deref ∷ []))
    ∷ []

-- the type record passes
types_pass : types_ok Γ ≡ true
unfolding computed
types_pass = refl

-- in every row the definitions give what it says
marked : map (computed_row Γ) table ≡ map (stated_row Γ) table
unfolding computed computed_row stated_row
marked = refl

-- and collecting is refused with the first clash of the two trees
marked_clashes : map (computed_clash Γ) table ≡ map stated_clash table
unfolding computed computed_clash stated_clash
marked_clashes = refl
