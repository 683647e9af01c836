-- The items of an operand: a place is a root, and elements. Operands in a row.
use Rattle.std.specs.Prelude.{◌≡◌, refl, Bool, true, ◌&&◌, List, [], ◌∷◌, ◌++◌, map, eqb}
use Rattle.model.specs.Record.{Entry}
use Rattle.model.specs.Calls.{elems_of, spot_of}
use Rattle.model.specs.Assign.{Operand, operand_ok, operands_ok}
use Rattle.base.specs.Tests.{split, split_option}
use Rattle.records.specs.Spots.{item_ok}
use Rattle.mir.specs.Parts.{is_some}

-- all are elements
unfoldable pub elements_ok : Operand → Bool
elements_ok [] = true
elements_ok (e ∷ es) = item_ok e.0 e.1 && elements_ok es

-- elements, as model reads them
elements_of : (es : Operand) → elements_ok es ≡ is_some (elems_of (map (λ e. e.0) es) (map (λ e. e.1) es))
unfolding elements_ok elems_of
elements_of [] = refl
elements_of (e ∷ es) = split (item_ok e.0 e.1)
    (λ t. split_option (elems_of (map (λ x. x.0) es) (map (λ x. x.1) es)) (λ d. cc (elements_of es)) (λ p d. cc (elements_of es)))
    (λ t. cc)

-- a place: a root, and elements
pub operand_places : (e : Entry) (es : Operand) → operand_ok (e ∷ es) ≡ eqb e.0 0 && elements_ok es
unfolding operand_ok spot_of
operand_places e es = split (eqb e.0 0)
    (λ t. split_option (elems_of (map (λ x. x.0) es) (map (λ x. x.1) es)) (λ d. cc (elements_of es)) (λ p d. cc (elements_of es)))
    (λ t. cc)

-- operands, then others
pub operands_append : (ps qs : List Operand) → operands_ok (ps ++ qs) ≡ operands_ok ps && operands_ok qs
unfolding operands_ok
operands_append [] qs = refl
operands_append (p ∷ ps) qs = split (operand_ok p) (λ d. rw d (operands_append ps qs)) (λ d. rw d refl)
