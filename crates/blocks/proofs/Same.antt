-- Equal places: the test finds just them, and two used places of a function record are equal just if their items are.
use mathlib.Core.Path.{◌≡◌, refl, sym, ap, ap₂, ◌∙◌}
use mathlib.Core.Bool.{Bool, true, false, ◌&&◌, true≢false}
use mathlib.Core.List.{List, [], ◌∷◌}
use mathlib.Core.Option.{some}
use Prim.Native.Nat.{ℕ, ◌<◌}
use borrow.Author.Tests.{eqb-true, eq-eqb}
use lib.Dec.{eqb}
use lib.Pointwise.{pointwise}
use Rattle.std.specs.Cmp.Lexicographic.{same_text, other_text}
use Rattle.model.specs.Place.{Elem, deref, field, downcast, index, Place, Spot, same_elem, same_place, same_spot}
use Rattle.model.specs.Record.{elem_entry}
use Rattle.model.specs.Function.{nitems}
use Rattle.model.specs.Block.{root_before, elem_of, spot_before, uses_place}
use Rattle.model.specs.Calls.{spot_of}
use Rattle.base.specs.Tests.{split, and_left, and_right}
use Rattle.records.specs.Here.{firsts, seconds}
use Rattle.records.specs.Recorded.{elem_back}
use Rattle.records.specs.Spots.{spot_entries, spot_items}
use Rattle.mir.specs.Sizes.{Formed}
use Rattle.mir.specs.Parts.{ops_part, args_part}
use Rattle.blocks.proofs.Spots.{used_read}

-- THE TEST

same_entries : (d e : Elem) → same_elem d e ≡ eqb (elem_entry d).0 (elem_entry e).0 && eqb (elem_entry d).1 (elem_entry e).1
unfolding same_elem elem_entry
same_entries deref deref = refl
same_entries deref (field j) = refl
same_entries deref (downcast w) = refl
same_entries deref index = refl
same_entries (field i) deref = refl
same_entries (field i) (field j) = refl
same_entries (field i) (downcast w) = refl
same_entries (field i) index = refl
same_entries (downcast v) deref = refl
same_entries (downcast v) (field j) = refl
same_entries (downcast v) (downcast w) = refl
same_entries (downcast v) index = refl
same_entries index deref = refl
same_entries index (field j) = refl
same_entries index (downcast w) = refl
same_entries index index = refl

same_elem_true : (d e : Elem) → same_elem d e ≡ true → d ≡ e
same_elem_true d e h =
    let (o, a) = elem_entry d in
    let (p, b) = elem_entry e in
    let k = sym (same_entries d e) ∙ h in
    sym (elem_back d) ∙ ap₂ elem_of (eqb-true o p (and_left (eqb o p) (eqb a b) k)) (eqb-true a b (and_right (eqb o p) (eqb a b) k)) ∙ elem_back e

same_elem_refl : (e : Elem) → same_elem e e ≡ true
same_elem_refl e = same_entries e e ∙ cc (eq-eqb (elem_entry e).0 (elem_entry e).0 refl, eq-eqb (elem_entry e).1 (elem_entry e).1 refl)

same_place_true : (p q : Place) → same_place p q ≡ true → p ≡ q
unfolding same_place
same_place_true [] [] h = refl
same_place_true [] (d ∷ q) h = absurd (true≢false (sym h))
same_place_true (e ∷ p) [] h = absurd (true≢false (sym h))
same_place_true (e ∷ p) (d ∷ q) h =
    cc (same_elem_true e d (and_left (same_elem e d) (same_place p q) h), same_place_true p q (and_right (same_elem e d) (same_place p q) h))

same_place_refl : (p : Place) → same_place p p ≡ true
unfolding same_place
same_place_refl [] = refl
same_place_refl (e ∷ p) = cc (same_elem_refl e, same_place_refl p)

-- places that pass are equal
pub same_spot_true : (a b : Spot) → same_spot a b ≡ true → a ≡ b
unfolding same_spot
same_spot_true a b h =
    let p = eqb-true a.local b.local (and_left (eqb a.local b.local) (same_place a.place b.place) h) in
    let q = same_place_true a.place b.place (and_right (eqb a.local b.local) (same_place a.place b.place) h) in
    λ i. record { local = p i; place = q i }

-- and equal ones pass
pub same_spot_eq : (a b : Spot) → a ≡ b → same_spot a b ≡ true
unfolding same_spot
same_spot_eq a b e = cc (eq-eqb a.local b.local (cc), same_place_refl a.place)

some_same : {a b : Spot} → some a ≡ some b → a ≡ b
some_same e = cc

no_pass : (t : Bool) → (t ≡ true → ⊥) → t ≡ false
no_pass t h = split t (λ e. absurd (h e)) (λ e. e)

-- IN A RECORD

module _ {fn : List ℕ} (F : Formed fn) {i j : ℕ} (l : i < nitems fn) (u : uses_place fn i ≡ true) (m : j < nitems fn) (v : uses_place fn j ≡ true) where
  abbrev r : ℕ
  r = root_before fn i

  abbrev s : ℕ
  s = root_before fn j

  -- equal used places are the same items
  spots_items : spot_before fn i ≡ spot_before fn j → (ops_part fn r i ≡ ops_part fn s j) × (args_part fn r i ≡ args_part fn s j)
  spots_items e =
      let I = spot_items (ops_part fn r i) (args_part fn r i) (spot_before fn i) (used_read F l u) in
      let J = spot_items (ops_part fn s j) (args_part fn s j) (spot_before fn j) (used_read F m v) in (
        I.ops_are ∙ ap (λ (q : Spot). firsts (spot_entries q)) e ∙ sym J.ops_are,
        I.args_are ∙ ap (λ (q : Spot). seconds (spot_entries q)) e ∙ sym J.args_are,
      )

  -- and the same items are equal places
  items_spots : ops_part fn r i ≡ ops_part fn s j → args_part fn r i ≡ args_part fn s j → spot_before fn i ≡ spot_before fn j
  items_spots o a = some_same (sym (used_read F l u) ∙ ap₂ spot_of o a ∙ used_read F m v)

  -- so a test of the items' codes, and one of their args, is the test of the places
  pub ops_told : false ≡ pointwise eqb (ops_part fn r i) (ops_part fn s j) → false ≡ same_spot (spot_before fn i) (spot_before fn j)
  ops_told d = sym (no_pass _ (λ t. other_text _ _ d (spots_items (same_spot_true _ _ t)).0))

  pub args_told : true ≡ pointwise eqb (ops_part fn r i) (ops_part fn s j) → (b : Bool) → b ≡ pointwise eqb (args_part fn r i) (args_part fn s j)
      → b ≡ same_spot (spot_before fn i) (spot_before fn j)
  args_told o b e = split b
      (λ t. t ∙ sym (same_spot_eq _ _ (items_spots (same_text _ _ o) (same_text _ _ (sym t ∙ e)))))
      (λ t. t ∙ sym (no_pass _ (λ z. other_text _ _ (sym t ∙ e) (spots_items (same_spot_true _ _ z)).1)))
