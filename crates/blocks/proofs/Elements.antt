-- A place as items: the root, then an item for each element; and what the codes of the elements say of the place.
use mathlib.Core.Path.{◌≡◌, refl, sym, ap, ◌∙◌}
use mathlib.Core.Bool.{Bool, false, cond, not, ◌||◌}
use mathlib.Core.List.{List, [], ◌∷◌}
use mathlib.Core.Option.{some}
use Prim.Native.Nat.{ℕ, suc, ◌-◌}
use lib.Dec.{eqb}
use lib.ListN.{length, get_or, drop, length-map}
use Rattle.std.specs.List.{count_by, list_any, take_while}
use native.Mathlib.Omega.{arith}
use Rattle.std.proofs.lemmas.List.Sums.{take_while-cons, sum_by-cons}
use Rattle.model.specs.Place.{deref, field, downcast, index, Place, Spot, steps, usable}
use Rattle.model.specs.Record.{elem_entry}
use Rattle.model.specs.Calls.{spot_of}
use Rattle.records.specs.Here.{firsts}
use Rattle.records.specs.Spots.{place_entries, spot_items}
use Rattle.blocks.specs.Points.{steps_in}

module _ (ops args : List ℕ) (q : Spot) (is : spot_of ops args ≡ some q) where
  -- one item more than elements
  pub spot_ops : length ops ≡ suc (length q.place)
  spot_ops = ap length (spot_items ops args q is).ops_are ∙ ap suc (length-map (place_entries q.place) (λ c. c.0) ∙ length-map q.place elem_entry)

  pub spot_args : length args ≡ length ops
  spot_args = ap length (spot_items ops args q is).args_are ∙ ap suc (length-map (place_entries q.place) (λ c. c.1) ∙ length-map q.place elem_entry) ∙ sym spot_ops

  -- the root comes first, and names the local
  pub spot_first : get_or ops 0 0 ≡ 0
  spot_first = ap (λ (l : List ℕ). get_or l 0 0) (spot_items ops args q is).ops_are

  pub spot_root : get_or args 0 0 ≡ q.local
  spot_root = ap (λ (l : List ℕ). get_or l 0 0) (spot_items ops args q is).args_are

-- the elements' codes
abbrev codes : Place → List ℕ
codes p = firsts (place_entries p)

-- STEPS

-- the codes before an index that are no downcast's
abbrev counted : List ℕ → ℕ
counted l = count_by (λ o. not (eqb o 3)) (take_while (λ o. not (eqb o 4)) l)

counted_steps : (p : Place) → counted (codes p) ≡ steps p
unfolding steps elem_entry
counted_steps [] = refl
counted_steps (deref ∷ p) = rw take_while-cons (omega (arith, sum_by-cons (λ o. cond (not (eqb o 3)) 1 0) 1 (take_while (λ o. not (eqb o 4)) (codes p)), counted_steps p))
counted_steps (field i ∷ p) = rw take_while-cons (omega (arith, sum_by-cons (λ o. cond (not (eqb o 3)) 1 0) 2 (take_while (λ o. not (eqb o 4)) (codes p)), counted_steps p))
counted_steps (downcast v ∷ p) = rw take_while-cons (omega (arith, sum_by-cons (λ o. cond (not (eqb o 3)) 1 0) 3 (take_while (λ o. not (eqb o 4)) (codes p)), counted_steps p))
counted_steps (index ∷ p) = refl

-- USABLE

-- is a place with these elements left usable? cast: the element before them is a downcast
abbrev usable_behind : Bool → Place → Bool
usable_behind cast [] = not cast
usable_behind cast (e ∷ p) = usable (e ∷ p)

whole : (p : Place) → usable p ≡ usable_behind false p
whole [] = refl
whole (e ∷ p) = refl

-- an index among the codes behind o, or no downcast's code at their end
abbrev ends_well : ℕ → List ℕ → Bool
ends_well o l = list_any (λ k. eqb k 4) l || not (eqb (get_or (o ∷ l) (length l) 0) 3)

ends_usable : (o : ℕ) (p : Place) → ends_well o (codes p) ≡ usable_behind (eqb o 3) p
unfolding elem_entry
ends_usable o [] = refl
ends_usable o (deref ∷ p) = ends_usable 1 p ∙ sym (whole p)
ends_usable o (field i ∷ p) = ends_usable 2 p ∙ sym (whole p)
ends_usable o (downcast v ∷ []) = refl
ends_usable o (downcast v ∷ (e ∷ p)) = ends_usable 3 (e ∷ p)
ends_usable o (index ∷ p) = refl

module _ (ops args : List ℕ) (q : Spot) (is : spot_of ops args ≡ some q) where
  -- behind the root
  pub spot_steps : steps_in ops ≡ steps q.place
  spot_steps = ap (λ (l : List ℕ). counted (drop 1 l)) (spot_items ops args q is).ops_are ∙ counted_steps q.place

  pub spot_usable : list_any (λ k. eqb k 4) ops || not (eqb (get_or ops (length ops - 1) 0) 3) ≡ usable q.place
  spot_usable =
      ap (λ (l : List ℕ). list_any (λ k. eqb k 4) l || not (eqb (get_or l (length l - 1) 0) 3)) (spot_items ops args q is).ops_are
      ∙ ap (λ (n : ℕ). list_any (λ k. eqb k 4) (codes q.place) || not (eqb (get_or (0 ∷ codes q.place) n 0) 3)) last
      ∙ ends_usable 0 q.place ∙ sym (whole q.place)
    where
      last : suc (length (codes q.place)) - 1 ≡ length (codes q.place)
      last = omega arith
