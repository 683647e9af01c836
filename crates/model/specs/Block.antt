-- What the items of a function record say: places, refusal 4, the points of a block, its targets, its match, join points.
-- All of it is read off the record alone.
use Rattle.std.specs.Prelude.{Bool, true, false, cond, ◌&&◌, ◌||◌, List, [], ◌∷◌, ℕ, zero, suc, ◌+◌, ◌-◌, eqb, ltb, leb}
use Rattle.std.proofs.Math.Option.{Option, none, some}
use Rattle.model.specs.Words.{all, count_below, collect_from}
use Rattle.model.specs.Place.{Elem, deref, field, downcast, index, Place, Spot, used_ok, same_spot}
use Rattle.model.specs.Function.{nlocals, nblocks, nitems, start, stop, op, arg}

-- PLACES: "a run of items inside the record: a root, then items 1 to 4"

-- the last root before item i
unfoldable pub root_before : List ℕ → ℕ → ℕ
root_before fn zero = 0
root_before fn (suc j) = elim (eqb (op fn j) 0) [ true ↦ j | false ↦ root_before fn j ]

-- an item of a place as an element
unfoldable pub elem_of : ℕ → ℕ → Elem
elem_of o a = cond (eqb o 1) deref (cond (eqb o 2) (field a) (cond (eqb o 3) (downcast a) index))

-- n items from i on
unfoldable pub elems : List ℕ → ℕ → ℕ → Place
elems fn zero i = []
elems fn (suc n) i = elem_of (op fn i) (arg fn i) ∷ elems fn n (suc i)

-- the place whose items end just before item i
unfoldable pub spot_before : List ℕ → ℕ → Spot
spot_before fn i = record { local = arg fn (root_before fn i); place = elems fn (i - suc (root_before fn i)) (suc (root_before fn i)) }

-- "Use, read, note and switch each use their place", a switch on a constant none
unfoldable pub uses_place : List ℕ → ℕ → Bool
uses_place fn i = leb 5 (op fn i) && leb (op fn i) 8 && ltb 0 i && leb (op fn (i - 1)) 4

-- REFUSAL 4, over all places
unfoldable pub place_ok : List ℕ → ℕ → Bool
place_ok fn i = elim (uses_place fn i) [ true ↦ used_ok (nlocals fn) (spot_before fn i) | false ↦ true ]

unfoldable pub places_ok : List ℕ → Bool
places_ok fn = all (place_ok fn) (nitems fn)

-- THE POINTS OF A BLOCK

-- use, read, note, switch and return, with the place used, if any
pub record Station : Type 0 where
  pub point : ℕ
  pub used : Option Spot

unfoldable pub is_station : List ℕ → ℕ → Bool
is_station fn i = (leb 5 (op fn i) && leb (op fn i) 8) || eqb (op fn i) 11

unfoldable pub station : List ℕ → ℕ → Station
station fn i = record { point = i; used = elim (uses_place fn i) [ true ↦ some (spot_before fn i) | false ↦ none ] }

unfoldable pub stations : List ℕ → ℕ → List Station
stations fn b = collect_from (is_station fn) (station fn) (stop fn b - start fn b) (start fn b)

-- the places used at the entry: "before start[0] stand only places with use, all at the entry point"
unfoldable pub entry_uses : List ℕ → List Spot
entry_uses fn = collect_from (uses_place fn) (spot_before fn) (start fn 0) 0

-- the entry's point, which is no item
abbrev pub entry_point : List ℕ → ℕ
entry_point fn = nitems fn

-- TARGETS AND JOIN POINTS

-- the target items of a block's ender in order, each with the block that it names; none past the last block
unfoldable pub targets : List ℕ → ℕ → List (ℕ × ℕ)
targets fn b = elim (ltb b (nblocks fn)) [
  | true ↦ collect_from (λ i. eqb (op fn i) 10) (λ i. (i, arg fn i)) (stop fn b - start fn b) (start fn b)
  | false ↦ []
]

unfoldable pub incoming : List ℕ → ℕ → ℕ
incoming fn c = count_below (λ i. eqb (op fn i) 10 && eqb (arg fn i) c) (nitems fn)

-- "A join point has over one incoming target item, or the start block over none" (`Body::is_join_point`)
unfoldable pub is_join_point : List ℕ → ℕ → Bool
is_join_point fn c = ltb 1 (incoming fn c) || (eqb c 0 && ltb 0 (incoming fn c))

unfoldable pub join_points : List ℕ → ℕ
join_points fn = count_below (is_join_point fn) (nblocks fn)

-- does the block return?
unfoldable pub returns : List ℕ → ℕ → Bool
returns fn b = eqb (op fn (stop fn b - 1)) 11

-- THE MATCH: "A switch on a remembered place (the same items) is a match"; "the latest counts"; "Notes live within a block"

-- the latest note of the place q among the n items from i on
unfoldable pub latest_note : List ℕ → Spot → ℕ → ℕ → Option ℕ
latest_note fn q i zero = none
latest_note fn q i (suc n) = elim (eqb (op fn (i + n)) 7 && same_spot (spot_before fn (i + n)) q) [
  | true ↦ some (i + n)
  | false ↦ latest_note fn q i n
]

-- the place read before the note j
unfoldable pub place_read : List ℕ → ℕ → Spot
place_read fn j = spot_before fn (root_before fn j - 1)

-- the place that the switch at s matches on
unfoldable pub match_at : List ℕ → ℕ → ℕ → Option Spot
match_at fn b s = elim (uses_place fn s) [
  | true ↦ elim (latest_note fn (spot_before fn s) (start fn b) (s - start fn b)) [ none ↦ none | some j ↦ some (place_read fn j) ]
  | false ↦ none
]

-- the block's, if its ender is a match
unfoldable pub matched : List ℕ → ℕ → Option Spot
matched fn b = elim (collect_from (λ i. eqb (op fn i) 8) (λ i. i) (stop fn b - start fn b) (start fn b)) [
  | [] ↦ none
  | s ∷ (l → m) ↦ match_at fn b s
]

-- is the target item i an arm's?
unfoldable pub is_arm : List ℕ → ℕ → Bool
is_arm fn i = eqb (op fn (i - 1)) 9

-- the value of its arm
unfoldable pub arm_value : List ℕ → ℕ → ℕ
arm_value fn i = arg fn (i - 1)
