-- Items that are a place: its elements, in order (`rest_place`), and where the walk along it ends (`Stopped`).
use mathlib.Core.Path.{◌≡◌, refl, sym, ◌∙◌, ap, ap₂, subst}
use mathlib.Core.Logic.{◌≢◌}
use mathlib.Core.Bool.{true, false, true≢false}
use mathlib.Core.List.{List, [], ◌∷◌, ◌++◌}
use mathlib.Core.Option.{some}
use Prim.Native.Nat.{ℕ, zero, suc, ◌+◌, ◌-◌, ◌<◌, ◌≤◌}
use native.Mathlib.Nat.{not-suc-le-zero, le_of_suc-le-suc}
use native.Mathlib.Omega.{arith}
use native.Mathlib.Decide.{dec_lt}
use lib.ListN.{length, length-map}
use lib.Dec.{eqb}
use borrow.Author.Tests.{eqb-true, eqb-false}
use Rattle.model.specs.Words.{word}
use Rattle.model.specs.Place.{Elem, deref, field, downcast, index, Place, Spot, walked, stops, no_index}
use Rattle.model.specs.Block.{elem_of}
use Rattle.model.specs.Record.{elem_entry}
use Rattle.model.specs.Calls.{spot_of}
use Rattle.base.specs.Tests.{split}
use Rattle.records.specs.Here.{firsts, seconds}
use Rattle.records.specs.Recorded.{elem_back}
use Rattle.records.specs.Spots.{place_entries, spot_entries, Items, spot_items}
use Rattle.walk.specs.Way.{route}
use Rattle.walk.specs.Site.{Short, rest, extent}
use Rattle.walk.proofs.Ways.{route_cons, route_split, length_route, no_index_first, no_index_rest}

-- items behind the first
route_later : (o a : ℕ) (ops args : List ℕ) (i n : ℕ) → route (o ∷ ops) (a ∷ args) (suc i) n ≡ route ops args i n
unfolding route
route_later o a ops args i zero = refl
route_later o a ops args i (suc n) = ap (λ (p : Place). elem_of (word ops i) (word args i) ∷ p) (route_later o a ops args (suc i) n)

-- a place's items say it
route_place : (p : Place) → route (firsts (place_entries p)) (seconds (place_entries p)) 0 (length p) ≡ p
unfolding route
route_place [] = refl
route_place (e ∷ p) =
    let c = elem_entry e in
    let q : route (c.0 ∷ firsts (place_entries p)) (c.1 ∷ seconds (place_entries p)) 1 (length p) ≡ p =
    route_later c.0 c.1 (firsts (place_entries p)) (seconds (place_entries p)) 0 (length p) ∙ route_place p in
    cc (elem_back e)

-- an element's code is 1 to 4
entry_few : (e : Elem) → (1 ≤ (elem_entry e).0) × ((elem_entry e).0 ≤ 4)
unfolding elem_entry
entry_few deref = (omega arith, omega arith)
entry_few (field i) = (omega arith, omega arith)
entry_few (downcast v) = (omega arith, omega arith)
entry_few index = (omega arith, omega arith)

-- each of a place
place_few : (p : Place) (k : ℕ) → k < length p → (1 ≤ word (firsts (place_entries p)) k) × (word (firsts (place_entries p)) k ≤ 4)
place_few [] k h = absurd (not-suc-le-zero h)
place_few (e ∷ p) zero h = entry_few e
place_few (e ∷ p) (suc k) h = place_few p k (le_of_suc-le-suc h)

module _ (ops args : List ℕ) {q : Spot} (is : spot_of ops args ≡ some q) where
  -- the items are its
  items : Items ops args (spot_entries q)
  items = spot_items ops args q is

  -- a root, and the elements
  pub length_ops : length ops ≡ suc (length q.place)
  length_ops = ap length items.ops_are ∙ ap suc (length-map (place_entries q.place) (λ c. c.0) ∙ length-map q.place elem_entry)

  -- as many args
  pub length_args : length args ≡ suc (length q.place)
  length_args = ap length items.args_are ∙ ap suc (length-map (place_entries q.place) (λ c. c.1) ∙ length-map q.place elem_entry)

  -- the root is the local
  pub word_local : word args 0 ≡ q.local
  word_local = ap (λ (l : List ℕ). word l 0) items.args_are

  -- the items from the second on are the place
  pub rest_place : rest ops args 1 ≡ q.place
  rest_place =
      let p = q.place in
      let n : length ops - 1 ≡ length p = omega (arith, length_ops) in
      ap (route ops args 1) n
      ∙ ap₂ (λ (o a : List ℕ). route o a 1 (length p)) items.ops_are items.args_are
      ∙ route_later 0 q.local (firsts (place_entries p)) (seconds (place_entries p)) 0 (length p)
      ∙ route_place p

  -- a code behind the root is 1 to 4
  pub code_few : (k : ℕ) → 1 ≤ k → k < length ops → (1 ≤ word ops k) × (word ops k ≤ 4)
  code_few zero l h = absurd (not-suc-le-zero l)
  code_few (suc k) l h = rw items.ops_are (place_few q.place k (omega (arith, length_ops)))

-- short items: as many args as ops, and few
pub short_items : {ops args : List ℕ} → Short ops args → (length args ≡ length ops) × (length ops ≤ 129)
short_items {ops} {args} S = (length_args ops args S.is ∙ sym (length_ops ops args S.is), omega (arith, length_ops ops args S.is, S.short))

-- WHERE THE WALK ENDS

-- an element that is no index
elem_plain : (o a : ℕ) (p : Place) → 1 ≤ o → o ≤ 4 → o ≢ 4 → no_index p ≡ true → no_index (elem_of o a ∷ p) ≡ true
unfolding elem_of
elem_plain zero a p l m n h = absurd (not-suc-le-zero l)
elem_plain (suc zero) a p l m n h = h
elem_plain (suc (suc zero)) a p l m n h = h
elem_plain (suc (suc (suc zero))) a p l m n h = h
elem_plain (suc (suc (suc (suc o)))) a p l m n h = absurd (n (omega arith))

-- and several of them
plain_route : (ops args : List ℕ) (i n : ℕ) → ((k : ℕ) → i ≤ k → k < i + n → ((1 ≤ word ops k) × (word ops k ≤ 4)) × (word ops k ≢ 4))
    → no_index (route ops args i n) ≡ true
unfolding route
plain_route ops args i zero h = refl
plain_route ops args i (suc n) h =
    let c = h i (omega arith) (omega arith) in
    elem_plain (word ops i) (word args i) (route ops args (suc i) n) c.0.0 c.0.1 c.1 (plain_route ops args (suc i) n (λ k l m. h k (omega arith) (omega arith)))

-- the second of two places without an index
pub no_index_behind : (a b : Place) → no_index (a ++ b) ≡ true → no_index b ≡ true
no_index_behind [] b h = h
no_index_behind (e ∷ a) b h = no_index_behind a b (no_index_rest e (a ++ b) h)

-- what is walked of a place
walked_split : (a b : Place) → no_index a ≡ true → stops b ≡ true → walked (a ++ b) ≡ a
unfolding walked
walked_split [] [] h s = refl
walked_split [] (deref ∷ b) h s = absurd (true≢false (sym s))
walked_split [] (field i ∷ b) h s = absurd (true≢false (sym s))
walked_split [] (downcast v ∷ b) h s = absurd (true≢false (sym s))
walked_split [] (index ∷ b) h s = refl
walked_split (deref ∷ a) b h s = ap (λ (p : Place). deref ∷ p) (walked_split a b h s)
walked_split (field i ∷ a) b h s = ap (λ (p : Place). field i ∷ p) (walked_split a b h s)
walked_split (downcast v ∷ a) b h s = ap (λ (p : Place). downcast v ∷ p) (walked_split a b h s)
walked_split (index ∷ a) b h s = absurd (true≢false (sym h))

-- from item r on there is an index, or nothing
stops_rest : (ops args : List ℕ) (r : ℕ) → r ≤ length ops → (r < length ops → word ops r ≡ 4) → stops (rest ops args r) ≡ true
unfolding elem_of route
stops_rest ops args r l h =
    elim (dec_lt r (length ops)) [
      | yes m ↦ rw (route_cons ops args r (length ops - r) (omega arith), h m)
      | no n ↦ let z : length ops - r ≡ 0 = omega arith in rw z
    ]

-- r is the number of the first index behind the root, or the length
pub record Stopped (ops : List ℕ) (r : ℕ) : Type 0 where
  pub least : 1 ≤ r
  pub most : r ≤ length ops
  pub before : (k : ℕ) → 1 ≤ k → k < r → word ops k ≢ 4
  pub at : r < length ops → word ops r ≡ 4

-- there is one, from item i on if none before is an index
stopped_from : (ops : List ℕ) (n i : ℕ) → i + n ≡ length ops → 1 ≤ i → ((k : ℕ) → 1 ≤ k → k < i → word ops k ≢ 4) → (r : ℕ) × Stopped ops r
stopped_from ops zero i e l b = (i, record { least = l; most = omega arith; before = b; at = λ h. absurd (omega arith) })
stopped_from ops (suc n) i e l b =
    split (eqb (word ops i) 4)
    (λ h. (i, record { least = l; most = omega arith; before = b; at = λ m. eqb-true (word ops i) 4 h }))
    (λ h. stopped_from ops n (suc i) (omega arith) (omega arith)
    (λ k m o. elim (dec_lt k i) [ yes g ↦ b k m g | no g ↦ λ d. let z : i ≡ k = omega arith in eqb-false (word ops i) 4 h (ap (word ops) z ∙ d) ]))

module _ {ops : List ℕ} {r : ℕ} (h : Stopped ops r) {k : ℕ} (l : 1 ≤ k) (m : k ≤ r) where
  -- before it an item is no index, and not the end
  pub stopped_before : k < length ops → word ops k ≢ 4 → k < r
  stopped_before n d = elim (dec_lt k r) [ yes g ↦ g | no g ↦ let e : r ≡ k = omega arith in absurd (d (ap (word ops) (sym e) ∙ h.at (omega arith))) ]

  -- at an index it is reached
  pub stopped_here : word ops k ≡ 4 → k ≡ r
  stopped_here d = elim (dec_lt k r) [ yes g ↦ absurd (h.before k l g d) | no g ↦ omega arith ]

module _ (ops args : List ℕ) {q : Spot} (is : spot_of ops args ≡ some q) where
  module _ {r : ℕ} (h : Stopped ops r) where
    -- what is before r has no index
    ending_plain : no_index (route ops args 1 (r - 1)) ≡ true
    ending_plain = plain_route ops args 1 (r - 1) (λ k l m. (code_few ops args is k l (omega (arith, h.most)), h.before k l (omega (arith, h.least))))

    -- what follows is an index, or nothing
    ending_last : stops (rest ops args r) ≡ true
    ending_last = stops_rest ops args r h.most h.at

    -- so r counts what is walked
    ending_far : r ≡ suc (length (walked q.place))
    ending_far =
        let n : length ops - 1 ≡ (r - 1) + (length ops - r) = omega (arith, h.least, h.most) in
        let e : 1 + (r - 1) ≡ r = omega (arith, h.least) in
        let p : q.place ≡ route ops args 1 (r - 1) ++ rest ops args r =
        sym (rest_place ops args is) ∙ ap (route ops args 1) n ∙ route_split ops args 1 (r - 1) (length ops - r) ∙ ap (λ (k : ℕ). route ops args 1 (r - 1) ++ route ops args k (length ops - r)) e in
        omega (arith, h.least, ap length (ap walked p ∙ walked_split (route ops args 1 (r - 1)) (rest ops args r) ending_plain ending_last), length_route ops args 1 (r - 1))

  -- the extent counts what is walked of the place
  pub extent_far : extent ops args ≡ suc (length (walked q.place))
  unfolding extent
  extent_far = ap (λ (p : Place). suc (length (walked p))) (rest_place ops args is)

  -- so the walk stops there
  pub extent_stopped : Stopped ops (extent ops args)
  extent_stopped =
      let s = stopped_from ops (length q.place) 1 (omega (arith, length_ops ops args is)) (omega arith) (λ k l m. absurd (omega arith)) in
      subst (Stopped ops) (ending_far s.1 ∙ sym extent_far) s.1

  -- what is before it has no index
  pub extent_plain : no_index (route ops args 1 (extent ops args - 1)) ≡ true
  extent_plain = ending_plain extent_stopped

  -- what follows is an index, or nothing
  pub extent_last : stops (rest ops args (extent ops args)) ≡ true
  extent_last = ending_last extent_stopped

  -- an item that is no index is a step
  pub step_here : (k : ℕ) → 1 ≤ k → k < length ops → word ops k ≢ 4 → stops (elem_of (word ops k) (word args k) ∷ []) ≡ false
  step_here k l m d =
      let c = code_few ops args is k l m in
      no_index_first (elem_of (word ops k) (word args k)) [] (elem_plain (word ops k) (word args k) [] c.0 c.1 d refl)
