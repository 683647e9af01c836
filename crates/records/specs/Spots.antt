-- Places as items, as the calls on states take them: a place's items are read back as the place, and nothing else is.
use Rattle.std.specs.Prelude.{◌≡◌, refl, Bool, true, false, ◌&&◌, ◌||◌, List, [], ◌∷◌, map, ℕ, zero, suc, ◌≤◌, take, eqb, leb}
use Rattle.std.proofs.Common.{sym, ap, ap₂, ◌∙◌, subst, true≢false, arith, eqb-true, leb-true}
use Rattle.std.proofs.Math.Option.{some}
use Rattle.model.specs.Place.{Elem, deref, field, downcast, index, Place, Spot}
use Rattle.model.specs.Block.{elem_of}
use Rattle.model.specs.Record.{Entry, elem_entry}
use Rattle.model.specs.Calls.{elems_of, spot_of}
use Rattle.base.specs.Tests.{split, split_option, and_left, and_right}
use Rattle.records.specs.Here.{firsts, seconds}
use Rattle.records.specs.Pairs.{take_map}
use Rattle.records.specs.Recorded.{elem_back}

-- a place's items
abbrev pub place_entries : Place → List Entry
place_entries p = map elem_entry p

-- a local's place's: the root, then the elements
abbrev pub spot_entries : Spot → List Entry
spot_entries q = (0, q.local) ∷ place_entries q.place

-- is the item an element's?
abbrev pub item_ok : ℕ → ℕ → Bool
item_ok o a = leb 1 o && leb o 4 && (eqb a 0 || eqb o 2 || eqb o 3)

-- an element's is
pub elem_ok : (e : Elem) → item_ok (elem_entry e).0 (elem_entry e).1 ≡ true
unfolding elem_entry
elem_ok deref = refl
elem_ok (field i) = split (eqb i 0) (λ e. rw e) (λ e. rw e)
elem_ok (downcast v) = split (eqb v 0) (λ e. rw e) (λ e. rw e)
elem_ok index = refl

-- an arg that must be 0 is
zero_arg : (a : ℕ) → eqb a 0 || false || false ≡ true → a ≡ 0
zero_arg a h = eqb-true a 0 (split (eqb a 0) (λ e. e) (λ e. cc))

-- and such an item is the element's
pub item_back : (o a : ℕ) → item_ok o a ≡ true → elem_entry (elem_of o a) ≡ (o, a)
unfolding elem_entry elem_of
item_back zero a h = absurd (true≢false (cc))
item_back (suc zero) a h = ap (λ (b : ℕ). (1, b)) (sym (zero_arg a h))
item_back (suc (suc zero)) a h = refl
item_back (suc (suc (suc zero))) a h = refl
item_back (suc (suc (suc (suc zero)))) a h = ap (λ (b : ℕ). (4, b)) (sym (zero_arg a h))
item_back (suc (suc (suc (suc (suc o))))) a h =
    let n : ℕ = suc (suc (suc (suc (suc o)))) in
    let few : n ≤ 4 = leb-true n 4 (and_right (leb 1 n) (leb n 4) (and_left (leb 1 n && leb n 4) (eqb a 0 || eqb n 2 || eqb n 3) h)) in
    absurd (omega arith)

-- an item, then others
elems_cons : (o a : ℕ) (ops args : List ℕ) (p : Place) → item_ok o a ≡ true → elems_of ops args ≡ some p → elems_of (o ∷ ops) (a ∷ args) ≡ some (elem_of o a ∷ p)
unfolding elems_of
elems_cons o a ops args p t e = cc

-- a place's items are read as the place
pub elems_back : (p : Place) → elems_of (firsts (place_entries p)) (seconds (place_entries p)) ≡ some p
unfolding elems_of
elems_back [] = refl
elems_back (e ∷ p) =
    elems_cons (elem_entry e).0 (elem_entry e).1 (firsts (place_entries p)) (seconds (place_entries p)) p (elem_ok e) (elems_back p)
    ∙ ap (λ (d : Elem). some (d ∷ p)) (elem_back e)

-- and a local's place's as that
pub spot_back : (q : Spot) → spot_of (firsts (spot_entries q)) (seconds (spot_entries q)) ≡ some q
unfolding spot_of
spot_back q = cc (elems_back q.place)

-- these ops and args are the items es
pub record Items (ops args : List ℕ) (es : List Entry) : Type 0 where
  pub ops_are : ops ≡ firsts es
  pub args_are : args ≡ seconds es

-- what is read as a place is its items
pub elems_items : (ops args : List ℕ) (p : Place) → elems_of ops args ≡ some p → Items ops args (place_entries p)
unfolding elems_of
elems_items [] [] p e = subst (λ (q : Place). Items [] [] (place_entries q)) {x = []} {y = p} (cc) (record { ops_are = refl; args_are = refl })
elems_items [] (a ∷ args) p e = absurd (true≢false (cc))
elems_items (o ∷ ops) [] p e = absurd (true≢false (cc))
elems_items (o ∷ ops) (a ∷ args) p e =
    split (item_ok o a)
    (λ t. split_option (elems_of ops args) (λ d. absurd (true≢false (cc))) (λ q d.
    let h : Items ops args (place_entries q) = elems_items ops args q d in
    let b : elem_entry (elem_of o a) ≡ (o, a) = item_back o a t in
    subst (λ (r : Place). Items (o ∷ ops) (a ∷ args) (place_entries r)) {x = elem_of o a ∷ q} {y = p} (cc) (record {
      ops_are = ap₂ (λ (n : ℕ) (l : List ℕ). n ∷ l) (sym (ap (λ (c : Entry). c.0) b)) h.ops_are;
      args_are = ap₂ (λ (n : ℕ) (l : List ℕ). n ∷ l) (sym (ap (λ (c : Entry). c.1) b)) h.args_are;
    })))
    (λ t. absurd (true≢false (cc)))

-- and what is read as a local's place is its
pub spot_items : (ops args : List ℕ) (q : Spot) → spot_of ops args ≡ some q → Items ops args (spot_entries q)
unfolding spot_of
spot_items [] args q e = absurd (true≢false (cc))
spot_items (o ∷ ops) [] q e = absurd (true≢false (cc))
spot_items (o ∷ ops) (a ∷ args) q e =
    split (eqb o 0)
    (λ t. split_option (elems_of ops args) (λ d. absurd (true≢false (cc))) (λ p d.
    let h : Items ops args (place_entries p) = elems_items ops args p d in
    subst (λ (r : Spot). Items (o ∷ ops) (a ∷ args) (spot_entries r)) {x = record { local = a; place = p }} {y = q} (cc) (record {
      ops_are = ap₂ (λ (n : ℕ) (l : List ℕ). n ∷ l) (eqb-true o 0 t) h.ops_are;
      args_are = ap (λ (l : List ℕ). a ∷ l) h.args_are;
    })))
    (λ t. absurd (true≢false (cc)))

-- THE FIRST ITEMS

-- the root and the items of n elements are the place of the first n elements
pub spot_front : (ops args : List ℕ) (q : Spot) (n : ℕ) → spot_of ops args ≡ some q
    → spot_of (take (suc n) ops) (take (suc n) args) ≡ some (record { local = q.local; place = take n q.place })
spot_front ops args q n e =
    let I = spot_items ops args q e in
    let r : Spot = record { local = q.local; place = take n q.place } in
    let t : take (suc n) (spot_entries q) ≡ spot_entries r = ap (λ (l : List Entry). (0, q.local) ∷ l) (take_map elem_entry n q.place) in
    let o : take (suc n) ops ≡ firsts (spot_entries r) = ap (take (suc n)) I.ops_are ∙ take_map (λ (c : Entry). c.0) (suc n) (spot_entries q) ∙ ap firsts t in
    let a : take (suc n) args ≡ seconds (spot_entries r) = ap (take (suc n)) I.args_are ∙ take_map (λ (c : Entry). c.1) (suc n) (spot_entries q) ∙ ap seconds t in
    ap₂ spot_of o a ∙ spot_back r
