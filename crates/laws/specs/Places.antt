-- Places by themselves: what follows a downcast, the place without its last element, and places with no index.
use Rattle.std.specs.Prelude.{◌≡◌, refl, Bool, false, cond, ◌&&◌, [], ◌∷◌, ℕ, suc, ◌≤◌, ◌<◌, length, take, ltb, leb}
use Rattle.std.proofs.Common.{sym, ap, true≢false, arith, leb-true, ltb-true, lt-ltb, le-leb}
use Rattle.std.proofs.Math.Bool.{true}
use Rattle.model.specs.Place.{steps, base, walked, field, deref, downcast, usable, index, Place, stops, Elem, spot_ok, used_ok, Spot, Verb, Fold, Unfold, unfold_ok, fold_ok, no_index}
use Rattle.base.specs.Tests.{split, and_right, and_left, and_both}

-- is there no element left?
abbrev pub ended : Place → Bool
ended [] = true
ended (e ∷ p) = false

-- what follows a downcast in a usable place
pub usable_cast : (v : ℕ) (p : Place) → usable (downcast v ∷ p) ≡ true → (usable p ≡ true) × (ended p ≡ false)
usable_cast v [] h = absurd (true≢false (sym h))
usable_cast v (e ∷ p) h = (h, refl)

-- does the walked place end in a downcast?
abbrev pub ends_cast : Place → Bool
ends_cast [] = false
ends_cast (deref ∷ p) = ends_cast p
ends_cast (field i ∷ p) = ends_cast p
ends_cast (downcast v ∷ p) = cond (stops p) true (ends_cast p)
ends_cast (index ∷ p) = false

-- a place without its last element
abbrev pub without_last : Place → Place
without_last [] = []
without_last (e ∷ []) = []
without_last (e ∷ (d ∷ p)) = e ∷ without_last (d ∷ p)

-- a place without a step: nothing is walked
stops_walked : (p : Place) → stops p ≡ true → walked p ≡ []
unfolding walked
stops_walked [] h = refl
stops_walked (deref ∷ p) h = absurd (true≢false (sym h))
stops_walked (field i ∷ p) h = absurd (true≢false (sym h))
stops_walked (downcast v ∷ p) h = absurd (true≢false (sym h))
stops_walked (index ∷ p) h = refl

-- a place with one: something is
goes_walked : (p : Place) → stops p ≡ false → (e : Elem) × (q : Place) × (walked p ≡ e ∷ q)
unfolding walked
goes_walked [] h = absurd (true≢false h)
goes_walked (deref ∷ p) h = (deref, walked p, refl)
goes_walked (field i ∷ p) h = (field i, walked p, refl)
goes_walked (downcast v ∷ p) h = (downcast v, walked p, refl)
goes_walked (index ∷ p) h = absurd (true≢false h)

-- an element in front
base_more : (e : Elem) (p : Place) → (stops p ≡ false → base p ≡ without_last (walked p)) → base (e ∷ p) ≡ without_last (e ∷ walked p)
base_more e p h = split (stops p)
    (λ d. cc (stops_walked p d))
    (λ d. let k = goes_walked p d in cc (h d, k.2))

-- of a place on which a walk makes a step
pub base_walked : (p : Place) → stops p ≡ false → base p ≡ without_last (walked p)
unfolding walked
base_walked [] h = absurd (true≢false h)
base_walked (deref ∷ p) h = base_more deref p (base_walked p)
base_walked (field i ∷ p) h = base_more (field i) p (base_walked p)
base_walked (downcast v ∷ p) h = base_more (downcast v) p (base_walked p)
base_walked (index ∷ p) h = absurd (true≢false h)

-- it comes first
pub base_first : (p : Place) → take (length (base p)) p ≡ base p
base_first [] = refl
base_first (e ∷ p) = split (stops p) (λ d. rw d refl) (λ d. rw d (ap (λ (l : Place). e ∷ l) (base_first p)))

-- is no longer
pub base_short : (p : Place) → length (base p) ≤ length p
base_short [] = omega arith
base_short (e ∷ p) = split (stops p) (λ d. rw d (omega arith)) (λ d. rw d (omega (arith, base_short p)))

-- and opens no more
base_steps : (p : Place) → steps (base p) ≤ steps p
unfolding steps
base_steps [] = omega arith
base_steps (deref ∷ p) = split (stops p) (λ d. rw d (omega arith)) (λ d. rw d (omega (arith, base_steps p)))
base_steps (field i ∷ p) = split (stops p) (λ d. rw d (omega arith)) (λ d. rw d (omega (arith, base_steps p)))
base_steps (downcast v ∷ p) = split (stops p) (λ d. rw d (omega arith)) (λ d. rw d (omega (arith, base_steps p)))
base_steps (index ∷ p) = split (stops p) (λ d. rw d (omega arith)) (λ d. rw d (omega arith))

-- NO INDEX

-- all of such a place is walked
pub walked_all : (p : Place) → no_index p ≡ true → length (walked p) ≡ length p
unfolding walked
walked_all [] h = refl
walked_all (deref ∷ p) h = ap suc (walked_all p h)
walked_all (field i ∷ p) h = ap suc (walked_all p h)
walked_all (downcast v ∷ p) h = ap suc (walked_all p h)
walked_all (index ∷ p) h = absurd (true≢false (sym h))

-- and less of any other
pub walked_less : (p : Place) → no_index p ≡ false → length (walked p) < length p
unfolding walked
walked_less [] h = absurd (true≢false h)
walked_less (deref ∷ p) h = omega (arith, walked_less p h)
walked_less (field i ∷ p) h = omega (arith, walked_less p h)
walked_less (downcast v ∷ p) h = omega (arith, walked_less p h)
walked_less (index ∷ p) h = omega arith

-- of a place on which a walk makes a step, the place without its last element has none
pub base_no_index : (p : Place) → stops p ≡ false → no_index (base p) ≡ true
base_no_index [] h = absurd (true≢false h)
base_no_index (deref ∷ p) h = split (stops p) (λ e. cc) (λ e. cc (base_no_index p e))
base_no_index (field i ∷ p) h = split (stops p) (λ e. cc) (λ e. cc (base_no_index p e))
base_no_index (downcast v ∷ p) h = split (stops p) (λ e. cc) (λ e. cc (base_no_index p e))
base_no_index (index ∷ p) h = absurd (true≢false h)

-- THE TESTS OF REFUSAL 4

-- what the test of a used place says
pub record Used (locals : ℕ) (q : Spot) : Type 0 where
  pub known : q.local < locals
  pub short : length q.place ≤ 128
  pub near : steps q.place ≤ 63
  pub plain : usable q.place ≡ true

-- what the test of a place says
spot_limits : (limit locals : ℕ) (q : Spot) → spot_ok limit locals q ≡ true
    → (q.local < locals) × (length q.place ≤ 128) × (steps q.place ≤ limit)
unfolding spot_ok
spot_limits limit locals q e =
    let a = ltb q.local locals in
    let b = leb (length q.place) 128 in
    let c = leb (steps q.place) limit in
    let ab = and_left (a && b) c e in (
      ltb-true q.local locals (and_left a b ab),
      leb-true (length q.place) 128 (and_right a b ab),
      leb-true (steps q.place) limit (and_right (a && b) c e),
    )

-- a place that may be used
pub used_limits : (locals : ℕ) (q : Spot) → used_ok locals q ≡ true → Used locals q
unfolding used_ok
used_limits locals q e =
    let a = spot_ok 63 locals q in
    let s = spot_limits 63 locals q (and_left a (usable q.place) e) in
    record { known = s.0; short = s.1; near = s.2; plain = and_right a (usable q.place) e }

-- the limit on a statement's place: a fold may go one step further, since it opens nothing at its end
abbrev pub Within : Verb → Place → Type 0
Within Fold p = (steps p ≤ 64) × (usable p ≡ true)
Within Unfold p = steps p ≤ 63

-- the place of a fold statement
pub fold_within : (locals : ℕ) (q : Spot) → fold_ok locals q ≡ true → (q.local < locals) × Within Fold q.place
unfolding fold_ok
fold_within locals q e =
    let a = spot_ok 64 locals q in
    let s = spot_limits 64 locals q (and_left a (usable q.place) e) in
    (s.0, (s.2, and_right a (usable q.place) e))

-- the place of an unfold statement
pub unfold_within : (locals : ℕ) (q : Spot) → unfold_ok locals q ≡ true → (q.local < locals) × Within Unfold q.place
unfolding unfold_ok
unfold_within locals q e = let s = spot_limits 63 locals q e in (s.0, s.2)

-- what a place used may record passes the test of its statement
module _ (locals : ℕ) (q : Spot) (e : used_ok locals q ≡ true) where
  -- a fold of the place
  pub used_fold : fold_ok locals q ≡ true
  unfolding fold_ok spot_ok
  used_fold =
      let u = used_limits locals q e in
      and_both (and_both (and_both (lt-ltb q.local locals u.known) (le-leb (length q.place) 128 u.short)) (le-leb (steps q.place) 64 (omega (arith, u.near)))) u.plain

  -- an unfold of the walked place without its last element
  pub used_unfold : unfold_ok locals (record { local = q.local; place = base q.place }) ≡ true
  unfolding unfold_ok spot_ok
  used_unfold =
      let u = used_limits locals q e in
      and_both (and_both (lt-ltb q.local locals u.known) (le-leb (length (base q.place)) 128 (omega (arith, u.short, base_short q.place))))
      (le-leb (steps (base q.place)) 63 (omega (arith, u.near, base_steps q.place)))
