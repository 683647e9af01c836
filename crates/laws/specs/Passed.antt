-- Where an opening began (document 02, F-4): the number of an unfold from a use says what it is meant to say.
use Rattle.std.specs.Prelude.{◌≡◌, true, false, cond, not, ◌||◌, ℕ, suc, ◌≤◌, length, take}
use Rattle.std.proofs.Math.Path.{refl}
use Rattle.std.proofs.Common.{sym, subst}
use mathlib.Core.List.{List, [], ◌∷◌, map}
use native.Mathlib.Omega.{arith}
use Rattle.model.specs.Tree.{Tree, Forest, unfolded}
use Rattle.model.specs.Place.{Elem, deref, field, downcast, index, Place, Spot, walked}
use Rattle.model.specs.Walk.{next, changed, reached, passed, pick, projection}
use Rattle.model.specs.Told.{Began, Tells, tells_nothing, tells_fold, tells_unfold}
use Rattle.base.specs.Tests.{split, clash}
use Rattle.base.specs.Answer.{Good, good_same}
use Rattle.laws.specs.Recorded.{numbered, recording, projection_recording}

module _ (Γ : List ℕ) where
  -- how an element is walked from the tree s, whatever follows it
  record Goes (e : Elem) (s : Tree) : Type 0 where
    walks : (q : Place) → walked (e ∷ q) ≡ e ∷ walked q
    changes : (q : Place) → changed Γ (e ∷ q) s ≡ not (unfolded s) || changed Γ q (next Γ e s)
    reaches : (q : Place) → reached Γ (e ∷ q) s ≡ reached Γ q (next Γ e s)
    passes : (q : Place) → passed Γ (e ∷ q) s ≡ cond (unfolded s) (suc (passed Γ q (next Γ e s))) 0

  goes_deref : (s : Tree) → Goes deref s
  unfolding changed reached passed walked
  goes_deref s = record { walks = λ q. refl; changes = λ q. refl; reaches = λ q. refl; passes = λ q. refl }

  goes_field : (i : ℕ) (s : Tree) → Goes (field i) s
  unfolding changed reached passed walked
  goes_field i s = record { walks = λ q. refl; changes = λ q. refl; reaches = λ q. refl; passes = λ q. refl }

  goes_cast : (v : ℕ) (s : Tree) → Goes (downcast v) s
  unfolding changed reached passed walked
  goes_cast v s = record { walks = λ q. refl; changes = λ q. refl; reaches = λ q. refl; passes = λ q. refl }

  -- ONE ELEMENT IN FRONT: the node is folded, and the number is 0; or it is open, and the number is one more
  module _ {e : Elem} {s : Tree} (G : Goes e s) (p : Place) where
    began_folded : unfolded s ≡ false → Began Γ (e ∷ p) s (passed Γ (e ∷ p) s)
    unfolding changed reached
    began_folded d = rw (G.passes p, d) (record { short = rw (G.walks p) (omega arith); quiet = refl; folded = d; opens = cc (G.changes []) })

    began_open : unfolded s ≡ true → Began Γ p (next Γ e s) (passed Γ p (next Γ e s)) → Began Γ (e ∷ p) s (passed Γ (e ∷ p) s)
    began_open d B =
        let n = passed Γ p (next Γ e s) in
        rw (G.passes p, d) (record {
          short = rw (G.walks p) (omega (arith, B.short));
          quiet = cc (G.changes (take n p), B.quiet);
          folded = cc (G.reaches (take n p), B.folded);
          opens = cc (G.changes (take (suc n) p), B.opens);
        })

    began_on : (changed Γ p (next Γ e s) ≡ true → Began Γ p (next Γ e s) (passed Γ p (next Γ e s))) → changed Γ (e ∷ p) s ≡ true → Began Γ (e ∷ p) s (passed Γ (e ∷ p) s)
    began_on f h = split (unfolded s) (λ d. began_open d (f (cc (G.changes p)))) began_folded

    passed_on : (changed Γ p (next Γ e s) ≡ false → passed Γ p (next Γ e s) ≡ length (walked p)) → changed Γ (e ∷ p) s ≡ false → passed Γ (e ∷ p) s ≡ length (walked (e ∷ p))
    passed_on f h = split (unfolded s)
        (λ d. let k = f (cc (G.changes p)) in cc (G.passes p, G.walks p))
        (λ d. clash (cc (G.changes p)))

  -- OF EVERY WALK THAT CHANGES A TREE
  pub began : (p : Place) (s : Tree) → changed Γ p s ≡ true → Began Γ p s (passed Γ p s)
  unfolding changed
  began [] s h = clash (cc)
  began (deref ∷ p) s h = began_on (goes_deref s) p (began p (next Γ deref s)) h
  began (field i ∷ p) s h = began_on (goes_field i s) p (began p (next Γ (field i) s)) h
  began (downcast v ∷ p) s h = began_on (goes_cast v s) p (began p (next Γ (downcast v) s)) h
  began (index ∷ p) s h = clash (cc)

  -- "and the walked length where none did"
  pub passed_all : (p : Place) (s : Tree) → changed Γ p s ≡ false → passed Γ p s ≡ length (walked p)
  unfolding changed passed walked
  passed_all [] s h = refl
  passed_all (deref ∷ p) s h = passed_on (goes_deref s) p (passed_all p (next Γ deref s)) h
  passed_all (field i ∷ p) s h = passed_on (goes_field i s) p (passed_all p (next Γ (field i) s)) h
  passed_all (downcast v ∷ p) s h = passed_on (goes_cast v s) p (passed_all p (next Γ (downcast v) s)) h
  passed_all (index ∷ p) s h = refl

  -- no walk passes more elements than its place has
  pub passed_most : (p : Place) (s : Tree) → passed Γ p s ≤ length p
  unfolding passed
  passed_most [] s = omega arith
  passed_most (deref ∷ p) s = split (unfolded s) (λ e. rw e (omega (arith, passed_most p (next Γ deref s)))) (λ e. rw e (omega arith))
  passed_most (field i ∷ p) s = split (unfolded s) (λ e. rw e (omega (arith, passed_most p (next Γ (field i) s)))) (λ e. rw e (omega arith))
  passed_most (downcast v ∷ p) s = split (unfolded s) (λ e. rw e (omega (arith, passed_most p (next Γ (downcast v) s)))) (λ e. rw e (omega arith))
  passed_most (index ∷ p) s = omega arith

  -- so of every place used
  recording_tells : (q : Spot) (E : Forest) → Tells Γ q E (map (numbered q.local) (recording Γ q.place (pick q.local E)))
  recording_tells q E =
      let p = q.place in
      let s = pick q.local E in
      split (changed Γ p s)
      (λ c. rw c (tells_unfold (began p s c)))
      (λ c. rw c (split (unfolded (reached Γ p s)) (λ d. rw d tells_fold) (λ d. rw d tells_nothing)))

  pub projection_tells : (q : Spot) (E : Forest) → Good (λ r. Tells Γ q E r.1) (projection Γ q E)
  projection_tells q E = good_same (λ r e. subst (Tells Γ q E) (sym e) (recording_tells q E)) (projection_recording Γ q E)
