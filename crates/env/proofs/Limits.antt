-- Places within their limits: what a test says of a place, and that one test passes where another does. The state and place given.
use mathlib.Core.Path.{◌≡◌, subst}
use mathlib.Core.Bool.{Bool, true, ◌&&◌}
use mathlib.Core.List.{List}
use mathlib.Core.Option.{some}
use Prim.Native.Nat.{ℕ, ◌<◌, ◌≤◌}
use native.Mathlib.Omega.{arith}
use lib.ListN.{length}
use lib.Dec.{ltb, leb}
use borrow.Author.Tests.{ltb-true, leb-true, le-leb}
use Rattle.model.specs.Place.{Spot, steps, usable, spot_ok, used_ok, fold_ok, unfold_ok}
use Rattle.model.specs.Calls.{spot_of}
use Rattle.base.specs.Tests.{and_left, and_right, and_both}
use Rattle.state.specs.declared.nodes.State.{State}
use Rattle.env.specs.Given.{Given}

-- a place that passes has a known local, few elements and few steps
pub record Limited (limit locals : ℕ) (q : Spot) : Type 0 where
  pub known : q.local < locals
  pub short : length q.place ≤ 128
  pub near : steps q.place ≤ limit

module _ (locals : ℕ) (q : Spot) where
  -- what the test says
  pub spot_limited : (limit : ℕ) → spot_ok limit locals q ≡ true → Limited limit locals q
  unfolding spot_ok
  spot_limited limit h =
      let a : Bool = ltb q.local locals in
      let b : Bool = leb (length q.place) 128 in
      let c : Bool = leb (steps q.place) limit in
      let ab : a && b ≡ true = and_left (a && b) c h in
      record {
        known = ltb-true q.local locals (and_left a b ab);
        short = leb-true (length q.place) 128 (and_right a b ab);
        near = leb-true (steps q.place) limit (and_right (a && b) c h);
      }

  -- an unfold's place is walkable
  pub unfold_walks : unfold_ok locals q ≡ true → spot_ok 64 locals q ≡ true
  unfolding unfold_ok spot_ok
  unfold_walks h =
      let ab : Bool = ltb q.local locals && leb (length q.place) 128 in
      let near : steps q.place ≤ 64 = omega (arith, (spot_limited 63 h).near) in
      and_both (and_left ab (leb (steps q.place) 63) h) (le-leb (steps q.place) 64 near)

  -- a fold's too
  pub fold_walks : fold_ok locals q ≡ true → spot_ok 64 locals q ≡ true
  unfolding fold_ok
  fold_walks h = and_left (spot_ok 64 locals q) (usable q.place) h

  -- and does not end in downcast
  pub fold_usable : fold_ok locals q ≡ true → usable q.place ≡ true
  unfolding fold_ok
  fold_usable h = and_right (spot_ok 64 locals q) (usable q.place) h

  -- a used place may be unfolded
  pub used_unfolds : used_ok locals q ≡ true → unfold_ok locals q ≡ true
  unfolding used_ok unfold_ok
  used_unfolds h = and_left (spot_ok 63 locals q) (usable q.place) h

  -- so it is walkable
  pub used_walks : used_ok locals q ≡ true → spot_ok 64 locals q ≡ true
  used_walks h = unfold_walks (used_unfolds h)

  -- and may be folded
  pub used_folds : used_ok locals q ≡ true → fold_ok locals q ≡ true
  unfolding used_ok fold_ok
  used_folds h = and_both (used_walks h) (and_right (spot_ok 63 locals q) (usable q.place) h)

module _ {Γ locals : List ℕ} {s : State} {ops args : List ℕ} {ok : Spot → Bool} (g : Given Γ locals s ops args ok) where
  -- another test
  pub given_also : (also : Spot → Bool) → ((q : Spot) → ok q ≡ true → also q ≡ true) → Given Γ locals s ops args also
  given_also also h = record { state = g.state; holds = g.holds; spot = g.spot; is = g.is; passes = h g.spot g.passes }

  -- the place that the items are
  pub given_passes : {q : Spot} → spot_of ops args ≡ some q → ok q ≡ true
  given_passes {q} is = let same : g.spot ≡ q = cc g.is in subst (λ (p : Spot). ok p ≡ true) same g.passes
