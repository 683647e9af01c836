-- The walk of a place that is given, as `ensure_unfolded` answers it: where it has ended.
use mathlib.Core.Path.{◌≡◌}
use mathlib.Core.Bool.{Bool, true}
use mathlib.Core.List.{List}
use mathlib.Core.Option.{some}
use Prim.Native.Nat.{ℕ}
use lib.ListN.{length}
use Rattle.std.specs.Prelude.{Ok}
use Rattle.model.specs.Tree.{Forest, sizes}
use Rattle.model.specs.Place.{Spot, spot_ok}
use Rattle.model.specs.Walk.{pick}
use Rattle.model.specs.Collect.{firsts}
use Rattle.model.specs.Calls.{spot_of}
use Rattle.records.specs.Here.{Holds}
use Rattle.state.specs.Value.{value}
use Rattle.state.specs.declared.nodes.State.{State}
use Rattle.walk.specs.declared.along.Walk.{Walk}
use Rattle.walk.specs.Site.{Walks}
use Rattle.env.specs.Given.{Given, Sited}
use Rattle.env.specs.There.{Wherever}
use Rattle.env.proofs.Limits.{Limited, spot_limited, given_also, given_passes}

-- ok is the test of a place that can be walked
module _ {Γ locals : List ℕ} {s : State} {ops args : List ℕ} {ok : Spot → Bool} (walks : (q : Spot) → ok q ≡ true → spot_ok 64 (length locals) q ≡ true) (g : Given Γ locals s ops args ok) where
  -- what the walk asks
  pub walk_given : Given Γ locals s ops args (spot_ok 64 (length locals))
  walk_given = given_also g (spot_ok 64 (length locals)) walks

  -- the place is within its limits
  pub walk_limited : {q : Spot} → spot_of ops args ≡ some q → Limited 64 (length locals) q
  walk_limited {q} is = spot_limited (length locals) q 64 (walks q (given_passes g is))

  -- the walk has ended at w, in the tree of the place's local. Its answer is asked for in s alone; `WalksThere` gives it for every number of nodes
  abbrev pub walk_sited : {w : Walk} → Wherever Γ locals s ops args (λ E q. Walks Γ s.forms s.whats ops args (sizes (firsts q.local E)) q.place (pick q.local E) (Ok w))
      → {E : Forest} {q : Spot} → Holds Γ locals (value s) E → spot_of ops args ≡ some q → Sited Γ s ops args w
  walk_sited W {E} {q} h is =
      record {
        locals = locals;
        state = E;
        holds = h;
        spot = q;
        is = is;
        known = (walk_limited is).known;
        short = (walk_limited is).short;
        site = W E q h is;
      }
