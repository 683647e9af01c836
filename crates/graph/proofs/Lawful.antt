-- Lawful, continued from specs/Lawful: theorems that rest on others.
use Rattle.std.specs.Prelude.{◌≡◌, refl, true, List, ℕ}
use Rattle.std.proofs.Common.{◌∙◌, ap}
use Rattle.model.specs.Tree.{Forest}
use Rattle.model.specs.Place.{At}
use Rattle.model.specs.Block.{places_ok, targets, returns, matched}
use Rattle.model.specs.Frame.{Work, target}
use Rattle.model.specs.Body.{frame}
use Rattle.model.specs.Replay.{at_point, own}
use Rattle.base.specs.Tests.{split}
use Rattle.base.specs.Each.{Each, each_same}
use Rattle.base.specs.Function.{FunctionFacts}
use Rattle.solver.specs.Lists.{has_map, each_has}
use Rattle.solver.specs.Laws.{Good, Lattice, Bodies, Collects, Inside, Followed, Follows, Lawful}
use Rattle.graph.specs.Ranges.{owner}
use Rattle.graph.specs.Targets.{targets_once}
use Rattle.graph.proofs.Targets.{frame_edges, returns_none}
use Rattle.graph.specs.Points.{Ran, body_ran, ran_listed, frame_listed}
use Rattle.graph.proofs.Points.{rests_inside, frame_points}
use Rattle.graph.proofs.Used.{matched_used}
use Rattle.graph.specs.Trees.{Trees}
use Rattle.graph.specs.Through.{follow_through, follow_fine, follow_tells, ran_gone}
use Rattle.graph.specs.Departs.{Departs, exits_depart}
use Rattle.graph.specs.Bridge.{player}
use Rattle.graph.specs.Lawful.{no_member}

module _ {Γ fn : List ℕ} (A : FunctionFacts fn) (P : places_ok fn ≡ true) {Ok : Forest → Type 0} (T : Trees Γ fn Ok) where
  -- each exit of a block's run, from the state behind its statements
  ran_departs : {b : ℕ} {E : Forest} {w : Work Forest At} (R : Ran Γ fn b E w) → Good (frame Γ fn) Ok E
      → Each (Departs Γ fn T (matched fn b) (targets fn b) R.end) w.exits
  ran_departs {b} {E} {w} R g =
      let G = ran_gone A P T (λ p. at_point p w.lines) R (λ i r. refl) g in
      exits_depart Γ fn T (matched fn b) (λ q m. matched_used A P R.block m) (targets fn b) R.end (targets_once fn b) G.good R.leaves

  -- THE BODIES
  pub frame_bodies : Bodies (frame Γ fn) Ok
  frame_bodies = record {
    good = λ {b} {E} {w} g e. each_same (λ x d. d.1) (ran_departs (body_ran Γ fn e) g);
    listed = λ {b} {E} {w} e. frame_listed Γ fn b E e;
  }

  -- THE REPLAY
  pub frame_follows : Follows (frame Γ fn) Ok (owner fn) (player Γ fn)
  frame_follows = record { follows = λ {b} {E} {w} {f} g e h. go f g (body_ran Γ fn e) h }
    where
      go : {b : ℕ} {E : Forest} {w : Work Forest At} (f : ℕ → List At) → Good (frame Γ fn) Ok E → Ran Γ fn b E w
          → ((p : ℕ) → Inside (frame Γ fn) (owner fn) b p → f p ≡ at_point p w.lines) → Followed (player Γ fn) f b E w
      go {b} {E} {w} f g R h =
          let G = ran_gone A P T f R (λ i r. h i (rests_inside A Γ r)) g in
          record {
            end = G.end;
            ends = follow_through Γ f G.follow;
            departs = λ {x} k. split (returns fn b)
                (λ e. no_member (rw (ran_listed Γ fn R ∙ returns_none A R.block e) at (has_map target k)))
                (λ e. ap (own Γ fn x.item (targets fn b) (matched fn b)) (G.plain e) ∙ (each_has (ran_departs R g) k).0);
            fine = (follow_fine Γ f G.follow, follow_tells Γ f G.follow);
          }

  -- all that is asked
  pub frame_lawful : Lattice (frame Γ fn) Ok → Collects (frame Γ fn) Ok → Lawful (frame Γ fn) Ok (owner fn) (player Γ fn)
  frame_lawful L C = record {
    lattice = L;
    bodies = frame_bodies;
    edges = frame_edges A Γ;
    points = frame_points A Γ;
    collects = C;
    follows = frame_follows;
  }
