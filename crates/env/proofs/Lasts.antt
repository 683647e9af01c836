-- A walk that has ended in the tree of a local (`Sited`), and one step more there: what `open_nodes` asks for it, and what it gives.
use mathlib.Core.Path.{◌≡◌, refl, sym, ◌∙◌, ap, subst}
use mathlib.Core.Bool.{true}
use mathlib.Core.List.{List, ◌∷◌, ◌++◌}
use Prim.Native.Nat.{ℕ, ◌+◌, ◌-◌, ◌*◌, ◌<◌, ◌≤◌}
use native.Mathlib.Omega.{arith}
use native.Mathlib.Decide.{dec_lt}
use lib.ListN.{length, get_or}
use Rattle.std.specs.Prelude.{Ok, Err, Option, Some}
use Rattle.refusal.specs.Refusal.{number}
use Rattle.refusal.specs.declared.Refusal.{Refusal}
use Rattle.model.specs.Answer.{Answer, refused, done}
use Rattle.model.specs.Tree.{Tree, leaf, Forest, sizes}
use Rattle.model.specs.Typing.{Fits}
use Rattle.model.specs.State.{Code, levels, codess}
use Rattle.model.specs.Place.{Elem, deref, field, downcast, index, Place, Spot, Unfold, dash, steps, unfold_ok}
use Rattle.model.specs.Walk.{walk, pick, carry, carry_at, cast_at, downcasting}
use Rattle.model.specs.Calls.{statement_at}
use Rattle.model.specs.Block.{elem_of}
use Rattle.base.specs.Typed.{Typed}
use Rattle.base.specs.Answer.{good_at}
use Rattle.laws.specs.Walked.{Keeps, nth_fit, walk_fit, enter_fit, opening_fit}
use Rattle.laws.specs.Depth.{Deep}
use Rattle.laws.specs.Levels.{nth_levels, cast_levels}
use Rattle.laws.proofs.Levels.{carry_levels}
use Rattle.records.specs.Here.{Coded, Holds}
use Rattle.records.specs.Codes.{size_pos}
use Rattle.records.specs.Holds.{holds_few}
use Rattle.records.specs.Coded.{coded_in_forms, coded_leaf, coded_folded}
use Rattle.state.specs.Value.{value}
use Rattle.state.specs.declared.nodes.State.{State}
use Rattle.walk.specs.Way.{acts}
use Rattle.walk.specs.Fresh.{folded, Bud, distance, grows, trail}
use Rattle.walk.specs.Applied.{Encoded, element, Adds, tip, opening, Opens, Carried}
use Rattle.walk.specs.declared.step.Fresh.{Fresh}
use Rattle.walk.specs.declared.step.More.{More}
use Rattle.walk.specs.declared.along.Walk.{Walk}
use Rattle.walk.proofs.Ways.{length_route}
use Rattle.walk.proofs.Places.{length_ops, length_args}
use Rattle.walk.proofs.Sites.{bud_folded, sprung_to}
use Rattle.walk.proofs.Ends.{site_stays, site_last, site_barred, acts_cast, acts_open}
use Rattle.env.specs.declared.project.Moved.{Moved}
use Rattle.env.specs.Answers.{moved, last_step, carrying, granted, Moves, Widens}
use Rattle.env.specs.Given.{Sited}
use Rattle.env.specs.There.{Staying}
use Rattle.env.proofs.Limits.{Limited, spot_limited}
use Rattle.env.proofs.Answered.{moves_done}
use Rattle.env.proofs.Added.{Few, sprout_few}
use Rattle.env.proofs.States.{holds_encoded, encoded_holds, fitting_fits, fitting_full, nth_refused, Grafts, among_grafted, Stands, among_stays}

-- the walk w with another end
abbrev pub ending : Walk → Fresh → Walk
ending w g = record { walked = w.walked; passed = w.passed; node = w.node; typ = w.typ; fresh = g }

module _ {Γ ops args : List ℕ} {s : State} {w : Walk} (h : Typed Γ) (d : Sited Γ s ops args w) where
  -- the elements walked
  sited_walked : w.walked ≤ 129
  sited_walked = omega (arith, d.site.within, d.short, length_ops ops args d.is)

  -- where its open nodes end
  pub sited_within : w.node < 512
  sited_within =
      let here = d.site.passing.midway.here in
      omega (arith, coded_in_forms here, size_pos d.site.passing.midway.tree, d.holds.shape.forms_long)

  -- a walk that has opened a node has come to a folded one
  sited_open : (get_or s.forms w.node 0 ≡ 0 → ⊥) → w.passed ≡ w.walked
  sited_open n =
      let P = d.site.passing in
      elim (dec_lt w.passed w.walked) [
        | yes l ↦ absurd (n (coded_leaf (subst (Coded Γ s.forms s.whats w.node w.typ) (P.folded l) P.midway.here)).0)
        | no f ↦ omega (arith, P.most)
      ]

  -- what the walk has come to
  pub sited_bud : Bud Γ w.fresh
  sited_bud = (sprung_to d.site.passing h d.site.within d.site.plain d.site.fresh).fine

  -- the nodes that it adds
  pub sited_few : w.fresh.added ≤ 2097152
  sited_few =
      let P = d.site.passing in
      let l : 0 + length (opening ops args w) * 16384 ≤ 2097152 = omega (arith, length_route ops args w.passed (w.walked - w.passed), sited_walked, P.least) in
      let f : w.fresh.added ≤ 0 + length (opening ops args w) * 16384 =
      subst (Few (0 + length (opening ops args w) * 16384)) d.site.fresh (sprout_few Γ h (opening ops args w) d.site.plain (folded w.typ 0) (bud_folded w.typ 0 P.midway.known)) in
      omega arith

  module _ {act : Tree → Answer Tree} {cs : List Code} {n : ℕ} (G : Grafts Γ act d.spot.local d.spot.place d.state w.node cs n) where
    -- the state before
    grafts_encoded : Encoded s (G.before ++ ((0, 0) ∷ G.behind))
    grafts_encoded = subst (Encoded s) G.was (holds_encoded d.holds)

    -- it can be carried out
    pub sited_opens : {g : Fresh} {m : Option More} → Adds Γ w.fresh m g → s.nodes + g.added ≤ 512 → Opens Γ ops args s (ending w g) m
    sited_opens {g} a r =
        record {
          known = d.site.passing.midway.known;
          least = d.site.passing.most;
          in_ops = d.site.within;
          in_args = omega (arith, d.site.within, length_ops ops args d.is, length_args ops args d.is);
          few = omega (arith, sited_walked);
          plain = d.site.plain;
          before = w.fresh;
          leads = d.site.fresh;
          adds = a;
          front = G.before;
          back = G.behind;
          coded = grafts_encoded;
          at = G.place;
          room = r;
        }

    -- and then the state after has the codes
    pub carried_encoded : {g : Fresh} {m : Option More} {r : State} → cs ≡ trail Γ (folded w.typ 0) (opening ops args w) ++ tip Γ w.fresh m → n ≡ g.added → Carried Γ ops args s (ending w g) m r
        → Encoded r (codess Γ G.result)
    carried_encoded {r = r} ec en C =
        subst (Encoded r) (sym (G.is ∙ rw (ec, en))) (C.coded G.before G.behind w.fresh grafts_encoded G.place d.site.fresh)

    -- its nodes
    pub grafts_nodes : sizes G.result ≡ s.nodes + n
    grafts_nodes = omega (arith, G.sized, d.holds.count)

-- ONE STEP MORE

-- the walk before it is refused
pub last_refused : {Γ ts : List ℕ} (e : Elem) {E : Forest} → Fits Γ ts E → (q : Spot) → q.local < length ts → {n : ℕ}
    → ((act : Tree → Answer Tree) → walk Γ act q.place (pick q.local E) ≡ refused n) → last_step Γ e q E ≡ refused n
unfolding last_step
last_refused {Γ} e fits q known r = rw (nth_refused fits q.local known (walk Γ (acts Γ e) q.place) (r (acts Γ e)))

-- a match arm's
pub last_cast : (Γ : List ℕ) (q : Spot) (v : ℕ) (E : Forest) → last_step Γ (elem_of 3 v) q E ≡ downcasting Γ q v E
unfolding last_step downcasting cast_at
last_cast Γ q v E = rw (acts_cast Γ v)

-- an unfold's
pub last_unfold : (Γ locals : List ℕ) (q : Spot) (E : Forest) → last_step Γ (elem_of 16 0) q E ≡ carrying Γ locals Unfold q E
unfolding last_step carrying carry_at carry statement_at
last_unfold Γ locals q E = rw (acts_open Γ 0)

-- the same answer
pub moves_same : {Γ locals : List ℕ} {s : State} {a b : Answer Forest} {r : Moved} → a ≡ b → Moves Γ locals s a r → Moves Γ locals s b r
moves_same {Γ} {locals} {s} {r = r} e m = subst (λ (x : Answer Forest). Moves Γ locals s x r) e m

module _ (Γ : List ℕ) where
  -- it keeps the type
  acts_fit : (e : Elem) → Keeps Γ (acts Γ e)
  unfolding acts
  acts_fit deref = enter_fit Γ deref
  acts_fit (field i) = enter_fit Γ (field i)
  acts_fit (downcast v) = enter_fit Γ (downcast v)
  acts_fit index = opening_fit Γ

  -- and, where it stays at its node, the levels
  acts_levels : (e : Elem) → distance e ≡ 0 → (p : Place) → steps p ≤ 63 → Deep levels (walk Γ (acts Γ e) p)
  unfolding acts carry
  acts_levels deref n p l = absurd (omega arith)
  acts_levels (field i) n p l = absurd (omega arith)
  acts_levels (downcast v) n p l = cast_levels Γ v p l
  acts_levels index n p l = carry_levels Γ (record { verb = Unfold; place = p; told = dash }) l

module _ {Γ ops args : List ℕ} {s : State} {w : Walk} (h : Typed Γ) (d : Sited Γ s ops args w) (z : get_or s.forms w.node 0 ≡ 0) (m : More) (stays : Staying m) where
  -- the walk's open nodes end at a folded one
  folded_here : d.site.passing.midway.tree ≡ leaf w.typ
  folded_here = coded_folded h.known d.site.passing.midway.here z

  -- the step is refused
  pub grow_barred : {n : Refusal} → grows Γ w.fresh (element m) ≡ Err n → last_step Γ (element m) d.spot d.state ≡ refused (number n)
  unfolding last_step
  grow_barred e =
      rw (nth_refused d.holds.trees.fits d.spot.local d.known (walk Γ (acts Γ (element m)) d.spot.place) (site_barred h d.is d.site folded_here m stays e))

  module _ {g : Fresh} (e : grows Γ w.fresh (element m) ≡ Ok g) where
    -- it leads to g
    grow_grafts : Grafts Γ (acts Γ (element m)) d.spot.local d.spot.place d.state w.node
        (trail Γ (folded w.typ 0) (opening ops args w) ++ tip Γ w.fresh (Some m)) g.added
    grow_grafts = among_grafted d.holds.trees.fits d.spot.local d.known (site_last h d.is d.site folded_here m stays e)

    -- there is no room for it
    pub grow_full : 512 < s.nodes + g.added → last_step Γ (element m) d.spot d.state ≡ refused 9
    unfolding last_step
    grow_full l = rw grow_grafts.walks (fitting_full Γ grow_grafts.result (omega (arith, grafts_nodes h d grow_grafts)))

    module _ (room : s.nodes + g.added ≤ 512) where
      -- there is room
      grow_fits : last_step Γ (element m) d.spot d.state ≡ done grow_grafts.result
      unfolding last_step
      grow_fits = rw grow_grafts.walks (fitting_fits Γ grow_grafts.result (omega (arith, grafts_nodes h d grow_grafts)))

      -- a state that has its codes is held
      grow_holds : unfold_ok (length d.locals) d.spot ≡ true → {r : State} → Carried Γ ops args s (ending w g) (Some m) r → Holds Γ d.locals (value r) grow_grafts.result
      unfolding unfold_ok
      grow_holds k C =
          let G = grow_grafts in
          let q : Spot = d.spot in
          let L : Limited 63 (length d.locals) q = spot_limited (length d.locals) q 63 k in
          let f = walk Γ (acts Γ (element m)) q.place in
          encoded_holds (carried_encoded h d G refl refl C)
          (good_at (nth_fit Γ (walk_fit Γ (acts_fit Γ (element m)) q.place) q.local d.holds.trees.fits) G.walks)
          (good_at (nth_levels f (acts_levels Γ (element m) stays q.place L.near) q.local d.state d.holds.deep) G.walks)

      -- it can be carried out, and is
      pub grow_widens : unfold_ok (length d.locals) d.spot ≡ true → Widens Γ d.locals ops args s m (last_step Γ (element m) d.spot d.state) (ending w g)
      grow_widens k =
          record {
            opens = sited_opens h d grow_grafts e room;
            fine = ap granted grow_fits;
            gives = λ r C. moves_done grow_fits (grow_holds k C);
          }

module _ {Γ ops args : List ℕ} {s : State} {w : Walk} (h : Typed Γ) (d : Sited Γ s ops args w) (e : Elem) (n : get_or s.forms w.node 0 ≡ 0 → ⊥) where
  -- the walk's open nodes end at an open one
  open_here : Stands Γ d.spot.local d.spot.place d.state w.node d.site.passing.midway.tree
  open_here = among_stays d.holds.trees.fits d.spot.local d.known (site_stays h d.is d.site (sited_open h d n))

  -- there the state stays as it is
  pub stay_moves : acts Γ e d.site.passing.midway.tree ≡ done d.site.passing.midway.tree
      → Moves Γ d.locals s (last_step Γ e d.spot d.state) (moved (Ok tt) s)
  unfolding last_step
  stay_moves k = moves_done (rw (open_here.leads (acts Γ e), k, open_here.whole) (fitting_fits Γ d.state (holds_few d.holds))) d.holds

  -- or the step is refused
  pub stay_barred : {m : ℕ} → acts Γ e d.site.passing.midway.tree ≡ refused m → last_step Γ e d.spot d.state ≡ refused m
  unfolding last_step
  stay_barred k = rw (open_here.leads (acts Γ e), k)
