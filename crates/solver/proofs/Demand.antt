-- Demand, continued from specs/Demand: theorems that rest on others.
use Rattle.std.specs.Prelude.{◌≡◌}
use Rattle.std.proofs.Math.Path.{refl, ap, subst}
use Rattle.std.proofs.Common.{◌∙◌}
use mathlib.Core.List.{List}
use Rattle.std.proofs.Math.Option.{Option, some}
use Prim.Native.Nat.{ℕ, ◌<◌}
use Rattle.model.specs.Answer.{done}
use Rattle.model.specs.Frame.{Line, Exit, Work, Frame, target, goto, visit, opening_exit, opening, carries, mark}
use Rattle.model.specs.Passes.{Log}
use Rattle.model.specs.Replay.{at_point}
use Rattle.base.specs.Tests.{split}
use Rattle.base.specs.Each.{Each, each_none, each_more, each_append}
use Rattle.solver.specs.Lists.{has_image}
use Rattle.solver.specs.Player.{Player, script, jump, play, Path, path_end, path_on}
use Rattle.solver.specs.Laws.{Good, Bodies, Collects, Edges, Points, Follows}
use Rattle.solver.specs.Outcome.{Calm, goto_calm_join, goto_calm_on}
use Rattle.solver.specs.Solution.{Solution}
use Rattle.solver.specs.Told.{tell, stored_visit, story}
use Rattle.solver.specs.Elaborate.{Elaborated}
use Rattle.solver.specs.Canon.{At, at_start, at_on}
use Rattle.solver.proofs.Canon.{at_through}
use Rattle.solver.specs.Count.{hop}
use Rattle.solver.specs.Demand.{Comes, Lands, Passed, at_good, carries_append, entry_script, gives_each, has_find, hop_lands, script_inside, script_item, visit_each}

-- and so of each line of the whole record
module _ {Env Stmt : Type 0} (F : Frame Env Stmt) {Ok : Env → Type 0} (B : Bodies F Ok) (G : Edges F) (kept : ℕ → Option Env) (Q : Line Stmt → Type 0)
    (own : (b : ℕ) (E : Env) (w : Work Env Stmt) → b < F.blocks → F.body b E ≡ done w → Each Q w.lines)
    (collected : (i : ℕ) (E S : Env) (ts : List Stmt) → F.collect E S ≡ done ts → Each Q (mark i ts)) where
  -- in a visit
  visits_each : {P : Exit Env → Type 0} (b : ℕ) (E : Env) → b < F.blocks → Calm P (visit F b E) → Each Q (tell F kept (visit F b E))
  visits_each {P} b E m = visit_each F B G kept Q own (λ c y l h. gives_each F B G kept Q own collected y.item y) P b E m

  module _ (ts : List Stmt) {E₀ : Env} (S : Solution F Ok E₀ kept) (first : Each Q (mark F.entry ts)) where
    -- in the opening
    opening_each : Each Q (tell F kept (opening F E₀))
    unfolding opening goto tell
    opening_each = split (F.join_point 0)
        (λ e. rw (e, goto) (each_append (gives_each F B G kept Q own collected F.entry (opening_exit F E₀)) each_none))
        (λ e. rw (e, goto) (visits_each 0 E₀ G.some_block (goto_calm_on F (visit F) (opening_exit F E₀) S.opens e)))

    pub story_each : {bs : List ℕ} → Each (λ b. (T : Env) × (kept b ≡ some T)) bs → Each Q (story F kept ts E₀ bs)
    unfolding story stored_visit
    story_each each_none = each_append first opening_each
    story_each (each_more {a = b} s ss) = each_append (story_each ss) (rw (s.1, stored_visit) (visits_each b s.0 (S.placed b s.0 s.1).below (S.visits b s.0 s.1)))

module _ {Env Stmt : Type 0} (F : Frame Env Stmt) {Ok : Env → Type 0} (B : Bodies F Ok) (G : Edges F) {owner : ℕ → ℕ} (N : Points F owner)
    (C : Collects F Ok) (R : Player Env Stmt) (W : Follows F Ok owner R)
    (kept : ℕ → Option Env) (ts : List Stmt) (E₀ : Env) (g : Log Stmt)
    (good : Good F Ok E₀) (S : Solution F Ok E₀ kept) (K : Elaborated F kept ts E₀ g) where
  -- the entry
  pub entry_lands : {E : Env} → carries F ts E ≡ done E₀ → Lands F kept E₀ (script F R g.lines F.entry) E 0
  unfolding opening
  entry_lands {E} e =
      let y = opening_exit F E₀ in
      let us = at_point F.entry (hop F kept y) in
      let l = hop_lands F B G N C R W kept ts E₀ g good S K y (λ j. goto_calm_join F (visit F) y S.opens j) (λ j. at_start j refl refl) in
      record { state = l.state; carried = rw (entry_script F B G N C R W kept ts E₀ g good S K) (carries_append F ts us E e ∙ l.carried); canon = l.canon }

  -- each block is passed from its canonical state
  pub at_passed : {b : ℕ} {E : Env} → At F kept E₀ b E → Passed F B G N C R W kept ts E₀ g good S K b E
  unfolding jump
  at_passed {b} {E} A =
      let T = at_through F B G N kept E₀ S A in
      let w = T.worked in
      let e = T.given in
      let Q = W.follows (at_good F B G N C R W kept ts E₀ g good S K A) e (script_inside F B G N C R W kept ts E₀ g good S K A e) in
      record {
        end = Q.end;
        ends = Q.ends;
        fine = Q.fine;
        jumps = λ {i} {c} h.
            let I = has_image target w.exits (rw (← B.listed e) at h) in
            let y = I.from in
            let l = hop_lands F B G N C R W kept ts E₀ g good S K y (λ j. goto_calm_join F (visit F) y (T.jumps I.stands) j) (λ j. at_on A e I.stands j) in
            let p : y.item ≡ i = ap (λ t. t.0) I.goes in
            let q : y.block ≡ c = ap (λ t. t.1) I.goes in
            let d = Q.departs I.stands in
            (l.state, cc (script_item F B G N C R W kept ts E₀ g good S K A e I.stands, l.carried), subst (λ z. At F kept E₀ z l.state) q l.canon);
      }

  -- along a list of jumps the state stays canonical
  pub play_comes : {is : List ℕ} {b d : ℕ} {E : Env} → At F kept E₀ b E → Path F b is d → Comes F B G N C R W kept ts E₀ g good S K is b E d
  unfolding play
  play_comes {E} A path_end =
      let p = at_passed A in
      record { state = E; plays = cc p.ends; canon = A; fine = p.fine }
  play_comes {E} A (path_on {b} {i} {c} h t) =
      let p = at_passed A in
      let (D, j, A') = p.jumps h in
      let k = play_comes A' t in
      record { state = k.state; plays = cc (has_find F (N.once b) h, p.ends, j, k.plays); canon = k.canon; fine = k.fine }
