-- Refusals, continued from specs/Refusals: theorems that rest on others.
use Rattle.std.specs.Prelude.{◌≡◌}
use Rattle.std.proofs.Math.Path.{subst}
use mathlib.Core.List.{List}
use Prim.Native.Nat.{ℕ, ◌<◌}
use Rattle.model.specs.Answer.{refused}
use Rattle.model.specs.Rounds.{broke, lowest}
use Rattle.model.specs.Frame.{Frame, visit, opening_exit, opening}
use Rattle.model.specs.Passes.{Store, empty, unwait, take_in, round, solve, infer, analyse}
use Rattle.base.specs.Tests.{split_option, clash}
use Rattle.base.specs.Answer.{split_answer}
use Rattle.solver.specs.Loop.{run_refused}
use Rattle.solver.specs.Lowest.{lowest_some}
use Rattle.solver.specs.Laws.{Good, Lattice, Bodies, Collects, Edges}
use Rattle.solver.specs.Solution.{Partial, partial_falls, partial_opens, infer_solves}
use Rattle.solver.specs.Fuel.{Root, root_join, root_start, root_below}
use Rattle.solver.proofs.Fuel.{root_deep}
use Rattle.solver.proofs.Elaborate.{elaborate_works}
use Rattle.solver.specs.Refusals.{Stops, enter_stops, goto_stops, take_refused}

-- Q: what is shown of every refusal's number
module _ {Env Stmt : Type 0} (F : Frame Env Stmt) {Ok : Env → Type 0} (B : Bodies F Ok) (G : Edges F) (Q : ℕ → Type 0)
    (full : Q 9) (own_run : (b : ℕ) (E : Env) (r : ℕ) → b < F.blocks → Good F Ok E → F.body b E ≡ refused r → Q r) where
  -- a visit
  visit_stops : {b : ℕ} (E : Env) → Root F b → Good F Ok E → Stops F B G Q full own_run (visit F b E)
  unfolding visit
  visit_stops {b} E r g = enter_stops F B G Q full own_run F.blocks b E (root_deep F G r) (root_below F G r) g

  -- the opening
  opening_stops : (E : Env) → Good F Ok E → Stops F B G Q full own_run (opening F E)
  unfolding opening
  opening_stops E g = goto_stops F B G Q full own_run (visit F) (opening_exit F E) (λ e. visit_stops E root_start g)

  module _ (L : Lattice F Ok) where
    -- a round is refused as the visit of a stored block is
    round_refused : {E : Env} (s : Store Env) (r : ℕ) → Partial F Ok E s → round F s ≡ broke r → Q r
    unfolding round
    round_refused s r I e = split_option (lowest F.rank s.waits F.blocks)
        (λ p. clash (cc))
        (λ b p.
        let w = lowest_some F.rank s.waits F.blocks b p in
        let (S, q) = I.sound.known b w.1 in
        split_answer (take_in F (visit F b S) (unwait b s))
        (λ k d. let z : k ≡ r = cc in subst Q z (take_refused F B G Q full own_run (unwait b s) k (visit_stops S (root_join (I.placed b S q).joins w.0) (I.sound.fine b S q)) d))
        (λ t d. clash (cc)))

    -- the first pass
    pub infer_refused : {E : Env} {r : ℕ} → Good F Ok E → infer F E ≡ refused r → Q r
    unfolding infer solve
    infer_refused {E} {r} g e = split_answer (take_in F (opening F E) empty)
        (λ k d. let q : k ≡ r = cc in subst Q q (take_refused F B G Q full own_run empty k (opening_stops E g) d))
        (λ s d. run_refused (round F) (partial_falls F Ok L B G E) round_refused s r (partial_opens F Ok L B G g d) (cc))

    -- and so the whole, since the second is not refused
    pub analyse_refused : (C : Collects F Ok) (ts : List Stmt) {E : Env} {r : ℕ} → Good F Ok E → analyse F ts E ≡ refused r → Q r
    unfolding analyse
    analyse_refused C ts {E} {r} g e = split_answer (infer F E)
        (λ k d. let q : k ≡ r = cc in subst Q q (infer_refused g d))
        (λ s d.
        let (h, k, K) = elaborate_works F Ok B C s.kept ts E (infer_solves F Ok L B G g d) in
        clash (cc))
