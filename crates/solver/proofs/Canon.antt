-- Canon, continued from specs/Canon: theorems that rest on others.
use Rattle.std.specs.Prelude.{◌≡◌, ℕ}
use Rattle.std.proofs.Math.Option.{Option}
use Rattle.model.specs.Frame.{Frame, visit, opening_exit, opening}
use Rattle.solver.specs.Laws.{Bodies, Edges, Points}
use Rattle.solver.specs.Outcome.{Calm, calm_inner, Through, goto_calm_on, work_calm}
use Rattle.solver.specs.Solution.{Covered, Solution}
use Rattle.solver.specs.Fuel.{Rooted}
use Rattle.solver.proofs.Fuel.{visit_step}
use Rattle.solver.specs.Canon.{At, at_join, at_on, at_rooted, at_start}

module _ {Env Stmt : Type 0} (F : Frame Env Stmt) {Ok : Env → Type 0} (B : Bodies F Ok) (G : Edges F) {owner : ℕ → ℕ} (N : Points F owner)
    (kept : ℕ → Option Env) (E₀ : Env) where
  module _ (X : Solution F Ok E₀ kept) where
    -- where a visit is calm, the block's own run is accepted and its jumps are calm
    calm_through : {b : ℕ} {E : Env} → Rooted F b → Calm (Covered F Ok kept) (visit F b E) → Through F (Covered F Ok kept) (visit F) (F.body b E)
    calm_through {b} {E} R k = work_calm F (visit F) (F.body b E) (calm_inner (rw (visit_step F B G E R) at k))

    -- a visit from it is not refused, and each arrival is covered
    pub at_calm : {b : ℕ} {E : Env} → At F kept E₀ b E → Calm (Covered F Ok kept) (visit F b E)
    unfolding opening
    at_calm (at_join {b} {S} j p) = X.visits b S p
    at_calm (at_start j p q) = rw (p, q) (goto_calm_on F (visit F) (opening_exit F E₀) X.opens (rw p at j))
    at_calm (at_on {b} {i} {c} {D} {E} {w} A e h k) =
        let T = calm_through (at_rooted F B G N kept E₀ X A) (at_calm A) in
        let q : w ≡ T.worked = cc T.given in
        goto_calm_on F (visit F) (record { item = i; block = c; state = E }) (T.jumps (rw q at h)) k

    -- the block's own run, from its canonical state
    pub at_through : {b : ℕ} {E : Env} → At F kept E₀ b E → Through F (Covered F Ok kept) (visit F) (F.body b E)
    at_through A = calm_through (at_rooted F B G N kept E₀ X A) (at_calm A)
