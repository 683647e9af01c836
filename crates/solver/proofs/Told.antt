-- Told, continued from specs/Told: theorems that rest on others.
use Rattle.std.specs.Prelude.{◌≡◌, ℕ}
use Rattle.std.proofs.Math.Path.{refl}
use Rattle.std.proofs.Math.Option.{Option}
use Rattle.model.specs.Answer.{done}
use Rattle.model.specs.Frame.{Frame, Outcome}
use Rattle.model.specs.Passes.{absorb, Log, hear, arrived, take_down}
use Rattle.solver.specs.Laws.{Collects}
use Rattle.solver.specs.Outcome.{every_into, Calm, calm_over, calm_into, calm_say, calm_meet}
use Rattle.solver.specs.Solution.{Covered}
use Rattle.solver.specs.Told.{Told, arrive_gives, gives, tell, told_meet, told_over, told_say}

module _ {Env Stmt : Type 0} (F : Frame Env Stmt) (Ok : Env → Type 0) (C : Collects F Ok) (kept : ℕ → Option Env) where
  -- an outcome whose arrivals are covered is taken down
  pub take_gives : (g : Log Stmt) {o : Outcome Env Stmt} → Calm (Covered F Ok kept) o
      → (h : Log Stmt) × (take_down F kept o g ≡ done h) × Told F kept g o h
  unfolding take_down absorb tell
  take_gives g calm_over = (g, refl, told_over F Ok C kept g)
  take_gives g (calm_into k) = let (h, e, T) = take_gives g k in
      (h, e, record { same = T.same; recorded = T.recorded; waits_on = T.waits_on; waits_new = T.waits_new; heard = every_into T.heard })
  take_gives g (calm_say {l} {o} k) = let (h, e, T) = take_gives (hear F kept l g) k in (h, e, told_say F Ok C kept T)
  take_gives g (calm_meet {x} {o} D k) = let (h, e, T) = take_gives (arrived F kept x (gives F kept x) g) k in
      (h, cc (arrive_gives F Ok C kept x g D), told_meet F Ok C kept D T)
