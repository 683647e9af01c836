-- Demand 3 of the whole analysis: after an accepted first pass the second is accepted, and along every list of jumps the replay
-- of what is recorded meets no refusal and comes to one state at a block's start.
use Rattle.std.specs.Prelude.{◌≡◌, List, ℕ}
use Rattle.std.proofs.Math.Option.{Option}
use Rattle.model.specs.Answer.{done}
use Rattle.model.specs.Frame.{Line, Frame}
use Rattle.model.specs.Passes.{Log, Found}
use Rattle.solver.specs.Player.{Player, script, replay, Path}
use Rattle.solver.specs.Laws.{Good, Lawful}
use Rattle.solver.specs.Solution.{Solution}
use Rattle.solver.specs.Elaborate.{Elaborated}
use Rattle.solver.specs.Canon.{At}

-- DEMAND 3, one claim over all lists of jumps. E: all folded
pub record Demand {Env Stmt : Type 0} (F : Frame Env Stmt) (R : Player Env Stmt) (E : Env) (ls : List (Line Stmt)) : Type 0 where
  -- the replay meets no refusal, comes to the block where the list ends, and each place used there is fine
  pub works : {is : List ℕ} {b : ℕ} → Path F 0 is b → (D : Env) × (replay F R ls is E ≡ done (b, D)) × R.Fine b (script F R ls) D
  -- two lists that end in one block come to one state at its start
  pub agrees : {is js : List ℕ} {b : ℕ} → Path F 0 is b → Path F 0 js b → replay F R ls is E ≡ replay F R ls js E

-- where the replay of a list of jumps ends, and in what state: the canonical one
pub record Replays {Env Stmt : Type 0} (F : Frame Env Stmt) (R : Player Env Stmt) (kept : ℕ → Option Env) (E₀ E : Env) (ls : List (Line Stmt)) (is : List ℕ) (b : ℕ) : Type 0 where
  pub state : Env
  pub replays : replay F R ls is E ≡ done (b, state)
  pub fine : R.Fine b (script F R ls) state
  pub canon : At F kept E₀ b state

module _ {Env Stmt : Type 0} (F : Frame Env Stmt) (Ok : Env → Type 0) (owner : ℕ → ℕ) (R : Player Env Stmt) (H : Lawful F Ok owner R)
    (ts : List Stmt) (E₀ : Env) (good : Good F Ok E₀) where
  -- what acceptance gives
  pub record Made (r : Found Env Stmt) : Type 0 where
    pub log : Log Stmt
    pub solution : Solution F Ok E₀ r.kept
    pub elaborated : Elaborated F r.kept ts E₀ log
    pub lines : log.lines ≡ r.lines
