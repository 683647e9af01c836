-- The replay of a record over any states, by a player that says how one block is replayed: what the proofs of demand 3 speak
-- of. The concrete replay (model's Replay) is one of these.
use mathlib.Core.List.{List, [], ◌∷◌}
use Rattle.std.proofs.Math.Option.{none, some}
use Prim.Native.Nat.{ℕ}
use Rattle.model.specs.Answer.{Answer, refused, done, ◌>>=◌}
use Rattle.model.specs.Frame.{Line, Frame, carries}
use Rattle.model.specs.Replay.{at_point, find}
use Rattle.solver.specs.Lists.{Has}

-- how one block is replayed, by the statements at each of its points
pub record Player (Env Stmt : Type 0) : Type 1 where
  pub through : ℕ → (ℕ → List Stmt) → Env → Answer Env  -- from the block's start up to its ender's targets
  pub depart : ℕ → ℕ → Env → Answer Env  -- the own unfolding of one of its target items
  pub Fine : ℕ → (ℕ → List Stmt) → Env → Type 0  -- what is claimed of the block, entered in this state

module _ {Env Stmt : Type 0} (F : Frame Env Stmt) (R : Player Env Stmt) (lines : List (Line Stmt)) where
  -- the statements at a point
  abbrev pub script : ℕ → List Stmt
  script p = at_point p lines

  -- a jump from the end of the block b: the target's own unfolding, then the item's statements
  unfoldable pub jump : ℕ → ℕ → Env → Answer Env
  jump b i M = R.depart b i M >>= carries F (script i)

  -- from the start of the block b in the state E: the last block, and the state at its start. (0: no listed edge)
  unfoldable pub play : List ℕ → ℕ → Env → Answer (ℕ × Env)
  play [] b E = R.through b script E >>= λ M. done (b, E)
  play (i ∷ is) b E = elim (find i (F.targets b)) [
    | none ↦ refused 0
    | some c ↦ R.through b script E >>= λ M. jump b i M >>= λ D. play is c D
  ]

  -- from the entry, E: all folded
  unfoldable pub replay : List ℕ → Env → Answer (ℕ × Env)
  replay is E = carries F (script F.entry) E >>= play is 0

-- a list of jumps, each along a listed edge of the block where the last one ended
pub data Path {Env Stmt : Type 0} (F : Frame Env Stmt) : ℕ → List ℕ → ℕ → Type 0 where
  path_end : {b : ℕ} → Path F b [] b
  path_on : {b i c d : ℕ} {is : List ℕ} → Has (i, c) (F.targets b) → Path F c is d → Path F b (i ∷ is) d
