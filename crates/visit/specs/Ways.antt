-- The way of blocks that a visit has entered at once. No block comes twice on it (crate solver, `way_once`), so the blocks that it has
-- not entered are a number that falls with each block entered.
use Rattle.std.specs.Prelude.{List, ◌∷◌, ℕ, ◌≤◌, ◌<◌}
use Rattle.model.specs.Rounds.{left}
use Rattle.model.specs.Function.{nblocks, nitems}
use Rattle.model.specs.Block.{targets}
use Rattle.model.specs.Body.{frame}
use Rattle.solver.specs.Lists.{Has}
use Rattle.solver.specs.Fuel as Fuel
use Rattle.visit.specs.declared.block.Way.{Way}
use Rattle.arrival.specs.declared.jump.Jump.{Jump}

-- a way has come to the block of w, and all but w.left of the blocks are on it
pub record Come (Γ fn : List ℕ) (w : Way) : Type 0 where
  pub known : w.block < nblocks fn
  pub before : List ℕ
  pub way : Fuel.Way (frame Γ fn) w.block before
  pub rest : left (nblocks fn) (w.block ∷ before) ≤ w.left

-- the last block of a way is left by the jump j
pub record Leaps (Γ fn : List ℕ) (j : Jump) : Type 0 where
  pub item : j.item < nitems fn
  pub known : j.block < nblocks fn
  pub from : ℕ
  pub before : List ℕ
  pub way : Fuel.Way (frame Γ fn) from before
  pub aims : Has (j.item, j.block) (targets fn from)
  pub rest : left (nblocks fn) (from ∷ before) ≤ j.left

-- there is a first item, and a start block
abbrev pub Beginning : List ℕ → Type 0
Beginning fn = (0 < nitems fn) × (0 < nblocks fn)
