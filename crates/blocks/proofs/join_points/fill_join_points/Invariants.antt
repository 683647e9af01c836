-- `blocks::join_points::fill_join_points` meets its contract: the blocks before b have their share's number, those from b on their count
-- of incoming target items. Assumes nothing.
use mathlib.Core.Path.{◌≡◌}
use mathlib.Core.List.{List}
use Prim.Native.Nat.{ℕ, ◌≤◌, ◌<◌}
use lib.ListN.{get_or}
use Rattle.model.specs.Words.{count_below}
use Rattle.model.specs.Function.{nblocks}
use Rattle.model.specs.Block.{incoming, is_join_point}
use Rattle.blocks.specs.Points.{share_number}
use Rattle.blocks.proofs.join_points.fill_join_points.Given as goal

-- the blocks before b are numbered, k join points so far
pub record Numbered (fn points : List ℕ) (k b : ℕ) : Type 0 where
  pub so_far : k ≡ count_below (is_join_point fn) b
  pub done : (c : ℕ) → c < b → get_or points c 0 ≡ share_number fn c
  pub ahead : (c : ℕ) → b ≤ c → c < nblocks fn → get_or points c 0 ≡ incoming fn c

abbrev pub invariant-loop-b : goal.invariant-loop-b
invariant-loop-b l = Numbered l.fun.words.now l.points l.k l.b
