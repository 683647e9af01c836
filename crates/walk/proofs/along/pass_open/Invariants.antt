-- `walk::along::pass_open` meets its contract. The loop's invariant: open nodes lead from the tree at the start to the one at `here`. Assumes nothing.
use mathlib.Core.List.{List}
use Prim.Native.Nat.{ℕ, ◌≤◌}
use Rattle.model.specs.Tree.{Tree}
use Rattle.records.specs.Here.{Coded}
use Rattle.walk.specs.Site.{extent, Midway}
use Rattle.walk.proofs.along.pass_open.Given as goal

-- where the walk has come to
pub record Turn (Γ fs ws ops args : List ℕ) (node typ at i t : ℕ) : Type 0 where
  pub least : 1 ≤ at
  pub most : at ≤ extent ops args
  pub midway : (x : Tree) → Coded Γ fs ws node typ x → Midway Γ fs ws ops args node x at i t

abbrev pub invariant-loop-at : goal.invariant-loop-at
invariant-loop-at l = Turn l.types.words.now l.forms l.whats l.ops l.args l.node l.typ l.at l.here.node l.here.typ
