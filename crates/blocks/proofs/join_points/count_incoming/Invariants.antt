-- `blocks::join_points::count_incoming` meets its contract: the target items before item i are counted. Assumes nothing.
use mathlib.Core.Path.{◌≡◌}
use mathlib.Core.Bool.{Bool, ◌&&◌}
use mathlib.Core.List.{List}
use Prim.Native.Nat.{ℕ, ◌<◌}
use lib.Dec.{eqb}
use lib.ListN.{get_or}
use Rattle.model.specs.Words.{count_below}
use Rattle.model.specs.Function.{nblocks, op, arg}
use Rattle.blocks.proofs.join_points.count_incoming.Given as goal

-- does item i name the block c?
abbrev pub aims : List ℕ → ℕ → ℕ → Bool
aims fn c i = eqb (op fn i) 10 && eqb (arg fn i) c

abbrev pub Counted : List ℕ → List ℕ → ℕ → Type 0
Counted fn counts i = (c : ℕ) → c < nblocks fn → get_or counts c 0 ≡ count_below (aims fn c) i

abbrev pub invariant-loop-i : goal.invariant-loop-i
invariant-loop-i l = Counted l.fun.words.now l.counts l.i
