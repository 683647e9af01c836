-- `blocks::matching::switch_of` meets its contract: the block's first switch is the first from i on. Assumes nothing.
use mathlib.Core.Path.{◌≡◌}
use mathlib.Core.List.{List}
use mathlib.Core.Option.{Option}
use Prim.Native.Nat.{ℕ, ◌-◌}
use lib.Dec.{eqb}
use Rattle.model.specs.Words.{collect_from}
use Rattle.model.specs.Function.{op}
use Rattle.blocks.specs.Points.{switch_item}
use Rattle.blocks.proofs.Points.{first}
use Rattle.blocks.proofs.matching.switch_of.Given as goal

-- the first switch from i on, before t
abbrev pub switch_from : List ℕ → ℕ → ℕ → Option ℕ
switch_from fn t i = first (collect_from (λ x. eqb (op fn x) 8) (λ x. x) (t - i) i)

abbrev pub invariant-loop-i : goal.invariant-loop-i
invariant-loop-i l = switch_item l.fun.words.now l.b ≡ switch_from l.fun.words.now l.i-end l.i
