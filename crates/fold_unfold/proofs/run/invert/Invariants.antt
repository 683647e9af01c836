-- `fold_unfold::run::invert` meets its contract. The loop's invariant: the ranks of the blocks before b have their blocks.
use mathlib.Core.Path.{◌≡◌}
use mathlib.Core.List.{List}
use Prim.Native.Nat.{ℕ, ◌<◌}
use Rattle.model.specs.Words.{word}
use Rattle.model.specs.Function.{rank}
use Rattle.fold_unfold.proofs.run.invert.Given as goal

-- the ranks of the first b blocks have their blocks
abbrev pub Named : (ℕ → ℕ) → List ℕ → ℕ → Type 0
Named r blocks b = (c : ℕ) → c < b → word blocks (r c) ≡ c

abbrev pub invariant-loop-b : goal.invariant-loop-b
invariant-loop-b l = Named (rank l.fun.words.now) l.blocks l.b
