-- `blocks::place::is_place` meets its contract: the items are a place if those from j on are elements. Assumes nothing.
use mathlib.Core.Path.{◌≡◌}
use mathlib.Core.Bool.{Bool}
use mathlib.Core.List.{List}
use Prim.Native.Nat.{ℕ}
use lib.ListN.{drop}
use Rattle.model.specs.Calls.{elems_of, spot_of}
use Rattle.mir.specs.Parts.{is_some}
use Rattle.blocks.proofs.place.is_place.Given as goal

-- are the items from j on elements?
abbrev pub rest : List ℕ → List ℕ → ℕ → Bool
rest ops args j = is_some (elems_of (drop j ops) (drop j args))

abbrev pub invariant-loop-j : goal.invariant-loop-j
invariant-loop-j l = is_some (spot_of l.ops l.args) ≡ rest l.ops l.args l.j
