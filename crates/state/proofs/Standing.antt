-- A tree that stands in a state's arrays: its node has a word in both.
use mathlib.Core.List.{List}
use Prim.Native.Nat.{ℕ, ◌<◌}
use native.Mathlib.Omega.{arith}
use lib.ListN.{length}
use Rattle.records.specs.Codes.{size_pos}
use Rattle.records.specs.Coded.{coded_in_forms, coded_in_whats}
use Rattle.records.specs.Here.{Here}

-- a tree's node is in both arrays
pub node_in : {Γ fs ws : List ℕ} {i t : ℕ} → Here Γ fs ws i t → (i < length fs) × (i < length ws)
node_in h = (omega (arith, coded_in_forms h.coded, size_pos h.tree), omega (arith, coded_in_whats h.coded, size_pos h.tree))
