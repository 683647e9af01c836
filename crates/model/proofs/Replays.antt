-- The replay of the worked example's record: along both ways to block 3 it comes to one state, and the place used in block 0 is,
-- at its point, walked without change to a folded node.
use mathlib.Core.Path.{◌≡◌, refl}
use mathlib.Core.List.{List, [], ◌∷◌}
use mathlib.Core.Option.{Option, none, some}
use Prim.Native.Nat.{ℕ}
use native.Mathlib.Omega.{arith}
use Rattle.model.specs.Answer.{done}
use Rattle.model.specs.Tree.{Forest, leaf, node, nil, more}
use Rattle.model.specs.Place.{Spot, field}
use Rattle.model.specs.Block.{stations}
use Rattle.model.specs.Replay.{Quiet, Fine, fine_end, fine_on, script, replay}
use Rattle.model.proofs.Computed.{computed}
use Rattle.model.proofs.Worked.{types, function}

abbrev words : List ℕ
words = 3 ∷ 9 ∷ 13 ∷ 16 ∷ 0 ∷ 13 ∷ 15 ∷ 0 ∷ 13 ∷ 16 ∷ 0 ∷ 2 ∷ 0 ∷ 1 ∷ 8 ∷ 0 ∷ 1 ∷ 9 ∷ 0 ∷ 1 ∷ []

abbrev all_folded : Forest
all_folded = more (leaf 0) (more (leaf 1) nil)

abbrev unfolded : Forest
unfolded = more (leaf 0) (more (node 1 0 (more (leaf 0) (more (leaf 0) nil))) nil)

-- no jump; by block 1; by block 2
no_jump : replay types function words [] ≡ done (0, all_folded)
unfolding computed
no_jump = refl

by_1 : replay types function words (5 ∷ 9 ∷ []) ≡ done (3, unfolded)
unfolding computed
by_1 = refl

by_2 : replay types function words (6 ∷ 10 ∷ []) ≡ done (3, unfolded)
unfolding computed
by_2 = refl

-- the place used at item 2 is _1.0, and item 3 is a switch on a constant
abbrev used : Spot
used = record { local = 1; place = field 0 ∷ [] }

used_quiet : Quiet types used unfolded
unfolding computed
used_quiet = record { walks = refl; unchanged = refl; folded = refl }

-- what is used there, and no more
only_used : (q : Spot) → some used ≡ some q → Quiet types q unfolded
unfolding computed
only_used q e = let z : used ≡ q = cc in rw (← z) used_quiet

no_place : (q : Spot) → ◌≡◌ {A = Option Spot} none (some q) → Quiet types q unfolded
no_place q e = let z : ◌≡◌ {A = ℕ} 0 1 = cc in absurd (omega arith)

block_0 : Fine types (script types function words) (stations function 0) all_folded
unfolding computed
block_0 = fine_on {D = unfolded} refl only_used (fine_on {D = unfolded} refl no_place fine_end)
