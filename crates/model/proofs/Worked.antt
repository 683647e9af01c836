-- Document 01's worked example, whole: what `ghosts` prints, and what the whole-function call leaves in all that it is lent.
use mathlib.Core.Path.{◌≡◌, refl}
use mathlib.Core.List.{List, [], ◌∷◌}
use Prim.Native.Nat.{ℕ}
use lib.ListN.{replicate}
use Rattle.model.specs.Answer.{done}
use Rattle.model.specs.Whole.{whole}
use Rattle.model.specs.Ghosts.{ghosts}
use Rattle.model.proofs.Build.{bytes}
use Rattle.model.proofs.Computed.{computed}

printed : ghosts (bytes "2 2 0 6 0 2 0 0\n2 1 4 12 0 1 0 7 10 11 0 1 2 3 0 2 5 8 9 10 10 0 5 10 10 11 1 0 0 0 0 1 2 1 0 3 3 0\n")
    ≡ bytes "at 2 unfold _1 0\nat 8 fold _1\nat 9 unfold _1 -\n"
unfolding computed
printed = refl

abbrev pub types : List ℕ
types = 2 ∷ 2 ∷ 0 ∷ 6 ∷ 0 ∷ 2 ∷ 0 ∷ 0 ∷ []

abbrev pub function : List ℕ
function =
    2 ∷ 1 ∷ 4 ∷ 12
    ∷ 0 ∷ 1
    ∷ 0 ∷ 7 ∷ 10 ∷ 11 ∷ 0 ∷ 1 ∷ 2 ∷ 3
    ∷ 0 ∷ 2 ∷ 5 ∷ 8 ∷ 9 ∷ 10 ∷ 10 ∷ 0 ∷ 5 ∷ 10 ∷ 10 ∷ 11
    ∷ 1 ∷ 0 ∷ 0 ∷ 0 ∷ 0 ∷ 1 ∷ 2 ∷ 1 ∷ 0 ∷ 3 ∷ 3 ∷ 0 ∷ []

-- one join point, block 3: its share holds the return place and _1 unfolded; each array here has one entry more than its share
left_behind : whole types function 513 513 21 ≡ record {
  answer = done (3, 9);
  forms = 0 ∷ 2 ∷ replicate 511 0;
  whats = replicate 513 0;
  out = 3 ∷ 9 ∷ 13 ∷ 16 ∷ 0 ∷ 13 ∷ 15 ∷ 0 ∷ 13 ∷ 16 ∷ 0 ∷ 2 ∷ 0 ∷ 1 ∷ 8 ∷ 0 ∷ 1 ∷ 9 ∷ 0 ∷ 1 ∷ 0 ∷ [];
}
unfolding computed
left_behind = refl
