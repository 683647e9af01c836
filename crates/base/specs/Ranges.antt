-- Bounds that contracts ask for. Nothing of any record or tree.
use Rattle.std.specs.Prelude.{List, ℕ, ◌≤◌, ◌<◌, length}

-- from a up to b, within n
abbrev pub Range : ℕ → ℕ → ℕ → Type 0
Range a b n = (a ≤ b) × (b ≤ n)

-- both lists have n elements at least
abbrev pub BothLong : ℕ → List ℕ → List ℕ → Type 0
BothLong n l r = (n ≤ length l) × (n ≤ length r)

-- both lists have an element i
abbrev pub BothHave : ℕ → List ℕ → List ℕ → Type 0
BothHave i l r = (i < length l) × (i < length r)
