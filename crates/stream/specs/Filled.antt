-- Words read into a lent array.
use Rattle.std.specs.Prelude.{◌≡◌, List, ℕ, ◌≤◌, length}

-- the array, as long as it was, has n words at least
abbrev pub Filled : (words : List ℕ) → ℕ → (words' : List ℕ) → Type 0
Filled words n words' = (n ≤ length words') × (length words' ≡ length words)
