-- Arrays of 512 made anew, and changed where they stand.
use Rattle.std.specs.Prelude.{◌≡◌, List, ◌++◌, ℕ, ◌+◌, ◌-◌, ◌<◌, ◌≤◌, take, drop, replicate, length}

-- the first n words, then zeros
unfoldable pub fronted : List ℕ → ℕ → List ℕ
fronted a n = take n a ++ replicate (512 - n) 0

-- the words from..end are zero
unfoldable pub cleared : List ℕ → ℕ → ℕ → List ℕ
cleared a from end = take from a ++ (replicate (end - from) 0 ++ drop end a)

-- of the first n words those before i, then `gap` zeros, then those from j on, then zeros
unfoldable pub splice : List ℕ → ℕ → ℕ → ℕ → ℕ → List ℕ
splice a i gap j n = take i a ++ (replicate gap 0 ++ (take (n - j) (drop j a) ++ replicate (512 - (i + gap + (n - j))) 0))

-- n words, then zeros
abbrev pub Padded : List ℕ → ℕ → Type 0
Padded a n = (length a ≡ 512) × (a ≡ fronted a n)

-- of n words the one at i can give way to `gap` others
abbrev pub Gap : ℕ → ℕ → ℕ → Type 0
Gap n i gap = (i < n) × (0 < gap) × (n + gap ≤ 513)

-- or those from i up to j to one
abbrev pub Gapped : ℕ → ℕ → ℕ → Type 0
Gapped n i j = (i < j) × (j ≤ n) × (n ≤ 512)
