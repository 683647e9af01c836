-- A set of ranks as bits of four words: bit r % 64 of word r / 64 (document 02, F-5: "64-bit words, one bit for each rank").
use Rattle.std.specs.Prelude.{◌≡◌, Bool, cond, List, [], ◌∷◌, ℕ, zero, suc, ◌+◌, ◌/◌, ◌%◌, ◌^◌, eqb, ltb, length, set, replicate}
use Rattle.std.specs.Int.Bits.{bit_or, bit_xor}
use Rattle.std.specs.Int.Count.{count_trailing_zeros}
use Rattle.model.specs.Words.{word}

-- none (`WorkQueue::empty`)
abbrev pub no_bits : List ℕ
no_bits = replicate 4 0

-- there are four words
abbrev pub Four : List ℕ → Type 0
Four bits = length bits ≡ 4

-- is bit i of a word set?
unfoldable pub bit : ℕ → ℕ → Bool
bit w zero = eqb (w % 2) 1
bit w (suc i) = bit (w / 2) i

-- is r in the set?
unfoldable pub has : List ℕ → ℕ → Bool
unfolding bit
has bits r = bit (word bits (r / 64)) (r % 64)

-- the set with r
unfoldable pub put_in : List ℕ → ℕ → List ℕ
put_in bits r = set bits (r / 64) (bit_or (word bits (r / 64)) (2 ^ (r % 64)))

-- the set without r, which is in it
unfoldable pub take_out : List ℕ → ℕ → List ℕ
take_out bits r = set bits (r / 64) (bit_xor (word bits (r / 64)) (2 ^ (r % 64)))

-- the lowest rank in it: from the trailing zeros of the first word that isn't 0, as 0 has 64 of them; 64 for each word if all are 0
unfoldable pub first_rank : List ℕ → ℕ
first_rank [] = 0
first_rank (w ∷ ws) = cond (ltb (count_trailing_zeros 64 w) 64) (count_trailing_zeros 64 w) (64 + first_rank ws)
