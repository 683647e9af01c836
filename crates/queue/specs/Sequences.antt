-- "Every sequence of inserts and pops must give the same answers as the array it replaces, an insert of a block already waiting included"
-- (document 02, F-5): both queues as runs over a list of steps. That their answers are equal is `same_answers` (proofs, Sequences).
use Rattle.std.specs.Prelude.{Bool, not, cond, List, [], ◌∷◌, ℕ, ◌<◌, eqb, ltb, set}
use Rattle.std.proofs.Math.Option.{Option, none, some}
use Rattle.model.specs.Words.{word}
use Rattle.model.specs.Rounds.{lowest}
use Rattle.queue.specs.Bits.{put_in, take_out, first_rank}

pub data Step : Type 0 where
  insert : ℕ → Step
  pop : Step

-- the block that a step inserts is one of n
abbrev pub Inside : ℕ → Step → Type 0
Inside n (insert b) = b < n
Inside n pop = Unit {0}

-- THE ARRAY: a word for each block, 0 if it doesn't wait; a pop searches it for the lowest rank

-- the block b waits
abbrev pub flagged : List ℕ → ℕ → Bool
flagged waits b = not (eqb (word waits b) 0)

-- without the block popped
abbrev pub cleared : List ℕ → Option ℕ → List ℕ
cleared waits none = waits
cleared waits (some b) = set waits b 0

module _ (rank : ℕ → ℕ) (n : ℕ) where
  -- the answers of the pops, in order
  unfoldable pub array_answers : List Step → List ℕ → List (Option ℕ)
  array_answers [] waits = []
  array_answers (insert b ∷ ss) waits = array_answers ss (set waits b 1)
  array_answers (pop ∷ ss) waits = lowest rank (flagged waits) n ∷ array_answers ss (cleared waits (lowest rank (flagged waits) n))

-- THE BITS: what the code does, word by word

-- the block popped: that of the first rank, if that is the rank of one of n blocks
unfoldable pub bit_popped : List ℕ → ℕ → List ℕ → Option ℕ
bit_popped blocks n bits = cond (ltb (first_rank bits) n) (some (word blocks (first_rank bits))) none

-- the bits without it
unfoldable pub bit_rest : ℕ → List ℕ → List ℕ
bit_rest n bits = cond (ltb (first_rank bits) n) (take_out bits (first_rank bits)) bits

module _ (rank : ℕ → ℕ) (blocks : List ℕ) (n : ℕ) where
  -- the answers of the pops, in order
  unfoldable pub bit_answers : List Step → List ℕ → List (Option ℕ)
  bit_answers [] bits = []
  bit_answers (insert b ∷ ss) bits = bit_answers ss (put_in bits (rank b))
  bit_answers (pop ∷ ss) bits = bit_popped blocks n bits ∷ bit_answers ss (bit_rest n bits)
