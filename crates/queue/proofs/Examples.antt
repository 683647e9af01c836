-- Sequences computed on the bits and on the array: a block inserted twice, a pop of nothing, ranks in the first word and in the next.
use mathlib.Core.Path.{◌≡◌, refl}
use mathlib.Core.List.{List, [], ◌∷◌, ◌++◌}
use mathlib.Core.Option.{Option, none, some}
use Prim.Native.Nat.{ℕ, ◌-◌, ◌^◌}
use lib.Count.{count_trailing_zeros}
use lib.ListN.{replicate}
use Rattle.model.specs.Words.{word}
use Rattle.model.specs.Rounds.{better, lowest}
use Rattle.queue.specs.Bits.{no_bits, put_in, take_out, first_rank}
use Rattle.queue.specs.Sequences.{Step, insert, pop, array_answers, bit_popped, bit_rest, bit_answers}

-- THREE BLOCKS, of ranks 2, 0 and 1

ranks : List ℕ
ranks = 2 ∷ 0 ∷ 1 ∷ []

blocks : List ℕ
blocks = 1 ∷ 2 ∷ 0 ∷ []

-- nothing waits; 0 is inserted twice; 1, of lower rank than both, while 2 is gone already
steps : List Step
steps = pop ∷ insert 0 ∷ insert 0 ∷ insert 2 ∷ pop ∷ insert 1 ∷ insert 2 ∷ insert 1 ∷ pop ∷ pop ∷ pop ∷ pop ∷ []

answers : List (Option ℕ)
answers = none ∷ some 2 ∷ some 1 ∷ some 2 ∷ some 0 ∷ none ∷ []

on_bits : bit_answers (word ranks) blocks 3 steps no_bits ≡ answers
unfolding ranks blocks steps answers bit_answers bit_popped bit_rest put_in take_out first_rank count_trailing_zeros
on_bits = refl

on_array : array_answers (word ranks) 3 steps (replicate 256 0) ≡ answers
unfolding ranks steps answers array_answers lowest better
on_array = refl

-- SIXTY-SIX BLOCKS, of ranks 65 down to 0: those of blocks 0 and 1 have their bits in the second word

backwards : ℕ → ℕ
backwards b = 65 - b

far_steps : List Step
far_steps = insert 0 ∷ insert 1 ∷ insert 65 ∷ pop ∷ insert 1 ∷ pop ∷ pop ∷ pop ∷ []

far_answers : List (Option ℕ)
far_answers = some 65 ∷ some 1 ∷ some 0 ∷ none ∷ []

far_blocks : List ℕ
far_blocks = 65 ∷ replicate 63 9 ++ (1 ∷ 0 ∷ [])

far_on_bits : bit_answers backwards far_blocks 66 far_steps no_bits ≡ far_answers
unfolding backwards far_blocks far_steps far_answers bit_answers bit_popped bit_rest put_in take_out first_rank count_trailing_zeros
far_on_bits = refl

far_on_array : array_answers backwards 66 far_steps (replicate 256 0) ≡ far_answers
unfolding backwards far_steps far_answers array_answers lowest better
far_on_array = refl

-- the bits of ranks 0, 63, 64 and 255
where_bits : put_in no_bits 0 ∷ put_in no_bits 63 ∷ put_in no_bits 64 ∷ put_in no_bits 255 ∷ []
    ≡ (1 ∷ 0 ∷ 0 ∷ 0 ∷ []) ∷ (2 ^ 63 ∷ 0 ∷ 0 ∷ 0 ∷ []) ∷ (0 ∷ 1 ∷ 0 ∷ 0 ∷ []) ∷ (0 ∷ 0 ∷ 0 ∷ 2 ^ 63 ∷ []) ∷ []
unfolding put_in
where_bits = refl

-- and the first of some words
where_first : first_rank (0 ∷ 0 ∷ 0 ∷ 2 ^ 63 ∷ []) ∷ first_rank (0 ∷ 2 ^ 63 ∷ 1 ∷ 0 ∷ []) ∷ first_rank (40 ∷ 1 ∷ 0 ∷ 0 ∷ []) ∷ first_rank (0 ∷ 0 ∷ 0 ∷ 0 ∷ []) ∷ [] ≡ 255 ∷ 127 ∷ 3 ∷ 256 ∷ []
unfolding first_rank count_trailing_zeros
where_first = refl
