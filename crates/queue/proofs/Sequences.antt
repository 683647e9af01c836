-- Every sequence of inserts and pops gives on the bits the answers that it gives on the array (document 02, F-5): `same_answers`. `insert`
-- and `pop` do with the bits what `bit_answers` does, step by step: clauses `words` and `block` of their contracts. And so does every row
-- of calls of which no more is known than what they promise of the set of waiting blocks: `calls_answer`.
use mathlib.Core.Path.{◌≡◌, refl, sym, ap, ap₂, ◌∙◌}
use mathlib.Core.Bool.{Bool, true, false, cond, not}
use mathlib.Core.List.{List, [], ◌∷◌, map}
use mathlib.Core.Option.{Option, none, some}
use Prim.Native.Nat.{ℕ, ◌<◌}
use native.Mathlib.Omega.{arith}
use lib.Dec.{eqb, ltb}
use lib.ListN.{length, set, replicate, length-set, length-replicate}
use Rattle.std.specs.Prelude as Code
use Rattle.model.specs.Rounds.{lowest, put}
use Rattle.refusal.specs.Refusal.{found}
use Rattle.base.specs.Tests.{split, set_test}
use Rattle.base.specs.Each.{Each, each_none, each_more}
use Rattle.base.specs.Equal.{zero_word}
use Rattle.solver.specs.Lowest.{lowest_some, lowest_same}
use Rattle.queue.specs.Bits.{no_bits, Four, put_in, take_out, first_rank}
use Rattle.queue.specs.Waiting.{Ranking, Inverse, waiting}
use Rattle.queue.specs.Popped.{Inserts, without, Popping}
use Rattle.queue.specs.Sequences.{Step, insert, pop, Inside, flagged, cleared, array_answers, bit_rest, bit_answers}
use Rattle.queue.proofs.Waiting.{bit_pops, put_in_inserts, waiting_none}

-- ONE STEP

-- the bits are four words still
put_in_four : (bits : List ℕ) (r : ℕ) → Four bits → Four (put_in bits r)
unfolding put_in
put_in_four bits r f = length-set bits _ _ ∙ f

rest_four : (bits : List ℕ) (n : ℕ) → Four bits → Four (bit_rest n bits)
unfolding bit_rest take_out
rest_four bits n f = split (ltb (first_rank bits) n) (λ e. rw e (length-set bits _ _ ∙ f)) (λ e. rw e f)

-- the array is as long as it was
cleared_long : (waits : List ℕ) (o : Option ℕ) → length (cleared waits o) ≡ length waits
cleared_long waits none = refl
cleared_long waits (some b) = length-set waits b 0

module _ {rank : ℕ → ℕ} {n : ℕ} (R : Ranking rank n) where
  -- the same blocks wait, in an array of 256 words
  record Agree (bits waits : List ℕ) : Type 0 where
    long : length waits ≡ 256
    same : (b : ℕ) → b < n → waiting rank n bits b ≡ flagged waits b

  module _ {bits waits : List ℕ} (A : Agree bits waits) where
    -- after an insert, of a block that waits too
    agree_insert : {bits' : List ℕ} {b : ℕ} → b < n → waiting rank n bits' ≡ put (waiting rank n bits) b true → Agree bits' (set waits b 1)
    unfolding put
    agree_insert {b = b} l e = record {
      long = length-set waits b 1 ∙ A.long;
      same = λ c k. ap (λ (f : ℕ → Bool). f c) e ∙ ap (cond (eqb b c) true) (A.same c k) ∙ sym (set_test waits b 1 c (omega (arith, A.long, R.few)));
    }

    -- the next block is the same
    next_same : lowest rank (waiting rank n bits) n ≡ lowest rank (flagged waits) n
    next_same = lowest_same rank (waiting rank n bits) (flagged waits) n A.same

    -- without it
    gone : (o : Option ℕ) → lowest rank (flagged waits) n ≡ o → (c : ℕ) → c < n → without (waiting rank n bits) o c ≡ flagged (cleared waits o) c
    unfolding put
    gone none e c k = A.same c k
    gone (some b) e c k =
        let (l, w) = lowest_some rank (flagged waits) n b e in
        ap (cond (eqb b c) false) (A.same c k) ∙ sym (set_test waits b 0 c (omega (arith, A.long, R.few)))

    -- after a pop, of nothing too
    agree_pop : {bits' : List ℕ} → waiting rank n bits' ≡ without (waiting rank n bits) (lowest rank (waiting rank n bits) n)
        → Agree bits' (cleared waits (lowest rank (flagged waits) n))
    agree_pop e = record {
      long = cleared_long waits (lowest rank (flagged waits) n) ∙ A.long;
      same = λ c k.
          ap (λ (f : ℕ → Bool). f c) e ∙ ap (λ (o : Option ℕ). without (waiting rank n bits) o c) next_same ∙ gone (lowest rank (flagged waits) n) refl c k;
    }

  -- both are empty
  agree_empty : Agree no_bits (replicate 256 0)
  agree_empty = record {
    long = length-replicate {A = ℕ} 256 0;
    same = λ b l. waiting_none rank n b ∙ sym (ap (λ (w : ℕ). not (eqb w 0)) (zero_word 256 b));
  }

  module _ {blocks : List ℕ} (I : Inverse rank n blocks) where
    -- ON THE BITS

    bits_agree : (ss : List Step) → Each (Inside n) ss → {bits waits : List ℕ} → Four bits → Agree bits waits
        → bit_answers rank blocks n ss bits ≡ array_answers rank n ss waits
    unfolding bit_answers array_answers
    bits_agree [] each_none f A = refl
    bits_agree (insert b ∷ ss) (each_more l ls) {bits} f A =
        bits_agree ss ls (put_in_four bits (rank b) f) (agree_insert A l (put_in_inserts bits (rank b) f (omega (arith, R.below b l, R.few)) rank n b R l refl))
    bits_agree (pop ∷ ss) (each_more l ls) {bits} f A =
        let (p, q) = bit_pops R bits f I in
        ap₂ ◌∷◌ (p ∙ next_same A) (bits_agree ss ls (rest_four bits n f) (agree_pop A q))

    -- every sequence, from empty queues
    pub same_answers : (ss : List Step) → Each (Inside n) ss → bit_answers rank blocks n ss no_bits ≡ array_answers rank n ss (replicate 256 0)
    same_answers ss E = bits_agree ss E refl agree_empty

-- BY THE CONTRACTS ALONE

-- a row of calls of `insert` and `pop`, each as it promises of the set of waiting blocks, and what they answer
pub data Calls (rank : ℕ → ℕ) (blocks : List ℕ) (n : ℕ) : List Step → List ℕ → List (Code.Option ℕ) → Type 0 where
  no_call : {bits : List ℕ} → Calls rank blocks n [] bits []
  inserted : {b : ℕ} {ss : List Step} {bits bits' : List ℕ} {rs : List (Code.Option ℕ)} → Inserts bits (rank b) bits' → Calls rank blocks n ss bits' rs
      → Calls rank blocks n (insert b ∷ ss) bits rs
  popped : {ss : List Step} {bits bits' : List ℕ} {r : Code.Option ℕ} {rs : List (Code.Option ℕ)} → Popping blocks n bits bits' r → Calls rank blocks n ss bits' rs
      → Calls rank blocks n (pop ∷ ss) bits (r ∷ rs)

module _ {rank : ℕ → ℕ} {n : ℕ} (R : Ranking rank n) {blocks : List ℕ} (I : Inverse rank n blocks) where
  calls_agree : {ss : List Step} {bits waits : List ℕ} {rs : List (Code.Option ℕ)} → Each (Inside n) ss → Calls rank blocks n ss bits rs → Agree R bits waits
      → map found rs ≡ array_answers rank n ss waits
  unfolding array_answers
  calls_agree each_none no_call A = refl
  calls_agree (each_more l ls) (inserted p c) A = calls_agree ls c (agree_insert R A l (p rank n _ R l refl))
  calls_agree (each_more l ls) (popped p c) A =
      let P = p rank R I in
      ap₂ ◌∷◌ (P.answer ∙ next_same R A) (calls_agree ls c (agree_pop R A P.rest))

  -- every row of calls, from words of 0
  pub calls_answer : {ss : List Step} {rs : List (Code.Option ℕ)} → Each (Inside n) ss → Calls rank blocks n ss no_bits rs
      → map found rs ≡ array_answers rank n ss (replicate 256 0)
  calls_answer E c = calls_agree E c (agree_empty R)
