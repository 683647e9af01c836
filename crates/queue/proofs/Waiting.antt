-- The set of waiting blocks, as the bits change: a rank that is put in, the first that is taken out, none at the start.
use mathlib.Core.Path.{◌≡◌, refl, sym, ap, ◌∙◌, fun_ext}
use mathlib.Core.Bool.{Bool, true, false, cond}
use mathlib.Core.List.{List}
use mathlib.Core.Option.{none, some}
use Prim.Native.Nat.{ℕ, ◌/◌, ◌%◌, ◌^◌, ◌≤◌, ◌<◌}
use native.Mathlib.Decide.{ℕ_discrete, dec_lt}
use native.Mathlib.Omega.{arith}
use lib.Dec.{eqb, ltb}
use lib.Bits.{bit_xor}
use lib.ListN.{set}
use borrow.Author.Tests.{eq-eqb, ne_eqb, ltb-true, ltb-false, lt-ltb, le-ltb}
use Rattle.model.specs.Words.{word}
use Rattle.model.specs.Function as Function
use Rattle.model.specs.Function.{nblocks}
use Rattle.model.specs.Rounds.{lowest, put}
use Rattle.std.specs.Prelude.{Option, Some, None}
use Rattle.refusal.specs.Refusal.{found}
use Rattle.base.specs.Tests.{split, clash, and_right}
use Rattle.base.specs.Function.{FunctionFacts}
use Rattle.solver.specs.Lowest.{lowest_empty, lowest_is}
use Rattle.queue.specs.Bits.{no_bits, Four, has, put_in, take_out, first_rank}
use Rattle.queue.specs.Waiting.{Ranking, Inverse, waiting}
use Rattle.queue.specs.Popped.{Inserts, without, Popping}
use Rattle.queue.specs.Sequences.{bit_popped, bit_rest}
use Rattle.queue.proofs.Bits.{has_none, put_in_has, take_out_has, first_low}
use Rattle.queue.proofs.Ranks.{onto}

-- the ranks of a function that passes refusal 2
pub facts_ranking : {fn : List ℕ} → FunctionFacts fn → Ranking (Function.rank fn) (nblocks fn)
facts_ranking F = record {
  few = F.few_blocks;
  below = F.ranks;
  once = λ b c l k e. elim (dec_lt b c) [
    | yes h ↦ absurd (F.ranks_differ c b h k e)
    | no h ↦ elim (dec_lt c b) [ yes j ↦ absurd (F.ranks_differ b c j l (sym e)) | no j ↦ omega arith ]
  ];
}

-- ONE BLOCK

module _ (rank : ℕ → ℕ) (n : ℕ) (bits : List ℕ) (b : ℕ) where
  -- one that waits has its bit set
  waiting_has : waiting rank n bits b ≡ true → has bits (rank b) ≡ true
  unfolding waiting
  waiting_has e = and_right (ltb b n) (has bits (rank b)) e

  -- one whose bit is not set does not wait
  waiting_not : has bits (rank b) ≡ false → waiting rank n bits b ≡ false
  unfolding waiting
  waiting_not e = rw e (split (ltb b n) (λ d. rw d refl) (λ d. rw d refl))

  waiting_is : b < n → waiting rank n bits b ≡ has bits (rank b)
  unfolding waiting
  waiting_is l = rw (lt-ltb b n l) refl

-- no bit is set: none waits
pub waiting_none : (rank : ℕ → ℕ) (n b : ℕ) → waiting rank n no_bits b ≡ false
waiting_none rank n b = waiting_not rank n no_bits b (has_none 4 (rank b))

-- ALL BLOCKS

module _ {rank : ℕ → ℕ} {n : ℕ} (R : Ranking rank n) where
  -- two ranks are equal as their blocks are
  ranks_eqb : (b c : ℕ) → b < n → c < n → eqb (rank b) (rank c) ≡ eqb b c
  ranks_eqb b c l k = elim (ℕ_discrete b c) [
    | yes e ↦ rw e (eq-eqb (rank c) (rank c) refl ∙ sym (eq-eqb c c refl))
    | no d ↦ ne_eqb (rank b) (rank c) (λ e. d (R.once b c l k e)) ∙ sym (ne_eqb b c d)
  ]

  -- bits that change at the rank of b alone
  waiting_put : (bits bits' : List ℕ) (b : ℕ) (v : Bool) → b < n → ((s : ℕ) → has bits' s ≡ cond (eqb (rank b) s) v (has bits s))
      → waiting rank n bits' ≡ put (waiting rank n bits) b v
  unfolding waiting put
  waiting_put bits bits' b v l h = fun_ext (λ c. split (ltb c n)
      (λ e. let k = ltb-true c n e in rw (e, h (rank c), ranks_eqb b c l k) refl)
      (λ e. let k = ltb-false c n e in rw (e, ne_eqb b c (λ d. omega arith)) refl))

  module _ (bits : List ℕ) (four : Four bits) where
    -- none of the blocks has the first rank: none waits
    none_first : n ≤ first_rank bits → lowest rank (waiting rank n bits) n ≡ none
    none_first h = lowest_empty rank (waiting rank n bits) n (λ b l. waiting_not rank n bits b ((first_low bits).under (rank b) (omega (arith, R.below b l))))

    -- the block of the first rank is the next
    next_first : (b : ℕ) → b < n → rank b ≡ first_rank bits → lowest rank (waiting rank n bits) n ≡ some b
    next_first b l e =
        let F = first_low bits in
        lowest_is rank (waiting rank n bits) n b l (waiting_is rank n bits b l ∙ ap (has bits) e ∙ F.there (omega (arith, R.below b l, R.few, four)))
        (λ c k w m. R.once c b k l (elim (ℕ_discrete (rank c) (first_rank bits)) [
          | yes d ↦ d ∙ sym e
          | no d ↦ clash (cc (waiting_has rank n bits c w, F.under (rank c) (omega arith)))
        ]))

    -- so its bit is taken out
    rest_first : (b : ℕ) → b < n → rank b ≡ first_rank bits → waiting rank n (take_out bits (first_rank bits)) ≡ put (waiting rank n bits) b false
    rest_first b l e =
        let F = first_low bits in
        let k : first_rank bits < 256 = omega (arith, R.below b l, R.few) in
        waiting_put bits (take_out bits (first_rank bits)) b false l (rw e (take_out_has bits (first_rank bits) (omega (arith, four)) (F.there (omega (arith, four)))))

    -- what is popped is the next block, and it waits no more
    pub bit_pops : {blocks : List ℕ} → Inverse rank n blocks
        → (bit_popped blocks n bits ≡ lowest rank (waiting rank n bits) n)
        × (waiting rank n (bit_rest n bits) ≡ without (waiting rank n bits) (lowest rank (waiting rank n bits) n))
    unfolding bit_popped bit_rest
    bit_pops {blocks} I = split (ltb (first_rank bits) n)
        (λ h.
        let k = ltb-true (first_rank bits) n h in
        let (b, l, e) = onto n rank R (first_rank bits) k in
        let d : word blocks (first_rank bits) ≡ b = ap (word blocks) (sym e) ∙ I.block b l in
        rw (h, next_first b l e, d) (refl, rest_first b l e))
        (λ h. rw (h, none_first (ltb-false (first_rank bits) n h)) (refl, refl))

-- INSERT

-- what it promises, of the bits that it leaves
pub put_in_inserts : (bits : List ℕ) (r : ℕ) → Four bits → r < 256 → Inserts bits r (put_in bits r)
put_in_inserts bits r four l rank n b R k e = waiting_put R bits (put_in bits r) b true k (rw e (put_in_has bits r (omega (arith, four))))

-- POP

module _ (blocks : List ℕ) (n : ℕ) (bits : List ℕ) (four : Four bits) where
  -- what it promises, of the bits that it leaves and its answer
  pub record PoppedSo (bits' : List ℕ) (r : Option ℕ) : Type 0 where
    pub popping : Popping blocks n bits bits' r
    pub words : bits' ≡ bit_rest n bits
    pub block : found r ≡ bit_popped blocks n bits

  popped_so : {bits' : List ℕ} {r : Option ℕ} → bits' ≡ bit_rest n bits → found r ≡ bit_popped blocks n bits → PoppedSo bits' r
  popped_so e d = record {
    popping = λ rank R I. let (p, q) = bit_pops R bits four I in rw e (record { answer = d ∙ p; rest = q });
    words = e;
    block = d;
  }

  -- no block has the first rank
  pub pops_nothing : n ≤ first_rank bits → PoppedSo bits None
  unfolding bit_popped bit_rest
  pops_nothing h = let e = le-ltb (first_rank bits) n h in popped_so (rw e refl) (rw e refl)

  -- one has it
  pub pops_first : (r m : ℕ) → r ≡ first_rank bits → r < n → m ≡ 2 ^ (r % 64) → PoppedSo (set bits (r / 64) (bit_xor (word bits (r / 64)) m)) (Some (word blocks r))
  unfolding bit_popped bit_rest take_out
  pops_first r m e l d = let h = lt-ltb (first_rank bits) n (omega arith) in popped_so (rw (h, d, e) refl) (rw (h, e) refl)
