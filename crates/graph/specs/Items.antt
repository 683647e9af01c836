-- What stands before each item of an accepted function record: from a block's start on, `after` over its items. It is what the
-- check of the items went by, so each item may follow what stands before it, and each block is ended at its stop.
use Rattle.std.specs.Prelude.{◌≡◌, refl, false, cond, ◌&&◌, List, ltb, leb}
use Rattle.std.proofs.Common.{sym, arith}
use Rattle.std.proofs.Math.Bool.{true}
use Prim.Native.Nat.{ℕ, zero, suc, ◌≤◌, ◌<◌}
use Rattle.std.proofs.Math.Decide.{dec_lt, ℕ_discrete}
use Rattle.std.proofs.Math.Dec.{eqb}
use borrow.Author.Tests.{lt-ltb, le-leb, lt-leb, eq-eqb}
use Rattle.model.specs.Function.{nblocks, start, stop, op, may_follow, after}
use Rattle.base.specs.Function.{FunctionFacts, stop_before}
use Rattle.graph.specs.Ranges.{Holds}

-- what stands before item i, where `first` stands before item s
unfoldable pub before_from : List ℕ → ℕ → ℕ → ℕ → ℕ
before_from fn first s zero = first
before_from fn first s (suc i) = cond (leb s i) (after (before_from fn first s i) (op fn i)) first

-- in the entry part, and in the block b
abbrev pub before_entry : List ℕ → ℕ → ℕ
before_entry fn i = before_from fn 0 0 i

-- in the block b
abbrev pub before_at : List ℕ → ℕ → ℕ → ℕ
before_at fn b i = before_from fn 2 (start fn b) i

-- up to s
pub before_first : (fn : List ℕ) (first s i : ℕ) → i ≤ s → before_from fn first s i ≡ first
unfolding before_from
before_first fn first s zero l = refl
before_first fn first s (suc i) l = cc (lt-leb s i l)

-- behind item i
pub before_next : (fn : List ℕ) (first s i : ℕ) → s ≤ i → before_from fn first s (suc i) ≡ after (before_from fn first s i) (op fn i)
unfolding before_from
before_next fn first s i l = cc (le-leb s i l)

module _ {fn : List ℕ} (A : FunctionFacts fn) where
  -- what stands before item i, where b blocks are begun
  abbrev pub standing : ℕ → ℕ → ℕ
  standing zero i = before_entry fn i
  standing (suc c) i = before_at fn c i

  -- the check has come to item i, with b blocks begun
  pub record Reached (i b k : ℕ) : Type 0 where
    pub most : b ≤ nblocks fn
    pub passed : (c : ℕ) → c < b → start fn c < i
    pub ahead : (c : ℕ) → b ≤ c → c < nblocks fn → i ≤ start fn c
    pub is : k ≡ standing b i
    pub entry : b ≡ 0 → k ≤ 1
    pub inner : 0 < b → (2 ≤ k) × (k ≤ 8)

  -- what it finds from there on
  pub record Rest (i : ℕ) : Type 0 where
    pub inner : (c x : ℕ) → Holds fn c x → i ≤ x → may_follow (before_at fn c x) (op fn x) ≡ true
    pub ends : (c : ℕ) → c < nblocks fn → i ≤ stop fn c → before_at fn c (stop fn c) ≡ 8
    pub entry : (x : ℕ) → x < start fn 0 → i ≤ x → may_follow (before_entry fn x) (op fn x) ≡ true
    pub over : i ≤ start fn 0 → before_entry fn (start fn 0) ≡ 0

  -- between a block's start and its stop, that block was begun last
  begun_is : {i b k : ℕ} → Reached i b k → (c : ℕ) → c < nblocks fn → start fn c < i → i ≤ stop fn c → b ≡ suc c
  begun_is {i} {b} R c l m n = elim (dec_lt c b) [
    | yes u ↦ elim (dec_lt (suc c) b) [
      | yes v ↦ absurd (omega (arith, R.passed (suc c) v, stop_before A c (suc c) (omega arith) (omega (arith, R.most))))
      | no v ↦ omega arith
    ]
    | no u ↦ absurd (omega (arith, R.ahead c (omega arith) l))
  ]

  -- where the test for a start fails, none is there
  pub no_start : {i b : ℕ} → ltb b (nblocks fn) && eqb i (start fn b) ≡ false → b < nblocks fn → i ≡ start fn b → ⊥
  no_start {i} {b} t l s = let z : ◌≡◌ {A = ℕ} 0 1 = cc (lt-ltb b (nblocks fn) l, eq-eqb i (start fn b) s) in omega arith

  -- one item more in front
  pub rest_more : {i : ℕ}
      → ((c : ℕ) → Holds fn c i → may_follow (before_at fn c i) (op fn i) ≡ true)
      → ((c : ℕ) → c < nblocks fn → i ≡ stop fn c → before_at fn c i ≡ 8)
      → (i < start fn 0 → may_follow (before_entry fn i) (op fn i) ≡ true)
      → (i ≡ start fn 0 → before_entry fn i ≡ 0)
      → Rest (suc i) → Rest i
  rest_more {i} f e g o K = record {
    inner = λ c x h l. elim (ℕ_discrete i x) [ yes q ↦ rw (← q) (f c (rw q h)) | no q ↦ K.inner c x h (omega arith) ];
    ends = λ c l m. elim (ℕ_discrete i (stop fn c)) [ yes q ↦ rw (← q) (e c l q) | no q ↦ K.ends c l (omega arith) ];
    entry = λ x m l. elim (ℕ_discrete i x) [ yes q ↦ rw (← q) (g (rw q m)) | no q ↦ K.entry x m (omega arith) ];
    over = λ l. elim (ℕ_discrete i (start fn 0)) [ yes q ↦ rw (← q) (o q) | no q ↦ K.over (omega arith) ];
  }

  -- a block's stop is reached
  pub stopped : {i b k : ℕ} → Reached i b k → (c : ℕ) → c < nblocks fn → i ≡ stop fn c → (b ≡ suc c) × (before_at fn c i ≡ k) × (2 ≤ k)
  stopped {i} {b} {k} R c l s =
      let q = begun_is R c l (omega (arith, A.starts _ l)) (omega arith) in
      let e : k ≡ standing (suc c) i = cc R.is in
      (q, sym e, (R.inner (omega arith)).0)

  -- an item inside a block
  pub held : {i b k : ℕ} → Reached i b k → ltb b (nblocks fn) && eqb i (start fn b) ≡ false → (c : ℕ) → Holds fn c i → before_at fn c i ≡ k
  held {i} {b} {k} R t c h = elim (dec_lt (start fn c) i) [
    | yes l ↦
        let q = begun_is R c h.block l (omega arith) in
        let e : k ≡ standing (suc c) i = cc R.is in
        sym e
    | no l ↦ absurd (elim (dec_lt c b) [
      | yes u ↦ omega (arith, R.passed c u)
      | no u ↦ elim (dec_lt b c) [
        | yes v ↦ omega (arith, R.ahead b (omega arith) (omega arith), A.starts b (omega arith), stop_before A b c v h.block)
        | no v ↦ let q : b ≡ c = omega arith in no_start t (rw q h.block) (rw q (omega arith))
      ]
    ])
  ]

  -- an item of the entry part, or the first start
  pub entered : {i b k : ℕ} → Reached i b k → i ≤ start fn 0 → (b ≡ 0) × (before_entry fn i ≡ k) × (k ≤ 1)
  entered {i} {b} {k} R l = elim (dec_lt 0 b) [
    | yes m ↦ absurd (omega (arith, R.passed 0 m))
    | no m ↦
        let q : b ≡ 0 = omega arith in
        let e : k ≡ standing 0 i = cc R.is in
        (q, sym e, R.entry q)
  ]

  -- the first block starts first
  pub start_least : {b : ℕ} → b < nblocks fn → start fn 0 ≤ start fn b
  start_least {b} l = elim (dec_lt 0 b) [
    | yes m ↦ omega (arith, stop_before A 0 b m l, A.starts 0 A.some_blocks)
    | no m ↦ let q : b ≡ 0 = omega arith in rw q (omega arith)
  ]
