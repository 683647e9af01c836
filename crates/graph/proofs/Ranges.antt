-- Ranges, continued from specs/Ranges: theorems that rest on others.
use Rattle.std.specs.Prelude.{◌≡◌, false, ◌&&◌, List, eqb, leb}
use Prim.Native.Nat.{ℕ, zero, suc, ◌-◌, ◌≤◌, ◌<◌}
use native.Mathlib.Omega.{arith}
use Rattle.std.proofs.Math.Decide.{dec_lt}
use Rattle.std.proofs.Math.Dec.{ltb}
use Rattle.std.proofs.Common.{ne_eqb}
use Rattle.model.specs.Function.{nblocks, nitems, start, stop}
use Rattle.base.specs.Tests.{split, clash}
use Rattle.base.specs.Function.{FunctionFacts, stop_inside, stop_last}
use Rattle.graph.specs.Ranges.{Holds, holds_same, holds_test, last_held, owner, owner_below, test_holds}

module _ {fn : List ℕ} (A : FunctionFacts fn) where
  -- so the block is found among those below n
  holds_below : {b i : ℕ} → Holds fn b i → (n : ℕ) → b < n → n ≤ nblocks fn → owner_below fn i n ≡ b
  unfolding owner_below
  holds_below h zero l m = absurd (omega arith)
  holds_below {b} {i} h (suc n) l m = split (leb (start fn n) i && ltb i (stop fn n))
      (λ e. rw (e, owner_below) (holds_same A (test_holds A (omega arith) e) h))
      (λ e. elim (dec_lt b n) [
        | yes k ↦ rw (e, owner_below) (holds_below h n k (omega arith))
        | no k ↦ let q : b ≡ n = omega arith in clash (cc (holds_test A h))
      ])

  -- the block in which an item lies owns it
  pub holds_owner : {b i : ℕ} → Holds fn b i → owner fn i ≡ b
  unfolding owner
  holds_owner h = holds_below h (nblocks fn) h.block (omega arith)

  -- and what is found is its block
  below_holds : (i n : ℕ) → n ≤ nblocks fn → owner_below fn i n < nblocks fn → Holds fn (owner_below fn i n) i
  unfolding owner_below
  below_holds i zero l m = absurd (omega arith)
  below_holds i (suc n) l m = split (leb (start fn n) i && ltb i (stop fn n))
      (λ e. rw (e, owner_below) (test_holds A (omega arith) e))
      (λ e. rw (e, owner_below) (below_holds i n (omega arith) (rw (e, owner_below) at m)))

  -- an item that has an owner lies in it
  pub owner_holds : (i : ℕ) → owner fn i < nblocks fn → Holds fn (owner fn i) i
  unfolding owner
  owner_holds i l = below_holds i (nblocks fn) (omega arith) l

  -- the entry's point is no block's
  pub entry_alone : (b : ℕ) → b < nblocks fn → eqb (owner fn (nitems fn)) b ≡ false
  entry_alone b l = ne_eqb (owner fn (nitems fn)) b (λ e.
      let h = owner_holds (nitems fn) (omega arith) in
      omega (arith, stop_inside A (owner fn (nitems fn))))

  -- each item from the first start on lies in a block
  pub item_holds : (i : ℕ) → start fn 0 ≤ i → i < nitems fn → Holds fn (owner fn i) i
  item_holds i s m =
      let l = A.some_blocks in
      let e = stop_last A (nblocks fn - 1) (omega arith) in
      let (d, h) = last_held A i (nblocks fn - 1) (omega arith) s (rw e m) in
      rw (holds_owner h) h
