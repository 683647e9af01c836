-- The blocks of an accepted function record are ranges of items: each item from the first start on lies in exactly one, its owner; the
-- entry's point lies in none.
use Rattle.std.specs.Prelude.{◌≡◌, true, false, ◌&&◌, List, leb}
use Prim.Native.Nat.{ℕ, zero, suc, ◌≤◌, ◌<◌}
use native.Mathlib.Omega.{arith}
use Rattle.std.proofs.Math.Decide.{dec_lt}
use Rattle.std.proofs.Math.Dec.{ltb}
use Rattle.std.proofs.Common.{ltb-true, leb-true, lt-ltb, le-leb}
use Rattle.model.specs.Function.{nblocks, start, stop}
use Rattle.base.specs.Tests.{and_left, and_right}
use Rattle.base.specs.Function.{FunctionFacts, stop_before, stop_next}

-- the item i lies in the block b
pub record Holds (fn : List ℕ) (b i : ℕ) : Type 0 where
  pub block : b < nblocks fn
  pub low : start fn b ≤ i
  pub high : i < stop fn b

-- the block in which an item lies, of those below n; the number of blocks if there is none
unfoldable pub owner_below : List ℕ → ℕ → ℕ → ℕ
owner_below fn i zero = nblocks fn
owner_below fn i (suc n) = elim (leb (start fn n) i && ltb i (stop fn n)) [ true ↦ n | false ↦ owner_below fn i n ]

-- of all blocks
unfoldable pub owner : List ℕ → ℕ → ℕ
owner fn i = owner_below fn i (nblocks fn)

module _ {fn : List ℕ} (A : FunctionFacts fn) where
  -- an item lies in one block at most
  pub holds_same : {b d i : ℕ} → Holds fn b i → Holds fn d i → b ≡ d
  holds_same {b} {d} h k = elim (dec_lt b d) [
    | yes l ↦ absurd (omega (arith, stop_before A b d l k.block))
    | no l ↦ elim (dec_lt d b) [ yes m ↦ absurd (omega (arith, stop_before A d b m h.block)) | no m ↦ omega arith ]
  ]

  -- the test of an item that lies in a block passes
  pub holds_test : {b i : ℕ} → Holds fn b i → leb (start fn b) i && ltb i (stop fn b) ≡ true
  holds_test {b} {i} h = cc (le-leb (start fn b) i h.low, lt-ltb i (stop fn b) h.high)

  -- and an item that passes it lies in the block
  pub test_holds : {b i : ℕ} → b < nblocks fn → leb (start fn b) i && ltb i (stop fn b) ≡ true → Holds fn b i
  test_holds {b} {i} l e = record { block = l; low = leb-true (start fn b) i (search and_left); high = ltb-true i (stop fn b) (search and_right) }

  -- an item between the first start and a block's stop lies in a block
  pub last_held : (i b : ℕ) → b < nblocks fn → start fn 0 ≤ i → i < stop fn b → (d : ℕ) × Holds fn d i
  last_held i zero l s m = (0, record { block = l; low = s; high = m })
  last_held i (suc b) l s m = elim (dec_lt i (start fn (suc b))) [
    | yes k ↦ last_held i b (omega arith) s (rw (stop_next A b l) k)
    | no k ↦ (suc b, record { block = l; low = omega arith; high = m })
  ]
