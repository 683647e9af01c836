-- Places, continued from specs/Places: theorems that rest on others.
use Rattle.std.specs.Prelude.{◌≡◌, refl, Bool, cond, ◌&&◌, ◌||◌, List}
use Rattle.std.proofs.Common.{◌∙◌}
use Rattle.std.proofs.Math.Bool.{true}
use Prim.Native.Nat.{ℕ, zero, suc, ◌-◌, ◌≤◌, ◌<◌}
use native.Mathlib.Omega.{arith}
use Rattle.std.proofs.Math.Decide.{dec_lt}
use Rattle.std.proofs.Math.Dec.{eqb, leb}
use borrow.Author.Tests.{leb-true, eqb-true, eqb-false, le-leb, eq-eqb}
use Rattle.model.specs.Function.{nblocks, start, stop, op, after, nitems}
use Rattle.model.specs.Block.{root_before, uses_place}
use Rattle.base.specs.Tests.{split, clash, and_left, and_right}
use Rattle.base.specs.Function.{FunctionFacts, stop_next}
use Rattle.graph.specs.Ranges.{Holds}
use Rattle.graph.proofs.Ranges.{item_holds}
use Rattle.graph.specs.Follow.{Checked, checked_at, follow_entry}
use Rattle.graph.specs.Items.{before_from, before_at, before_first, before_next, before_entry}
use Rattle.graph.proofs.Items.{item_follows, block_ends, entry_follows, entry_ends}
use Rattle.graph.specs.Places.{Part, Placed, Reads, action_table, element_table, end_table, entry_table, in_place, note_table, over_table, place_table, placed_more, placed_root, placed_uses, read_table, root_table, row_table, uses_back}

module _ {fn : List ℕ} {first s t : ℕ} (P : Part fn first s t) where
  -- each row is one of the table's
  part_code : (i : ℕ) → i ≤ t → before_from fn first s i ≤ 8
  part_code zero l = rw (before_first fn first s zero (omega arith)) (omega (arith, P.low))
  part_code (suc i) l = elim (dec_lt i s) [
    | yes m ↦ rw (before_first fn first s (suc i) m) (omega (arith, P.low))
    | no m ↦
        let k = before_from fn first s i in
        let h = checked_at (λ k o. true) (λ k o. leb (after k o) 8) row_table k (op fn i) (part_code i (omega arith)) (P.follows i (omega arith) l) refl in
        rw (before_next fn first s i (omega arith)) (leb-true (after k (op fn i)) 8 h)
  ]

  -- what the table says of an item
  pub part_says : (H Q : ℕ → ℕ → Bool) → Checked H Q → (i : ℕ) → s ≤ i → i < t
      → H (before_from fn first s i) (op fn i) ≡ true → Q (before_from fn first s i) (op fn i) ≡ true
  part_says H Q c i l m h = checked_at H Q c (before_from fn first s i) (op fn i) (part_code i (omega arith)) (P.follows i l m) h

  -- what stands before is a place
  pub part_placed : (i : ℕ) → i ≤ t → in_place (before_from fn first s i) ≡ true → Placed fn s i
  part_placed zero m e = clash (cc (P.fresh, before_first fn first s zero (omega arith)))
  part_placed (suc i) m e = elim (dec_lt i s) [
    | yes u ↦ clash (cc (P.fresh, before_first fn first s (suc i) u))
    | no u ↦
        let d = rw (before_next fn first s i (omega arith)) at e in
        let c = part_says (λ k o. in_place (after k o)) (λ k o. eqb o 0 || (leb o 4 && in_place k)) place_table i (omega arith) m d in
        split (eqb (op fn i) 0)
        (λ z. placed_root (omega arith) (eqb-true (op fn i) 0 z))
        (λ z.
        let v : leb (op fn i) 4 && in_place (before_from fn first s i) ≡ true = rw z at c in
        let w : 0 < op fn i = omega (arith, eqb-false (op fn i) 0 z) in
        placed_more (part_placed i (omega arith) (search and_right)) w (leb-true (op fn i) 4 (search and_left)))
  ]

  -- the root's row is the one before the place's
  pub part_root : (i : ℕ) → i ≤ t → in_place (before_from fn first s i) ≡ true → before_from fn first s i ≡ suc (before_from fn first s (root_before fn i))
  unfolding root_before
  part_root zero m e = clash (cc (P.fresh, before_first fn first s zero (omega arith)))
  part_root (suc i) m e = elim (dec_lt i s) [
    | yes u ↦ clash (cc (P.fresh, before_first fn first s (suc i) u))
    | no u ↦
        let q = before_next fn first s i (omega arith) in
        let k = before_from fn first s i in
        let d = rw q at e in
        let c = part_says (λ k o. in_place (after k o)) (λ k o. eqb o 0 || (leb o 4 && in_place k)) place_table i (omega arith) m d in
        let a = part_says (λ k o. in_place (after k o)) (λ k o. eqb (after k o) (cond (eqb o 0) (suc k) k)) root_table i (omega arith) m d in
        let r = q ∙ eqb-true (after k (op fn i)) (cond (eqb (op fn i) 0) (suc k) k) a in
        split (eqb (op fn i) 0)
        (λ z. rw (z, root_before) (rw z at r))
        (λ z.
        let v : leb (op fn i) 4 && in_place k ≡ true = rw z at c in
        rw (z, root_before) ((rw z at r) ∙ part_root i (omega arith) (search and_right)))
  ]

  -- behind an item of a place stands a place
  pub part_place : (i : ℕ) → s < i → i ≤ t → op fn (i - 1) ≤ 4 → in_place (before_from fn first s i) ≡ true
  part_place zero l m e = absurd (omega arith)
  part_place (suc i) l m e =
      let q : suc i - 1 ≡ i = omega arith in
      rw (before_next fn first s i (omega arith))
      (part_says (λ k o. leb o 4) (λ k o. in_place (after k o)) element_table i (omega arith) m (le-leb (op fn i) 4 (rw q at e)))

  -- what the table says of the item before
  pub part_back : (H : ℕ → Bool) (Q : ℕ → ℕ → Bool) → Checked (λ k o. H (after k o)) Q → (i : ℕ) → s < i → i ≤ t
      → H (before_from fn first s i) ≡ true → Q (before_from fn first s (i - 1)) (op fn (i - 1)) ≡ true
  part_back H Q c zero l m e = absurd (omega arith)
  part_back H Q c (suc i) l m e =
      let q : suc i - 1 ≡ i = omega arith in
      rw q (part_says (λ k o. H (after k o)) Q c i (omega arith) m (rw (before_next fn first s i (omega arith)) at e))

  -- behind a read
  pub part_read : (i : ℕ) → i ≤ t → before_from fn first s i ≡ 4 → (s < i) × (op fn (i - 1) ≡ 6) × Placed fn s (i - 1)
  part_read i m e = elim (dec_lt s i) [
    | yes l ↦
        let c = part_back (λ k. eqb k 4) (λ k o. eqb o 6 && in_place k) read_table i l m (eq-eqb (before_from fn first s i) 4 e) in
        (l, eqb-true (op fn (i - 1)) 6 (search and_left), part_placed (i - 1) (omega arith) (search and_right))
    | no l ↦ absurd (omega (arith, P.low, before_first fn first s i (omega arith)))
  ]

module _ {fn : List ℕ} (A : FunctionFacts fn) where
  -- A BLOCK'S ITEMS AND THE ENTRY'S

  -- a block's items
  pub block_part : {b : ℕ} → b < nblocks fn → Part fn 2 (start fn b) (stop fn b)
  block_part {b} l = record { low = omega arith; fresh = refl; follows = λ i m n. item_follows A (record { block = l; low = m; high = n }) }

  -- the items of the entry part
  pub entry_part : Part fn 0 0 (start fn 0)
  entry_part = record { low = omega arith; fresh = refl; follows = λ i m n. entry_follows A n }

  -- before a block stands the use that ends the entry part, or the end of another block
  pub start_behind : {b : ℕ} → b < nblocks fn → 0 < start fn b → eqb (op fn (start fn b - 1)) 5 || leb 10 (op fn (start fn b - 1)) ≡ true
  start_behind {b = zero} l m = part_back entry_part (λ k. eqb k 0) (λ k o. eqb o 5 || leb 10 o) over_table (start fn 0) m (omega arith) (eq-eqb _ 0 (entry_ends A))
  start_behind {b = suc b} l m =
      rw (← stop_next A b l) (part_back (block_part {b = b} (omega arith)) (λ k. eqb k 8) (λ k o. eqb o 5 || leb 10 o) end_table (stop fn b)
      (A.starts b (omega arith)) (omega arith) (eq-eqb _ 8 (block_ends A {b = b} (omega arith))))

  -- so no item of a place stands there
  start_fresh : {b : ℕ} → b < nblocks fn → 0 < start fn b → 5 ≤ op fn (start fn b - 1)
  start_fresh {b} l m =
      let o = op fn (start fn b - 1) in
      let h = start_behind l m in
      split (eqb o 5) (λ e. omega (arith, eqb-true o 5 e)) (λ e. omega (arith, leb-true 10 o (rw e at h)))

  -- a use, a read and a note have a place
  pub action_uses : {b i : ℕ} → Holds fn b i → 5 ≤ op fn i → op fn i ≤ 7 → uses_place fn i ≡ true
  action_uses {b} {i} h l m =
      let c = part_says (block_part h.block) (λ k o. leb 5 o && leb o 7) (λ k o. in_place k) action_table i h.low h.high
      (cc (le-leb 5 (op fn i) l, le-leb (op fn i) 7 m)) in
      placed_uses (part_placed (block_part h.block) i (omega (arith, h.high)) c) l (omega arith)

  -- a place used in a block stands in the block
  pub used_placed : {b i : ℕ} → Holds fn b i → uses_place fn i ≡ true → Placed fn (start fn b) i
  used_placed {b} {i} h e =
      let (l, m) = uses_back fn i e in
      elim (dec_lt (start fn b) i) [
        | yes u ↦
            let P = block_part h.block in
            part_placed P i (omega (arith, h.high)) (part_place P i u (omega (arith, h.high)) m)
        | no u ↦
            let q : i ≡ start fn b = omega (arith, h.low) in
            absurd (omega (arith, start_fresh h.block (rw q at l), rw q at m))
      ]

  -- before the place of a note stands a read with its place
  pub note_reads : {b i : ℕ} → Holds fn b i → op fn i ≡ 7 → Reads fn b i
  note_reads {b} {i} h e =
      let P = block_part h.block in
      let k = before_at fn b i in
      let m : i ≤ stop fn b = omega (arith, h.high) in
      let c = eqb-true k 5 (part_says P (λ k o. eqb o 7) (λ k o. eqb k 5) note_table i h.low h.high (eq-eqb (op fn i) 7 e)) in
      let p : in_place k ≡ true = rw c refl in
      let n = (part_placed P i m p).high in
      let (u, v, w) = part_read P (root_before fn i) (omega arith) (omega (arith, part_root P i m p)) in
      record { holds = record { block = h.block; low = omega arith; high = omega arith }; next = omega arith; code = v; placed = w }

  -- THE ENTRY PART: items of places, and uses

  -- its rows
  entry_row : (i : ℕ) → i ≤ start fn 0 → before_entry fn i ≤ 1
  entry_row zero l = rw (before_first fn 0 0 zero (omega arith)) (omega arith)
  entry_row (suc i) l = rw (before_next fn 0 0 i (omega arith)) (follow_entry (before_entry fn i) (op fn i) (entry_row i (omega arith)) (entry_follows A l))

  -- no item is more than a use
  pub entry_op : {i : ℕ} → i < start fn 0 → op fn i ≤ 5
  entry_op {i} l = leb-true (op fn i) 5
      (part_says entry_part (λ k o. leb k 1) (λ k o. leb o 5) entry_table i (omega arith) l (le-leb (before_entry fn i) 1 (entry_row i (omega arith))))

  -- a place used there stands there
  pub entry_placed : {i : ℕ} → i < start fn 0 → uses_place fn i ≡ true → Placed fn 0 i
  entry_placed {i} l e = let (m, n) = uses_back fn i e in part_placed entry_part i (omega arith) (part_place entry_part i m (omega arith) n)

  -- every place used is a place in the record
  pub place_placed : {i : ℕ} → i < nitems fn → uses_place fn i ≡ true → Placed fn 0 i
  place_placed {i} l e = elim (dec_lt i (start fn 0)) [
    | yes m ↦ entry_placed m e
    | no m ↦
        let H = used_placed (item_holds A i (omega arith) l) e in
        record { low = omega arith; high = H.high; root = H.root; elements = H.elements }
  ]
