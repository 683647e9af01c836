-- Enders, continued from specs/Enders: theorems that rest on others.
use Rattle.std.proofs.Math.Path.{◌≡◌}
use Rattle.std.specs.Prelude.{refl, Bool, true, false, ◌&&◌, ◌||◌, List, leb}
use Rattle.std.proofs.Common.{◌∙◌}
use Prim.Native.Nat.{ℕ, zero, suc, ◌+◌, ◌-◌, ◌≤◌, ◌<◌}
use native.Mathlib.Omega.{arith}
use Rattle.std.proofs.Math.Decide.{dec_lt}
use Rattle.std.proofs.Math.Dec.{eqb}
use borrow.Author.Tests.{leb-true, eqb-true, le-leb, lt-leb, eq-eqb}
use Rattle.model.specs.Function.{nblocks, start, stop, op, after}
use Rattle.model.specs.Block.{is_arm}
use Rattle.base.specs.Tests.{split, clash, and_left, and_right, or_passes}
use Rattle.base.specs.Function.{FunctionFacts}
use Rattle.graph.specs.Ranges.{Holds}
use Rattle.graph.specs.Follow.{Checked}
use Rattle.graph.specs.Items.{before_at, before_first, before_next}
use Rattle.graph.proofs.Items.{block_ends}
use Rattle.graph.proofs.Places.{block_part, part_says, part_back, start_behind}
use Rattle.graph.specs.Enders.{Ender, arm_table, armed_table, back_table, body_table, ender_table, first_table, inside_table, last_holds, last_table, on_table, over_table, target_table}

module _ {fn : List ℕ} (A : FunctionFacts fn) where
  -- what the table says of an item of a block
  item_says : {b i : ℕ} → Holds fn b i → (H Q : ℕ → ℕ → Bool) → Checked H Q → H (before_at fn b i) (op fn i) ≡ true → Q (before_at fn b i) (op fn i) ≡ true
  item_says {b} {i} h H Q c e = part_says (block_part A h.block) H Q c i h.low h.high e

  -- GOING ON, AND THE LAST ITEM

  -- where the block is not ended it goes on
  goes_on : {b i : ℕ} → Holds fn b i → after (before_at fn b i) (op fn i) ≤ 7 → Holds fn b (suc i)
  goes_on {b} {i} h l = elim (dec_lt (suc i) (stop fn b)) [
    | yes m ↦ record { block = h.block; low = omega (arith, h.low); high = m }
    | no m ↦
        let q : stop fn b ≡ suc i = omega (arith, h.high) in
        let e = block_ends A h.block in
        absurd (omega (arith, before_next fn 2 (start fn b) i h.low, rw q at e))
  ]

  -- where it is ended nothing follows
  ends_here : {b i : ℕ} → Holds fn b i → after (before_at fn b i) (op fn i) ≡ 8 → suc i ≡ stop fn b
  ends_here {b} {i} h e = elim (dec_lt (suc i) (stop fn b)) [
    | yes m ↦
        let k : Holds fn b (suc i) = record { block = h.block; low = omega (arith, h.low); high = m } in
        clash (cc (item_says k (λ k o. eqb k 8) (λ k o. false) over_table (eq-eqb _ 8 (before_next fn 2 (start fn b) i h.low ∙ e))))
    | no m ↦ omega (arith, h.high)
  ]

  -- a block's last item is a target, a return or a stop
  pub last_op : {b : ℕ} → b < nblocks fn → (10 ≤ op fn (stop fn b - 1)) × (op fn (stop fn b - 1) ≤ 12)
  last_op {b} l =
      let h = part_back (block_part A l) (λ k. eqb k 8) (λ k o. leb 10 o && leb o 12) last_table (stop fn b) (A.starts _ l) (omega arith) (eq-eqb _ 8 (block_ends A l)) in
      (leb-true 10 (op fn (stop fn b - 1)) (search and_left), leb-true (op fn (stop fn b - 1)) 12 (search and_right))

  -- BEHIND AN ITEM FROM 8 ON

  -- behind an item from 8 on the rows are those of an ender
  ender_row : {b i : ℕ} → Holds fn b i → 8 ≤ op fn i → (x : ℕ) → i < x → x ≤ stop fn b → 6 ≤ before_at fn b x
  ender_row {b} {i} h l zero m n = absurd (omega arith)
  ender_row {b} {i} h l (suc x) m n =
      let k : Holds fn b x = record { block = h.block; low = omega (arith, h.low); high = n } in
      let c : leb 8 (op fn x) || leb 6 (before_at fn b x) ≡ true = elim (dec_lt i x) [
        | yes u ↦ or_passes (leb 8 (op fn x)) _ (le-leb 6 _ (ender_row h l x u (omega arith)))
        | no u ↦ let q : x ≡ i = omega arith in cc (le-leb 8 (op fn i) l)
      ] in
      rw (before_next fn 2 (start fn b) x k.low) (leb-true 6 _ (item_says k (λ k o. leb 8 o || leb 6 k) (λ k o. leb 6 (after k o)) ender_table c))

  -- stand arms and targets alone
  pub ender_on : {b i x : ℕ} → Holds fn b i → 8 ≤ op fn i → Holds fn b x → i < x → (9 ≤ op fn x) × (op fn x ≤ 10)
  ender_on {b} {i} {x} h l k m =
      let c = item_says k (λ k o. leb 6 k) (λ k o. leb 9 o && leb o 10) inside_table (le-leb 6 _ (ender_row h l x m (omega (arith, k.high)))) in
      (leb-true 9 (op fn x) (search and_left), leb-true (op fn x) 10 (search and_right))

  -- THE ENDER

  -- the first item from 8 on, among those from i on
  ender_from : {b : ℕ} → b < nblocks fn → (n i : ℕ) → i + n ≡ stop fn b → start fn b ≤ i → ((x : ℕ) → start fn b ≤ x → x < i → op fn x ≤ 7) → (e : ℕ) × Ender fn b e
  ender_from {b} l zero i z m f =
      let h = last_holds A l in
      absurd (omega (arith, (last_op l).0, f (stop fn b - 1) h.low (omega (arith, h.high))))
  ender_from {b} l (suc n) i z m f = elim (dec_lt (op fn i) 8) [
    | yes u ↦ ender_from l n (suc i) (omega arith) (omega arith)
        (λ x v w. elim (dec_lt x i) [ yes y ↦ f x v y | no y ↦ let q : x ≡ i = omega arith in rw q (omega arith) ])
    | no u ↦ (i, record { holds = record { block = l; low = m; high = omega arith }; code = omega arith; body = f })
  ]

  -- each block has one
  pub block_ender : {b : ℕ} → b < nblocks fn → (e : ℕ) × Ender fn b e
  block_ender {b} l = ender_from l (stop fn b - start fn b) (start fn b) (omega (arith, A.starts _ l)) (omega arith) (λ x u v. absurd (omega arith))

  -- up to it the rows are those of the body
  pub body_row : {b e : ℕ} → Ender fn b e → (x : ℕ) → x ≤ e → before_at fn b x ≤ 5
  body_row {b} {e} E zero l = rw (before_first fn 2 (start fn b) zero (omega arith)) (omega arith)
  body_row {b} {e} E (suc x) l = elim (dec_lt x (start fn b)) [
    | yes m ↦ rw (before_first fn 2 (start fn b) (suc x) m) (omega arith)
    | no m ↦
        let k : Holds fn b x = record { block = E.holds.block; low = omega arith; high = omega (arith, E.holds.high) } in
        let c = item_says k (λ k o. leb o 7 && leb k 5) (λ k o. leb (after k o) 5) body_table
        (cc (le-leb (op fn x) 7 (E.body x k.low l), le-leb (before_at fn b x) 5 (body_row E x (omega arith)))) in
        rw (before_next fn 2 (start fn b) x k.low) (leb-true _ 5 c)
  ]

  -- it is a switch, or the block's last item
  pub ender_last : {b e : ℕ} → Ender fn b e → 9 ≤ op fn e → (10 ≤ op fn e) × (suc e ≡ stop fn b)
  ender_last {b} {e} E l =
      let k = before_at fn b e in
      let o = op fn e in
      let c = item_says E.holds (λ k o. leb k 5) (λ k o. leb o 8 || leb 10 o && eqb (after k o) 8) first_table (le-leb k 5 (body_row E e (omega arith))) in
      let d : leb 10 o && eqb (after k o) 8 ≡ true = rw (lt-leb o 8 l) at c in
      (leb-true 10 o (search and_left), ends_here E.holds (eqb-true (after k o) 8 (search and_right)))

  -- A SWITCH'S ARMS AND TARGETS

  -- behind a switch stands an arm or a target
  pub switch_next : {b i : ℕ} → Holds fn b i → op fn i ≡ 8 → Holds fn b (suc i) × (9 ≤ op fn (suc i)) × (op fn (suc i) ≤ 10)
  switch_next {b} {i} h e =
      let n = goes_on h (leb-true _ 7 (item_says h (λ k o. leb o 9) (λ k o. leb (after k o) 7) on_table (rw e refl))) in
      let k = ender_on h (omega arith) n (omega arith) in
      (n, k.0, k.1)

  -- behind an arm stands its target
  pub arm_next : {b i : ℕ} → Holds fn b i → op fn i ≡ 9 → Holds fn b (suc i) × (op fn (suc i) ≡ 10)
  arm_next {b} {i} h e =
      let n = goes_on h (leb-true _ 7 (item_says h (λ k o. leb o 9) (λ k o. leb (after k o) 7) on_table (rw e refl))) in
      let r : eqb (before_at fn b (suc i)) 7 ≡ true = rw (before_next fn 2 (start fn b) i h.low) (item_says h (λ k o. eqb o 9) (λ k o. eqb (after k o) 7) armed_table (rw e refl)) in
      let c = item_says n (λ k o. eqb k 7) (λ k o. eqb o 10 && eqb (after k o) 6) arm_table r in
      (n, eqb-true (op fn (suc i)) 10 (search and_left))

  -- an arm's target stands behind its arm, in the block
  pub armed_inside : {b i : ℕ} → Holds fn b i → op fn i ≡ 10 → is_arm fn i ≡ true → start fn b < i
  unfolding is_arm
  armed_inside {b} {i} h e a = elim (dec_lt (start fn b) i) [
    | yes l ↦ l
    | no l ↦
        let q : start fn b ≡ i = omega (arith, h.low) in
        let d = eqb-true (op fn (i - 1)) 9 a in
        absurd (elim (dec_lt 0 i) [
          | yes m ↦
              let c = rw q at (start_behind A h.block (rw q m)) in
              let z : ◌≡◌ {A = ℕ} 0 1 = cc in
              omega arith
          | no m ↦ let z : i - 1 ≡ i = omega arith in omega (arith, rw z at d)
        ])
  ]

  -- its row, and that row's
  armed_row : {b i : ℕ} → Holds fn b i → op fn i ≡ 10 → is_arm fn i ≡ true → before_at fn b i ≡ 7
  unfolding is_arm
  armed_row {b} {i} h e a =
      let l = armed_inside h e a in
      let k : Holds fn b (i - 1) = record { block = h.block; low = omega arith; high = omega (arith, h.high) } in
      let q : suc (i - 1) ≡ i = omega arith in
      let c = item_says k (λ k o. eqb o 9) (λ k o. eqb (after k o) 7) armed_table a in
      rw q at (before_next fn 2 (start fn b) (i - 1) k.low ∙ eqb-true _ 7 c)

  -- and a target in that row is an arm's
  row_armed : {b i : ℕ} → Holds fn b i → before_at fn b i ≡ 7 → is_arm fn i ≡ true
  unfolding is_arm
  row_armed {b} {i} h e = elim (dec_lt (start fn b) i) [
    | yes l ↦ part_back (block_part A h.block) (λ k. eqb k 7) (λ k o. eqb o 9) back_table i l (omega (arith, h.high)) (eq-eqb _ 7 e)
    | no l ↦ absurd (omega (arith, before_first fn 2 (start fn b) i (omega arith)))
  ]

  -- behind an arm's target stands an arm or a target
  pub armed_next : {b i : ℕ} → Holds fn b i → op fn i ≡ 10 → is_arm fn i ≡ true → Holds fn b (suc i) × (9 ≤ op fn (suc i)) × (op fn (suc i) ≤ 10)
  armed_next {b} {i} h e a =
      let c = item_says h (λ k o. eqb k 7) (λ k o. eqb o 10 && eqb (after k o) 6) arm_table (rw (armed_row h e a) refl) in
      let d = eqb-true (after (before_at fn b i) (op fn i)) 6 (search and_right) in
      let n = goes_on h (omega arith) in
      let k = ender_on h (omega arith) n (omega arith) in
      (n, k.0, k.1)

  -- any other target is the last item
  pub target_last : {b i : ℕ} → Holds fn b i → op fn i ≡ 10 → is_arm fn i ≡ false → suc i ≡ stop fn b
  target_last {b} {i} h e a =
      let k = before_at fn b i in
      let c = item_says h (λ k o. eqb o 10) (λ k o. eqb k 7 || eqb (after k o) 8) target_table (rw e refl) in
      split (eqb k 7)
      (λ d. clash (cc (row_armed h (eqb-true k 7 d))))
      (λ d. ends_here h (eqb-true _ 8 (rw d at c)))
