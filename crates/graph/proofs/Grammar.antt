-- Grammar, continued from specs/Grammar: theorems that rest on others.
use Rattle.std.specs.Prelude.{◌≡◌, refl, true, false, ◌&&◌, ◌||◌, List, eqb, leb}
use Rattle.std.proofs.Common.{sym, ◌∙◌, leb-true, eqb-true, le-leb, eq-eqb}
use Prim.Native.Nat.{ℕ, zero, suc, ◌+◌, ◌-◌, ◌≤◌, ◌<◌}
use native.Mathlib.Omega.{arith}
use Rattle.std.proofs.Math.Decide.{dec_lt, ℕ_discrete}
use Rattle.model.specs.Function.{nblocks, start, stop, op, after}
use Rattle.model.specs.Block.{root_before, is_arm}
use Rattle.base.specs.Tests.{split, and_left, and_right}
use Rattle.base.specs.Function.{FunctionFacts}
use Rattle.graph.specs.Ranges.{Holds}
use Rattle.graph.specs.Items.{before_entry, before_at, before_next}
use Rattle.graph.proofs.Items.{entry_ends}
use Rattle.graph.specs.Places.{in_place, Placed, Part}
use Rattle.graph.proofs.Places.{part_says, part_placed, part_root, part_back, part_read, block_part, entry_part}
use Rattle.graph.proofs.Enders.{block_ender, body_row, ender_last, switch_next, arm_next, armed_next, target_last}
use Rattle.graph.specs.Grammar.{Arms, Block, Statements, Uses, arms_last, arms_more, block_constant, block_exit, block_switch, exit_table, no_statement, read_table, rest_table, row, statement_note, statement_use, switch_table, use_table, uses_more, uses_none}

module _ {fn : List ℕ} {s t : ℕ} (P : Part fn 2 s t) where
  -- where a place of a use, read or switch begins, statements end
  place_begins : (i : ℕ) → i ≤ t → row P i ≡ 3 → Placed fn s i × (row P (root_before fn i) ≡ 2)
  place_begins i m e =
      let p : in_place (row P i) ≡ true = rw e refl in
      (part_placed P i m p, omega (arith, part_root P i m p))

  -- behind a use, and behind a note
  step_use : (j : ℕ) → j < t → op fn j ≡ 5 → row P j ≡ 3 → ((x : ℕ) → x < suc j → s ≤ x → row P x ≡ 2 → Statements fn s x) → Statements fn s (suc j)
  step_use j l o e f =
      let (p, r) = place_begins j (omega arith) e in
      statement_use (f (root_before fn j) (omega (arith, p.high)) p.low r) p o

  -- behind a note
  step_note : (j : ℕ) → j < t → op fn j ≡ 7 → row P j ≡ 5 → ((x : ℕ) → x < suc j → s ≤ x → row P x ≡ 2 → Statements fn s x) → Statements fn s (suc j)
  step_note j l o e f =
      let c : in_place (row P j) ≡ true = rw e refl in
      let p = part_placed P j (omega arith) c in
      let r : row P (root_before fn j) ≡ 4 = omega (arith, part_root P j (omega arith) c) in
      let m = p.high in
      let (a, b, q) = part_read P (root_before fn j) (omega arith) r in
      let k = root_before fn j - 1 in
      let d = part_back P (λ k. eqb k 4) (λ k o. eqb o 6 && eqb k 3) read_table (root_before fn j) a (omega arith) (eq-eqb (row P (root_before fn j)) 4 r) in
      let (_, g) = place_begins k (omega arith) (eqb-true (row P k) 3 (search and_right)) in
      let z : root_before fn j ≡ suc k = omega arith in
      statement_note (f (root_before fn k) (omega (arith, q.high)) q.low g) q b z p o

  -- behind either
  step_back : (j : ℕ) → s ≤ j → j < t → row P (suc j) ≡ 2 → ((x : ℕ) → x < suc j → s ≤ x → row P x ≡ 2 → Statements fn s x) → Statements fn s (suc j)
  step_back j l m e f =
      let c = part_says P (λ k o. eqb (after k o) 2) (λ k o. eqb o 5 && eqb k 3 || eqb o 7 && eqb k 5) rest_table j l m
      (eq-eqb (after (row P j) (op fn j)) 2 (sym (before_next fn 2 s j l) ∙ e)) in
      split (eqb (op fn j) 5 && eqb (row P j) 3)
      (λ d. step_use j m (eqb-true (op fn j) 5 (search and_left)) (eqb-true (row P j) 3 (search and_right)) f)
      (λ d.
      let g : eqb (op fn j) 7 && eqb (row P j) 5 ≡ true = rw d at c in
      step_note j m (eqb-true (op fn j) 7 (search and_left)) (eqb-true (row P j) 5 (search and_right)) f)

  -- wherever a statement may begin, statements stand before
  statements : (n i : ℕ) → i ≤ n → s ≤ i → i ≤ t → row P i ≡ 2 → Statements fn s i
  statements zero i l m u e = let q : i ≡ s = omega arith in rw q no_statement
  statements (suc n) zero l m u e = let q : s ≡ 0 = omega arith in rw q no_statement
  statements (suc n) (suc j) l m u e = elim (dec_lt j s) [
    | yes v ↦ let q : s ≡ suc j = omega arith in rw q no_statement
    | no v ↦ step_back j (omega arith) u e (λ x y z w. statements n x (omega arith) z (omega arith) w)
  ]

module _ {fn : List ℕ} (A : FunctionFacts fn) where
  -- the entry part
  entry_uses_from : (n i : ℕ) → i ≤ n → i ≤ start fn 0 → before_entry fn i ≡ 0 → Uses fn i
  entry_uses_from zero i l m e = let q : i ≡ 0 = omega arith in rw q uses_none
  entry_uses_from (suc n) zero l m e = uses_none
  entry_uses_from (suc n) (suc j) l m e =
      let P = entry_part A in
      let k = before_entry fn j in
      let c = part_says P (λ k o. eqb (after k o) 0) (λ k o. eqb o 5 && eqb k 1) use_table j (omega arith) m
      (eq-eqb (after k (op fn j)) 0 (sym (before_next fn 0 0 j (omega arith)) ∙ e)) in
      let r = eqb-true k 1 (search and_right) in
      let i : in_place k ≡ true = rw r refl in
      let p = part_placed P j (omega arith) i in
      let h = p.high in
      uses_more (entry_uses_from n (root_before fn j) (omega arith) (omega arith) (omega (arith, part_root P j (omega arith) i))) p (eqb-true (op fn j) 5 (search and_left))

  -- the whole of it
  pub entry_grammar : Uses fn (start fn 0)
  entry_grammar = entry_uses_from (start fn 0) (start fn 0) (omega arith) (omega arith) (entry_ends A)

  -- behind a switch
  arms_from : {b : ℕ} (n i : ℕ) → stop fn b ≤ i + n → Holds fn b i → 9 ≤ op fn i → op fn i ≤ 10 → is_arm fn i ≡ false → Arms fn (stop fn b) i
  unfolding is_arm
  arms_from {b} zero i z h l m a = absurd (omega (arith, h.high))
  arms_from {b} (suc n) i z h l m a = elim (ℕ_discrete (op fn i) 10) [
    | yes e ↦ arms_last e (target_last A h e a)
    | no e ↦
        let d : op fn i ≡ 9 = omega arith in
        let (k, c) = arm_next A h d in
        let q : suc i - 1 ≡ i = omega arith in
        let r : suc (suc i) - 1 ≡ suc i = omega arith in
        let (j, u, v) = armed_next A k c (rw (q, d) refl) in
        arms_more d c (arms_from n (suc (suc i)) (omega arith) j u v (rw (r, c) refl))
  ]

  -- the arms and targets of a switch
  switch_arms : {b e : ℕ} → Holds fn b e → op fn e ≡ 8 → Arms fn (stop fn b) (suc e)
  unfolding is_arm
  switch_arms {b} {e} h o =
      let (k, l, m) = switch_next A h o in
      let q : suc e - 1 ≡ e = omega arith in
      arms_from (stop fn b) (suc e) (omega arith) k l m (rw (q, o) refl)

  -- each block
  pub block_grammar : {b : ℕ} → b < nblocks fn → Block fn b
  block_grammar {b} l =
      let (e, E) = block_ender A l in
      let h = E.holds in
      let P = block_part A l in
      let k = before_at fn b e in
      let begin : (i : ℕ) → start fn b ≤ i → i ≤ e → before_at fn b i ≡ 2 → Statements fn (start fn b) i = λ i u v w. statements P i i (omega arith) u (omega (arith, h.high)) w in
      elim (ℕ_discrete (op fn e) 8) [
        | yes o ↦
            let c = part_says P (λ k o. eqb o 8) (λ k o. eqb k 2 || eqb k 3) switch_table e h.low h.high (eq-eqb (op fn e) 8 o) in
            split (eqb k 2)
            (λ d. block_constant (begin e h.low (omega arith) (eqb-true k 2 d)) o (switch_arms h o))
            (λ d.
            let (p, r) = place_begins P e (omega (arith, h.high)) (eqb-true k 3 (rw d at c)) in
            block_switch (begin (root_before fn e) p.low (omega (arith, p.high)) r) p o (switch_arms h o))
        | no o ↦
            let (u, z) = ender_last A E (omega (arith, E.code)) in
            let c = part_says P (λ k o. leb 10 o && leb k 5) (λ k o. eqb k 2 && leb o 12) exit_table e h.low h.high
            (cc (le-leb 10 (op fn e) u, le-leb k 5 (body_row A E e (omega arith)))) in
            block_exit (begin e h.low (omega arith) (eqb-true k 2 (search and_left))) u (leb-true (op fn e) 12 (search and_right)) z
      ]
