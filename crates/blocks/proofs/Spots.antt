-- The places of a function record that passes refusal 2: the items of a place that is used are read as that place, and stand in the
-- record as `op` and `arg` have them.
use mathlib.Core.Path.{◌≡◌, refl}
use mathlib.Core.Bool.{Bool, true, false, ◌||◌}
use mathlib.Core.List.{List, ◌∷◌}
use mathlib.Core.Option.{some}
use Prim.Native.Nat.{ℕ, zero, suc, ◌+◌, ◌-◌, ◌≤◌, ◌<◌}
use native.Mathlib.Nat.{add-suc}
use native.Mathlib.Numerals.{add-one}
use native.Mathlib.Omega.{arith}
use native.Mathlib.Decide.{dec_lt}
use borrow.Author.Tests.{le-leb, lt-ltb, ltb-true, eq-eqb, ne_eqb}
use lib.Dec.{eqb}
use lib.ListN.{length, drop, length-drop}
use lib.Seq.{drop-cons, length-take-le}
use Rattle.model.specs.Function.{nlocals, nargs, nblocks, nitems, start, stop, op, arg, arg_ok, function_sizes}
use Rattle.model.specs.Block.{root_before, elems, spot_before, uses_place}
use Rattle.model.specs.Calls.{elems_of, spot_of}
use Rattle.base.specs.Tests.{split}
use Rattle.base.specs.Function.{FunctionFacts, facts_of, stop_inside}
use Rattle.records.specs.Spots.{item_ok}
use Rattle.graph.proofs.Ranges.{item_holds}
use Rattle.graph.specs.Places.{Placed}
use Rattle.graph.proofs.Places.{place_placed, action_uses, entry_op}
use Rattle.mir.specs.Sizes.{Laid, Formed}
use Rattle.mir.specs.Parts.{ops_start, ops_part, args_part, Spotted}

-- the laws of crate graph hold
pub formed_accepted : {fn : List ℕ} → Formed fn → FunctionFacts fn
unfolding function_sizes
formed_accepted {fn} F =
    let L = F.laid in
    facts_of fn (cc (
      le-leb 1 (nlocals fn) L.some_locals,
      le-leb (nlocals fn) 256 L.most_locals,
      lt-ltb (nargs fn) (nlocals fn) L.few_args,
      le-leb 1 (nblocks fn) L.some_blocks,
      le-leb (nblocks fn) 256 L.most_blocks,
      le-leb (nitems fn) 16384 L.most_items,
      eq-eqb (length fn) (4 + nlocals fn + nblocks fn + nblocks fn + nitems fn + nitems fn) L.whole,
    )) F.starts F.ranks F.items

-- no block ends past the items
pub block_stop : {fn : List ℕ} → Formed fn → {b : ℕ} → b < nblocks fn → stop fn b ≤ nitems fn
block_stop F {b} l = stop_inside (formed_accepted F) b

-- ROOTS

module _ (fn : List ℕ) where
  -- the root behind item i
  pub root_now : (i : ℕ) → op fn i ≡ 0 → i ≡ root_before fn (i + 1)
  unfolding root_before
  root_now i e = rw (add-one i) (cc (eq-eqb (op fn i) 0 e))

  pub root_kept : (i : ℕ) → (op fn i ≡ 0 → ⊥) → root_before fn i ≡ root_before fn (i + 1)
  unfolding root_before
  root_kept i d = rw (add-one i) (cc (ne_eqb (op fn i) 0 d))

  pub root_zero : root_before fn 0 ≡ 0
  unfolding root_before
  root_zero = refl

  pub root_less : (i : ℕ) → 0 < i → root_before fn i < i
  unfolding root_before
  root_less zero l = absurd (omega arith)
  root_less (suc i) l = split (eqb (op fn i) 0)
      (λ e. rw (e, root_before) (omega arith))
      (λ e. elim (dec_lt 0 i) [
        | yes m ↦ rw (e, root_before) (omega (arith, root_less i m))
        | no m ↦ let z : i ≡ 0 = omega arith in rw (e, root_before) (rw z (omega arith))
      ])

-- PARTS

module _ {fn : List ℕ} (L : Laid fn) (i j : ℕ) (l : i ≤ j) (m : j ≤ nitems fn) where
  pub ops_long : length (ops_part fn i j) ≡ j - i
  unfolding ops_part
  ops_long = length-take-le (j - i) (drop (ops_start fn + i) fn) (rw length-drop (omega (arith, L.whole)))

-- one item more in front
module _ {fn : List ℕ} (L : Laid fn) (i j : ℕ) (l : i < j) (m : j ≤ nitems fn) where
  pub ops_cons : ops_part fn i j ≡ op fn i ∷ ops_part fn (suc i) j
  unfolding ops_part op
  ops_cons =
      let s : j - i ≡ suc (j - suc i) = omega arith in
      rw (add-suc (ops_start fn) i, s, drop-cons fn (ops_start fn + i) 0 (omega (arith, L.whole)))

  pub args_cons : args_part fn i j ≡ arg fn i ∷ args_part fn (suc i) j
  unfolding args_part arg
  args_cons =
      let s : j - i ≡ suc (j - suc i) = omega arith in
      rw (add-suc (ops_start fn + nitems fn) i, s, drop-cons fn (ops_start fn + nitems fn + i) 0 (omega (arith, L.whole)))

-- PLACES

-- a test of four without the one that fails
or_drop : (a z t u n : Bool) → z ≡ false → n ≡ false → a || z || t || u || n ≡ true → a || t || u ≡ true
or_drop a z t u n d e h = split a (λ f. split t (λ g. cc) (λ g. cc)) (λ f. split t (λ g. cc) (λ g. split u (λ k. cc) (λ k. cc)))

-- the items of a place are elements'
element_ok : (fn : List ℕ) (x : ℕ) → 1 ≤ op fn x → op fn x ≤ 4 → arg_ok fn x ≡ true → item_ok (op fn x) (arg fn x) ≡ true
unfolding arg_ok
element_ok fn x l m e =
    let o = op fn x in
    let h = or_drop (eqb (arg fn x) 0) (eqb o 0) (eqb o 2) (eqb o 3) (eqb o 9) (ne_eqb o 0 (λ d. omega arith)) (ne_eqb o 9 (λ d. omega arith))
    (rw (ne_eqb o 10 (λ d. omega arith)) at e) in
    rw (le-leb 1 o l, le-leb o 4 m) h

module _ {fn : List ℕ} (F : Formed fn) where
  abbrev A : FunctionFacts fn
  A = formed_accepted F

  -- items 1 to 4 are read as the elements
  pub elems_read : (n i j : ℕ) → i + n ≡ j → j ≤ nitems fn → ((x : ℕ) → i ≤ x → x < j → (1 ≤ op fn x) × (op fn x ≤ 4))
      → elems_of (ops_part fn i j) (args_part fn i j) ≡ some (elems fn n i)
  unfolding elems_of elems ops_part args_part
  elems_read zero i j z m h = let s : j - i ≡ 0 = omega arith in rw s
  elems_read (suc n) i j z m h =
      let (u, v) = h i (omega arith) (omega arith) in
      rw (ops_cons F.laid i j (omega arith) m, args_cons F.laid i j (omega arith) m)
      (cc (element_ok fn i u v (A.args i (omega arith)), elems_read n (suc i) j (omega arith) m (λ x y w. h x (omega arith) w)))

  -- a used place stands in the record
  pub used_in : {i : ℕ} → i < nitems fn → uses_place fn i ≡ true → Placed fn 0 i
  used_in l e = place_placed A l e

  -- a root and its elements are read as the place
  pub placed_read : {s i : ℕ} → i ≤ nitems fn → Placed fn s i
      → spot_of (ops_part fn (root_before fn i) i) (args_part fn (root_before fn i) i) ≡ some (spot_before fn i)
  unfolding spot_of spot_before
  placed_read {s} {i} l P =
      let r = root_before fn i in
      rw (ops_cons F.laid r i P.high l, args_cons F.laid r i P.high l)
      (cc (eq-eqb (op fn r) 0 P.root, elems_read (i - suc r) (suc r) i (omega (arith, P.high)) l P.elements))

  -- the items of a used place are read as the place
  pub used_read : {i : ℕ} → i < nitems fn → uses_place fn i ≡ true
      → spot_of (ops_part fn (root_before fn i) i) (args_part fn (root_before fn i) i) ≡ some (spot_before fn i)
  used_read l e = placed_read (omega arith) (used_in l e)

  pub used_spotted : {i : ℕ} → i < nitems fn → uses_place fn i ≡ true
      → Spotted (ops_part fn (root_before fn i) i) (args_part fn (root_before fn i) i)
  used_spotted {i} l e = record { spot = spot_before fn i; is = used_read l e }

  -- a note has a place
  pub note_uses : {i : ℕ} → i < nitems fn → op fn i ≡ 7 → uses_place fn i ≡ true
  note_uses {i} l e = elim (dec_lt i (start fn 0)) [
    | yes m ↦ absurd (omega (arith, entry_op A m))
    | no m ↦ action_uses A (item_holds A i (omega arith) l) (omega arith) (omega arith)
  ]

  -- a target item names a block
  pub target_block : {i : ℕ} → i < nitems fn → op fn i ≡ 10 → arg fn i < nblocks fn
  unfolding arg_ok
  target_block {i} l e = ltb-true (arg fn i) (nblocks fn) (rw (eq-eqb (op fn i) 10 e) at (A.args i l))
