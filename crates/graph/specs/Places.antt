-- Where places stand: a root, then items 1 to 4, inside one block or the entry part; behind it the item that uses it. Before the
-- place of a note stands a read with its place.
use Rattle.std.specs.Prelude.{◌≡◌, refl, Bool, false, cond, ◌&&◌, ◌||◌, List}
use Rattle.std.proofs.Math.Bool.{true}
use Prim.Native.Nat.{ℕ, suc, ◌-◌, ◌≤◌, ◌<◌}
use native.Mathlib.Omega.{arith}
use Rattle.std.proofs.Math.Decide.{dec_lt}
use Rattle.std.proofs.Math.Dec.{eqb, leb}
use borrow.Author.Tests.{leb-true, lt-ltb, le-leb, eq-eqb, ne_eqb, ltb-true}
use Rattle.model.specs.Words.{all}
use Rattle.model.specs.Function.{start, op, follow_table, may_follow, after}
use Rattle.model.specs.Block.{root_before, uses_place}
use Rattle.base.specs.Tests.{and_left, and_right}
use Rattle.graph.specs.Ranges.{Holds}
use Rattle.graph.specs.Follow.{Checked}
use Rattle.graph.specs.Items.{before_from}

-- what stands before an item is a place: in the entry part, of a use, read or switch, of a note
abbrev pub in_place : ℕ → Bool
in_place k = eqb k 1 || eqb k 3 || eqb k 5

-- there are rows 0 to 8
pub row_table : Checked (λ k o. true) (λ k o. leb (after k o) 8)
unfolding all may_follow follow_table after
row_table = refl

-- a place is a root, or a place and one element more
pub place_table : Checked (λ k o. in_place (after k o)) (λ k o. eqb o 0 || (leb o 4 && in_place k))
unfolding all may_follow follow_table after
place_table = refl

-- a root begins a place, any other element stays in it
pub root_table : Checked (λ k o. in_place (after k o)) (λ k o. eqb (after k o) (cond (eqb o 0) (suc k) k))
unfolding all may_follow follow_table after
root_table = refl

-- a read stands behind a place
pub read_table : Checked (λ k o. eqb (after k o) 4) (λ k o. eqb o 6 && in_place k)
unfolding all may_follow follow_table after
read_table = refl

-- so do a use and a note
pub action_table : Checked (λ k o. leb 5 o && leb o 7) (λ k o. in_place k)
unfolding all may_follow follow_table after
action_table = refl

-- behind an element stands a place
pub element_table : Checked (λ k o. leb o 4) (λ k o. in_place (after k o))
unfolding all may_follow follow_table after
element_table = refl

-- in the entry part stand places and uses alone
pub entry_table : Checked (λ k o. leb k 1) (λ k o. leb o 5)
unfolding all may_follow follow_table after
entry_table = refl

-- a note's place is the second of the two
pub note_table : Checked (λ k o. eqb o 7) (λ k o. eqb k 5)
unfolding all may_follow follow_table after
note_table = refl

-- the entry part ends with a use
pub over_table : Checked (λ k o. eqb (after k o) 0) (λ k o. eqb o 5 || leb 10 o)
unfolding all may_follow follow_table after
over_table = refl

-- a block ends with a target, a return or a stop
pub end_table : Checked (λ k o. eqb (after k o) 8) (λ k o. eqb o 5 || leb 10 o)
unfolding all may_follow follow_table after
end_table = refl

-- the items before i are a place, from s on
pub record Placed (fn : List ℕ) (s i : ℕ) : Type 0 where
  pub low : s ≤ root_before fn i
  pub high : root_before fn i < i
  pub root : op fn (root_before fn i) ≡ 0
  pub elements : (x : ℕ) → root_before fn i < x → x < i → (1 ≤ op fn x) × (op fn x ≤ 4)

-- the read before the place of the note i
pub record Reads (fn : List ℕ) (b i : ℕ) : Type 0 where
  pub holds : Holds fn b (root_before fn i - 1)
  pub next : suc (root_before fn i - 1) ≡ root_before fn i
  pub code : op fn (root_before fn i - 1) ≡ 6
  pub placed : Placed fn (start fn b) (root_before fn i - 1)

module _ {fn : List ℕ} {s : ℕ} where
  -- a root is a place
  pub placed_root : {i : ℕ} → s ≤ i → op fn i ≡ 0 → Placed fn s (suc i)
  unfolding root_before
  placed_root {i} l e =
      let q : root_before fn (suc i) ≡ i = cc (eq-eqb (op fn i) 0 e) in
      record { low = omega arith; high = omega arith; root = cc; elements = λ x m n. absurd (omega arith) }

  -- one element more
  pub placed_more : {i : ℕ} → Placed fn s i → 1 ≤ op fn i → op fn i ≤ 4 → Placed fn s (suc i)
  unfolding root_before
  placed_more {i} H l m =
      let q : root_before fn (suc i) ≡ root_before fn i = cc (ne_eqb (op fn i) 0 (λ e. omega arith)) in
      record {
        low = rw q H.low;
        high = rw q (omega (arith, H.high));
        root = rw q H.root;
        elements = λ x u v. elim (dec_lt x i) [ yes w ↦ H.elements x (rw q at u) w | no w ↦ let z : x ≡ i = omega arith in rw z (l, m) ];
      }

  -- the item before is the root, or one of its elements
  pub placed_before : {i : ℕ} → Placed fn s i → op fn (i - 1) ≤ 4
  placed_before {i} H = elim (dec_lt (root_before fn i) (i - 1)) [
    | yes l ↦ (H.elements (i - 1) l (omega (arith, H.high))).1
    | no l ↦ let q : i - 1 ≡ root_before fn i = omega (arith, H.high) in rw q (omega (arith, H.root))
  ]

  -- an item behind a place uses it
  pub placed_uses : {i : ℕ} → Placed fn s i → 5 ≤ op fn i → op fn i ≤ 8 → uses_place fn i ≡ true
  unfolding uses_place
  placed_uses {i} H l m = cc (le-leb 5 (op fn i) l, le-leb (op fn i) 8 m, lt-ltb 0 i (omega (arith, H.high)), le-leb (op fn (i - 1)) 4 (placed_before H))

-- before an item that uses a place stands an element
pub uses_back : (fn : List ℕ) (i : ℕ) → uses_place fn i ≡ true → (0 < i) × (op fn (i - 1) ≤ 4)
unfolding uses_place
uses_back fn i e = (ltb-true 0 i (search (and_left, and_right)), leb-true (op fn (i - 1)) 4 (search (and_left, and_right)))

-- items that follow one another as the table has it, from s up to t
pub record Part (fn : List ℕ) (first s t : ℕ) : Type 0 where
  pub low : first ≤ 2
  pub fresh : in_place first ≡ false
  pub follows : (i : ℕ) → s ≤ i → i < t → may_follow (before_from fn first s i) (op fn i) ≡ true
