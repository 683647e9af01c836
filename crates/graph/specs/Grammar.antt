-- What the items of an accepted function record are, in document 01's words: "Before start[0] stand only places with use"; "a block is
-- any number of [place use] or [place read place note], then one ender: target; return; stop; or [place, or none for a constant]
-- switch, any number of [arm target], target".
use Rattle.std.specs.Prelude.{◌≡◌, refl, ◌&&◌, ◌||◌, List, eqb, leb}
use Prim.Native.Nat.{ℕ, suc, ◌≤◌}
use Rattle.model.specs.Words.{all}
use Rattle.model.specs.Function.{start, stop, op, follow_table, may_follow, after}
use Rattle.model.specs.Block.{root_before}
use Rattle.graph.specs.Follow.{Checked}
use Rattle.graph.specs.Items.{before_from}
use Rattle.graph.specs.Places.{Placed, Part}

-- places with use, from the first item up to item i
pub data Uses (fn : List ℕ) : ℕ → Type 0 where
  uses_none : Uses fn 0
  uses_more : {i : ℕ} → Uses fn (root_before fn i) → Placed fn 0 i → op fn i ≡ 5 → Uses fn (suc i)

-- any number of [place use] or [place read place note], from item s up to item i
pub data Statements (fn : List ℕ) (s : ℕ) : ℕ → Type 0 where
  no_statement : Statements fn s s
  statement_use : {i : ℕ} → Statements fn s (root_before fn i) → Placed fn s i → op fn i ≡ 5 → Statements fn s (suc i)
  statement_note : {i j : ℕ} → Statements fn s (root_before fn j) → Placed fn s j → op fn j ≡ 6
      → root_before fn i ≡ suc j → Placed fn s i → op fn i ≡ 7 → Statements fn s (suc i)

-- any number of [arm target], then a target, from item i up to item t
pub data Arms (fn : List ℕ) (t : ℕ) : ℕ → Type 0 where
  arms_last : {i : ℕ} → op fn i ≡ 10 → suc i ≡ t → Arms fn t i
  arms_more : {i : ℕ} → op fn i ≡ 9 → op fn (suc i) ≡ 10 → Arms fn t (suc (suc i)) → Arms fn t i

-- a block: a target, a return or a stop behind its statements; a switch on a constant; a switch on a place
pub data Block (fn : List ℕ) (b : ℕ) : Type 0 where
  block_exit : {e : ℕ} → Statements fn (start fn b) e → 10 ≤ op fn e → op fn e ≤ 12 → suc e ≡ stop fn b → Block fn b
  block_constant : {e : ℕ} → Statements fn (start fn b) e → op fn e ≡ 8 → Arms fn (stop fn b) (suc e) → Block fn b
  block_switch : {e : ℕ} → Statements fn (start fn b) (root_before fn e) → Placed fn (start fn b) e → op fn e ≡ 8 → Arms fn (stop fn b) (suc e) → Block fn b

-- FACTS OF THE TABLE

-- a use behind its place, or a note behind its, ends a statement
pub rest_table : Checked (λ k o. eqb (after k o) 2) (λ k o. eqb o 5 && eqb k 3 || eqb o 7 && eqb k 5)
unfolding all may_follow follow_table after
rest_table = refl

-- in the entry part, a use behind its place
pub use_table : Checked (λ k o. eqb (after k o) 0) (λ k o. eqb o 5 && eqb k 1)
unfolding all may_follow follow_table after
use_table = refl

-- a switch stands behind a place, or where a statement may begin
pub switch_table : Checked (λ k o. eqb o 8) (λ k o. eqb k 2 || eqb k 3)
unfolding all may_follow follow_table after
switch_table = refl

-- a target, a return and a stop stand where a statement may begin
pub exit_table : Checked (λ k o. leb 10 o && leb k 5) (λ k o. eqb k 2 && leb o 12)
unfolding all may_follow follow_table after
exit_table = refl

-- a read stands behind its place
pub read_table : Checked (λ k o. eqb (after k o) 4) (λ k o. eqb o 6 && eqb k 3)
unfolding all may_follow follow_table after
read_table = refl

module _ {fn : List ℕ} {s t : ℕ} (P : Part fn 2 s t) where
  -- what stands before item i
  abbrev pub row : ℕ → ℕ
  row i = before_from fn 2 s i
