-- The ender of a block: the first item from 8 on. Before it stand places, uses, reads and notes alone. It is a target, a return or
-- a stop, which is the block's last item; or a switch, behind which stand arms with their targets, and one target more, the last.
use Rattle.std.specs.Prelude.{refl, false, ◌&&◌, ◌||◌, List, leb}
use Prim.Native.Nat.{ℕ, ◌-◌, ◌≤◌, ◌<◌}
use native.Mathlib.Omega.{arith}
use Rattle.std.proofs.Math.Dec.{eqb}
use Rattle.model.specs.Words.{all}
use Rattle.model.specs.Function.{nblocks, start, stop, op, follow_table, may_follow, after}
use Rattle.base.specs.Function.{FunctionFacts}
use Rattle.graph.specs.Ranges.{Holds}
use Rattle.graph.specs.Follow.{Checked}

-- FACTS OF THE TABLE

-- from an ender's first item on, the rows are those of an ender
pub ender_table : Checked (λ k o. leb 8 o || leb 6 k) (λ k o. leb 6 (after k o))
unfolding all may_follow follow_table after
ender_table = refl

-- in those rows stand arms and targets alone
pub inside_table : Checked (λ k o. leb 6 k) (λ k o. leb 9 o && leb o 10)
unfolding all may_follow follow_table after
inside_table = refl

-- up to a note, the rows of the body are left by no item
pub body_table : Checked (λ k o. leb o 7 && leb k 5) (λ k o. leb (after k o) 5)
unfolding all may_follow follow_table after
body_table = refl

-- in the body stand items up to a switch, and else what ends the block
pub first_table : Checked (λ k o. leb k 5) (λ k o. leb o 8 || leb 10 o && eqb (after k o) 8)
unfolding all may_follow follow_table after
first_table = refl

-- a target, a return or a stop ends a block
pub last_table : Checked (λ k o. eqb (after k o) 8) (λ k o. leb 10 o && leb o 12)
unfolding all may_follow follow_table after
last_table = refl

-- nothing follows the end
pub over_table : Checked (λ k o. eqb k 8) (λ k o. false)
unfolding all may_follow follow_table after
over_table = refl

-- a switch and an arm do not end the block
pub on_table : Checked (λ k o. leb o 9) (λ k o. leb (after k o) 7)
unfolding all may_follow follow_table after
on_table = refl

-- behind an arm stands a target, and then an arm or a target
pub arm_table : Checked (λ k o. eqb k 7) (λ k o. eqb o 10 && eqb (after k o) 6)
unfolding all may_follow follow_table after
arm_table = refl

-- an arm has a row of its own
pub armed_table : Checked (λ k o. eqb o 9) (λ k o. eqb (after k o) 7)
unfolding all may_follow follow_table after
armed_table = refl

-- which no other item leads to
pub back_table : Checked (λ k o. eqb (after k o) 7) (λ k o. eqb o 9)
unfolding all may_follow follow_table after
back_table = refl

-- a target stands behind an arm, or ends the block
pub target_table : Checked (λ k o. eqb o 10) (λ k o. eqb k 7 || eqb (after k o) 8)
unfolding all may_follow follow_table after
target_table = refl

-- e is the first item of the ender of the block b
pub record Ender (fn : List ℕ) (b e : ℕ) : Type 0 where
  pub holds : Holds fn b e
  pub code : 8 ≤ op fn e
  pub body : (x : ℕ) → start fn b ≤ x → x < e → op fn x ≤ 7

module _ {fn : List ℕ} (A : FunctionFacts fn) where
  -- GOING ON, AND THE LAST ITEM

  -- a block's last item lies in it
  pub last_holds : {b : ℕ} → b < nblocks fn → Holds fn b (stop fn b - 1)
  last_holds {b} l = let m = A.starts _ l in record { block = l; low = omega arith; high = omega arith }
