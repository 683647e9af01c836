-- `blocks::join_points::fill_join_points` meets its contract: the blocks before b have their share's number, those from b on their count
-- of incoming target items. Assumes nothing.
use mathlib.Core.Path.{◌≡◌, sym, ap, ◌∙◌}
use mathlib.Core.Bool.{Bool, true, false, ◌||◌, ◌&&◌}
use mathlib.Core.List.{List}
use Prim.Native.Nat.{ℕ, suc, ◌+◌, ◌≤◌, ◌<◌}
use native.Mathlib.Numerals.{add-one}
use native.Mathlib.Omega.{arith}
use native.Mathlib.Decide.{ℕ_discrete}
use lib.Dec.{eqb, ltb}
use lib.ListN.{length, get_or, set}
use lib.Seq.{get_or-set_same, get_or-set_other}
use Rattle.model.specs.Words.{count_below}
use Rattle.model.specs.Function.{nblocks}
use Rattle.model.specs.Block.{incoming, is_join_point, join_points}
use Rattle.base.specs.Below.{count_zero, count_pass, count_fail, count_most}
use Rattle.blocks.specs.Points.{share_number}
use Rattle.blocks.proofs.join_points.fill_join_points.Invariants.{Numbered}
use Rattle.blocks.proofs.join_points.fill_join_points.Goals as goal
use Rattle.blocks.proofs.join_points.fill_join_points.Goals.{then-is_join, else-is_join}

numbered_none : (fn points : List ℕ) → ((c : ℕ) → c < nblocks fn → get_or points c 0 ≡ incoming fn c) → Numbered fn points 0 0
numbered_none fn points h = record { so_far = sym (count_zero (is_join_point fn)); done = λ c l. absurd (omega arith); ahead = λ c m l. h c l }

module _ (fn points : List ℕ) (k b : ℕ) (N : Numbered fn points k b) where
  numbered_most : k ≤ b
  numbered_most = rw N.so_far (count_most (is_join_point fn) b)

  numbered_count : b ≡ nblocks fn → k ≡ join_points fn
  unfolding join_points
  numbered_count z = N.so_far ∙ ap (count_below (is_join_point fn)) z

  module _ (l : b < nblocks fn) (m : b < length points) (t : Bool) (e : t ≡ ltb 1 (get_or points b 0) || (eqb b 0 && ltb 0 (get_or points b 0))) where
    is_point : t ≡ is_join_point fn b
    unfolding is_join_point
    is_point = rw (← N.ahead b (omega arith) l) e

    -- one block more
    numbered_set : (v j : ℕ) → v ≡ share_number fn b → j ≡ count_below (is_join_point fn) (suc b) → Numbered fn (set points b v) j (b + 1)
    numbered_set v j s n = record {
      so_far = rw add-one n;
      done = λ c o. elim (ℕ_discrete c b) [
        | yes q ↦ rw (q, get_or-set_same points b v 0 m) s
        | no d ↦ rw (get_or-set_other points b c v 0 d) (N.done c (omega arith))
      ];
      ahead = λ c o u. rw (get_or-set_other points b c v 0 (λ q. omega arith)) (N.ahead c (omega arith) u);
    }

    numbered_join : t ≡ true → Numbered fn (set points b (k + 1)) (k + 1) (b + 1)
    unfolding share_number
    numbered_join j =
        let p : is_join_point fn b ≡ true = sym is_point ∙ j in
        numbered_set (k + 1) (k + 1) (rw p (omega (arith, N.so_far))) (rw (count_pass (is_join_point fn) b p) (omega (arith, N.so_far)))

    numbered_plain : t ≡ false → Numbered fn (set points b 0) k (b + 1)
    unfolding share_number
    numbered_plain j =
        let p : is_join_point fn b ≡ false = sym is_point ∙ j in
        numbered_set 0 k (rw p) (rw (count_fail (is_join_point fn) b p) N.so_far)

pub loop-b-init : goal.loop-b-init
loop-b-init c = numbered_none _ c.count_incoming.new.counts c.count_incoming.ensures.1

pub overflow_add-k : goal.overflow_add-k
overflow_add-k c = omega (arith, numbered_most _ c.loop-b.points c.loop-b.k c.loop-b.b c.loop-b.invariant, c.requires)

pub loop-b-preserved : goal.loop-b-preserved
loop-b-preserved c =
    let L = c.loop-b in
    let f = c.is_join in
    let m : L.b < length L.points = omega (arith, c.requires) in
    elim c.if-is_join.branch [
      | then-is_join w ↦ rw (w.points-is, w.k-is) (numbered_join _ L.points L.k L.b L.invariant (omega arith) m f.result f.ensures w.if-is_join.true)
      | else-is_join w ↦ rw (w.points-is, w.k-is) (numbered_plain _ L.points L.k L.b L.invariant (omega arith) m f.result f.ensures w.if-is_join.false)
    ]

pub returns : goal.returns
returns c =
    let L = c.loop-b in record { count = numbered_count _ L.points L.k L.b L.invariant (omega arith); shares = (omega arith, λ b l. L.invariant.done b (omega arith)) }
