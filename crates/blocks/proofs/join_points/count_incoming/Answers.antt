-- `blocks::join_points::count_incoming` meets its contract: the target items before item i are counted. Assumes nothing.
use mathlib.Core.Path.{◌≡◌, refl, sym, ap, ◌∙◌}
use mathlib.Core.Bool.{true, false}
use mathlib.Core.List.{List}
use Prim.Native.Nat.{ℕ, ◌+◌, ◌≤◌, ◌<◌}
use native.Mathlib.Numerals.{add-one}
use native.Mathlib.Omega.{arith}
use native.Mathlib.Decide.{ℕ_discrete}
use borrow.Author.Tests.{eq-eqb, ne_eqb}
use lib.ListN.{length, get_or, set}
use lib.Seq.{get_or-set_same, get_or-set_other}
use Rattle.model.specs.Words.{count_below}
use Rattle.model.specs.Function.{nblocks, nitems, op, arg}
use Rattle.model.specs.Block.{incoming}
use Rattle.base.specs.Below.{count_zero, count_pass, count_fail, count_most}
use Rattle.blocks.proofs.Spots.{target_block}
use Rattle.mir.specs.Sizes.{Formed}
use Rattle.blocks.proofs.join_points.count_incoming.Invariants.{Counted, aims}
use Rattle.blocks.proofs.join_points.count_incoming.Goals as goal
use Rattle.blocks.proofs.join_points.count_incoming.Goals.{then-op_of-eq-TARGET, else-op_of-eq-TARGET}

counted_none : (fn counts : List ℕ) → ((c : ℕ) → get_or counts c 0 ≡ 0) → Counted fn counts 0
counted_none fn counts z c l = z c ∙ sym (count_zero (aims fn c))

counted_all : (fn counts : List ℕ) (i : ℕ) → Counted fn counts i → i ≡ nitems fn → (c : ℕ) → c < nblocks fn → get_or counts c 0 ≡ incoming fn c
unfolding incoming
counted_all fn counts i h z c l = h c l ∙ ap (count_below (aims fn c)) z

module _ (fn counts : List ℕ) (i : ℕ) (h : Counted fn counts i) where
  counted_other : (op fn i ≡ 10 → ⊥) → Counted fn counts (i + 1)
  counted_other d c l = let f : aims fn c i ≡ false = cc (ne_eqb (op fn i) 10 d) in rw add-one (h c l ∙ sym (count_fail (aims fn c) i f))

  counted_target : op fn i ≡ 10 → (x v : ℕ) → x ≡ arg fn i → x < length counts → v ≡ get_or counts x 0 + 1 → Counted fn (set counts x v) (i + 1)
  counted_target t x v a m e c l = elim (ℕ_discrete c x) [
    | yes q ↦
        let f : aims fn c i ≡ true = cc (eq-eqb (op fn i) 10 t, eq-eqb (arg fn i) c (cc)) in
        rw (add-one i, count_pass (aims fn c) i f, q, get_or-set_same counts x v 0 m) (omega (arith, h x (omega arith)))
    | no d ↦
        let f : aims fn c i ≡ false = cc (eq-eqb (op fn i) 10 t, ne_eqb (arg fn i) c (λ q. d (cc))) in
        rw (add-one i, count_fail (aims fn c) i f, get_or-set_other counts x c v 0 d) (h c l)
  ]

  counted_most : (x : ℕ) → x < nblocks fn → get_or counts x 0 ≤ i
  counted_most x l = rw (h x l) (count_most (aims fn x) i)

-- the target names a block, whose count is small
named : {fn : List ℕ} → Formed fn → (i o a : ℕ) → i < nitems fn → o ≡ op fn i → o ≡ 10 → a ≡ arg fn i → a < nblocks fn
named F i o a l e z d =
    let t = target_block F {i = i} l (sym e ∙ z) in
    omega arith

pub loop-i-init : goal.loop-i-init
loop-i-init c = counted_none _ c.args.counts.now c.requires.zeros

pub bounds-counts-arg_of : goal.bounds-counts-arg_of
bounds-counts-arg_of c =
    omega (arith, named c.requires.formed c.loop-i.i _ _ (omega arith) c.op_of.ensures c.if-op_of-eq-TARGET.true c.arg_of.ensures, c.requires)

pub overflow_add-counts : goal.overflow_add-counts
overflow_add-counts c =
    let L = c.loop-i in
    omega (arith, counted_most _ L.counts L.i L.invariant c.arg_of.result (named c.requires.formed L.i _ _ (omega arith) c.op_of.ensures c.if-op_of-eq-TARGET.true c.arg_of.ensures), c.requires)

pub bounds-counts-arg_of-then-op_of-eq-TARGET : goal.bounds-counts-arg_of-then-op_of-eq-TARGET
bounds-counts-arg_of-then-op_of-eq-TARGET c =
    omega (arith, named c.requires.formed c.loop-i.i _ _ (omega arith) c.op_of.ensures c.if-op_of-eq-TARGET.true c.arg_of.ensures, c.requires)

pub loop-i-preserved : goal.loop-i-preserved
loop-i-preserved c =
    let L = c.loop-i in
    let f = c.op_of in
    elim c.if-op_of-eq-TARGET.branch [
      | then-op_of-eq-TARGET w ↦
          let t = w.if-op_of-eq-TARGET.true in
          let m : w.arg_of.result < length L.counts = omega (arith, named c.requires.formed L.i _ _ (omega arith) f.ensures t w.arg_of.ensures, c.requires) in
          rw w.counts-is (counted_target _ L.counts L.i L.invariant (sym f.ensures ∙ t) w.arg_of.result _ w.arg_of.ensures m refl)
      | else-op_of-eq-TARGET w ↦ rw w.counts-is (counted_other _ L.counts L.i L.invariant (λ z. w.if-op_of-eq-TARGET.false (f.ensures ∙ z)))
    ]

pub returns : goal.returns
returns c = let L = c.loop-i in (omega arith, counted_all _ L.counts L.i L.invariant (omega arith))
