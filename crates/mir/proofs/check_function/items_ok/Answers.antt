-- `mir::check_function::items_ok` meets its contract. What is left of the walk decides as the whole does. Assumes nothing.
use mathlib.Core.Path.{◌≡◌, ◌∙◌, sym, ap}
use Prim.Native.Nat.{ℕ, ◌+◌, ◌-◌}
use native.Mathlib.Omega.{arith}
use borrow.Author.Rules.{rules}
use Rattle.model.specs.Function.{nitems, after, items_from, items_ok}
use Rattle.mir.proofs.Turns.{Turn, turn_begun, turn_same, items_torn, items_over}
use Rattle.mir.proofs.check_function.items_ok.Goals.{then-begins+else-not-may_begin, else-begins}
use Rattle.mir.proofs.check_function.items_ok.Goals as goal

pub loop-i-init : goal.loop-i-init
unfolding items_ok
loop-i-init c =
    let fn = c.args.fun.now.words.now in
    let e : (nitems fn) - 0 ≡ nitems fn = omega arith in
    (search rules, ap (λ (k : ℕ). items_from fn k 0 0 0) e)

pub returns-then-not-may_begin : goal.returns-then-not-may_begin
returns-then-not-may_begin c =
    let fn = c.args.fun.now.words.now in
    let e = sym c.begins.ensures ∙ c.if-begins.true in
    let o = sym c.may_begin.ensures ∙ c.if-not-may_begin.true in
    sym (items_torn fn (nitems fn) c.loop-i.i c.loop-i.b c.loop-i.before (omega arith) e o) ∙ c.loop-i.invariant.1

pub returns-then-not-item_ok : goal.returns-then-not-item_ok
returns-then-not-item_ok c =
    let fn = c.args.fun.now.words.now in
    let n = nitems fn in
    let l = c.loop-i in
    -- what is tested behind what, once the block that begins at the item is counted
    let t : Turn fn n l.i l.b l.before c.if-begins.b c.if-begins.before =
    elim c.if-begins.branch [
      | then-begins+else-not-may_begin w ↦
          turn_begun fn n l.i l.b l.before (omega arith) (sym c.begins.ensures ∙ w.if-begins.true) (sym w.may_begin.ensures ∙ w.if-not-may_begin.false) w.b-is w.before-is
      | else-begins w ↦ turn_same fn n l.i l.b l.before (omega arith) (sym c.begins.ensures ∙ w.if-begins.false) w.b-is w.before-is
    ] in
    let e = sym c.item_ok.ensures ∙ c.if-not-item_ok.true in
    sym (t.fails e) ∙ c.loop-i.invariant.1

pub loop-i-preserved : goal.loop-i-preserved
loop-i-preserved c =
    let fn = c.args.fun.now.words.now in
    let n = nitems fn in
    let l = c.loop-i in
    -- what is tested behind what, once the block that begins at the item is counted
    let t : Turn fn n l.i l.b l.before c.if-begins.b c.if-begins.before =
    elim c.if-begins.branch [
      | then-begins+else-not-may_begin w ↦
          turn_begun fn n l.i l.b l.before (omega arith) (sym c.begins.ensures ∙ w.if-begins.true) (sym w.may_begin.ensures ∙ w.if-not-may_begin.false) w.b-is w.before-is
      | else-begins w ↦ turn_same fn n l.i l.b l.before (omega arith) (sym c.begins.ensures ∙ w.if-begins.false) w.b-is w.before-is
    ] in
    let e = sym c.item_ok.ensures ∙ c.if-not-item_ok.false in
    let d = c.after-before.ensures ∙ ap (after c.if-begins.before) c.op_of.ensures in (
      omega (arith, t.counted),
      ap (λ (k : ℕ). items_from fn (nitems fn - (c.loop-i.i + 1)) (c.loop-i.i + 1) c.if-begins.b k) d ∙ sym (t.passes e) ∙ c.loop-i.invariant.1,
    )

pub returns : goal.returns
returns c =
    let fn = c.args.fun.now.words.now in
    sym (items_over fn (nitems fn) c.loop-i.i c.loop-i.b c.loop-i.before (omega arith)) ∙ c.loop-i.invariant.1
