-- `assign::list::places_end` meets its contract: k operands end where those that are left do. Assumes nothing.
use mathlib.Core.Path.{sym, ◌∙◌}
use Prim.Native.Nat.{◌+◌, ◌-◌}
use native.Mathlib.Omega.{arith}
use Rattle.assign.proofs.Checking.{places_out, places_ended, places_on, places_none}
use Rattle.assign.proofs.list.places_end.Goals as goal

pub returns-then-list-a : goal.returns-then-list-a
returns-then-list-a c =
    let L = c.loop in
    let k = c.args.k in
    places_out _ L.a (k - L.counter) (k - (L.counter + 1)) (omega arith) c.if-list-a.true ∙ sym L.invariant

pub returns-in_err-a : goal.returns-in_err-a
returns-in_err-a c =
    let L = c.loop in
    let k = c.args.k in
    rw c.from_residual.ensures (places_ended _ L.a (k - L.counter) (k - (L.counter + 1)) (omega arith) c.in_err-a.ensures ∙ sym L.invariant)

pub loop-preserved : goal.loop-preserved
loop-preserved c =
    let L = c.loop in
    let k = c.args.k in
    L.invariant ∙ places_on _ L.a (k - L.counter) (k - (L.counter + 1)) (omega arith) c.in_ok-a.ensures c.if-list-a.false

pub returns : goal.returns
returns c =
    let L = c.loop in
    places_none _ L.a (c.args.k - L.counter) (omega arith) ∙ sym L.invariant
