-- `body::tries::try_arms` meets its contract: the block's exits are what is left to try from item i on.
use mathlib.Core.Path.{◌≡◌, refl, sym, ◌∙◌}
use Prim.Native.Nat.{ℕ, ◌-◌, ◌≤◌, ◌<◌}
use native.Mathlib.Omega.{arith}
use Rattle.std.proofs.lemmas.Result.{err_from_is_err_and}
use Rattle.model.specs.Function.{op}
use Rattle.base.specs.Each.{each_none}
use Rattle.body.proofs.Plans.{leads_same, leads_on, trying_skip, trying_denied, trying_taken, trying_over, planned_refused, planned_match, planned_ended}
use Rattle.body.proofs.Matches.{match_sought, match_item, match_last, match_behind, match_first}
use Rattle.body.proofs.tries.try_arms.Goals as goal
use Rattle.body.proofs.tries.try_arms.Goals.{then-op_of-eq-TARGET+else-op_of-ne-ARM+in_ok-try_arm, else-op_of-eq-TARGET}

-- an item that the loop has is one of the block's
inside : {f e i s t : ℕ} → f ≡ s → e ≡ t → f ≤ i → i < e → (s ≤ i) × (i < t)
inside p q l m = (omega arith, omega arith)

pub loop-i-init : goal.loop-i-init
loop-i-init c =
    let p = c.requires in
    (p.blank.long, match_first c.args.fun.now.accepted p.b_bound p.cases c.start_of-i.ensures c.stop_of-i-end.ensures p.stated p.blank)

pub op_of-requires : goal.op_of-requires
op_of-requires c =
    record {
      i_bound = let p = c.requires in
          let (m, l) = inside c.start_of-i.ensures c.stop_of-i-end.ensures c.loop-i.auto.i c.loop-i-test.true in
          match_item c.args.fun.now.accepted p.b_bound p.cases m l;
    }

pub overflow_sub-i : goal.overflow_sub-i
overflow_sub-i c =
    let p = c.requires in
    let (m, l) = inside c.start_of-i.ensures c.stop_of-i-end.ensures c.loop-i.auto.i c.loop-i-test.true in
    match_behind c.args.fun.now.accepted p.b_bound p.cases m l (sym c.op_of.ensures ∙ c.if-op_of-eq-TARGET.true)

pub op_of-requires-then-op_of-eq-TARGET : goal.op_of-requires-then-op_of-eq-TARGET
op_of-requires-then-op_of-eq-TARGET c =
    record {
      i_bound = let p = c.requires in
          let (m, l) = inside c.start_of-i.ensures c.stop_of-i-end.ensures c.loop-i.auto.i c.loop-i-test.true in
          omega (arith, match_item c.args.fun.now.accepted p.b_bound p.cases m l);
    }

pub try_other-requires-clause-sought : goal.try_other-requires-clause-sought
try_other-requires-clause-sought c = let p = c.requires in match_sought c.args.fun.now.accepted p.b_bound p.cases p.stated

pub returns-then-op_of-ne-ARM : goal.returns-then-op_of-ne-ARM
returns-then-op_of-ne-ARM c E h =
    let L = c.loop-i in
    let p = c.requires in
    let (m, l) = inside c.start_of-i.ensures c.stop_of-i-end.ensures L.auto.i c.loop-i-test.true in
    let t = sym c.op_of.ensures ∙ c.if-op_of-eq-TARGET.true in
    let a : op c.args.fun.now.record.words.now (L.i - 1) ≡ 9 → ⊥ = λ z. c.if-op_of-ne-ARM.true (c.op_of-then-op_of-eq-TARGET.ensures ∙ z) in
    let e = match_last c.args.fun.now.accepted p.b_bound p.cases m l t a ∙ sym c.stop_of-i-end.ensures in
    planned_ended p.cases.is (L.invariant.1 E h) (match_sought c.args.fun.now.accepted p.b_bound p.cases p.stated) c.loop-i-test.true t a e (c.try_other.ensures E h)

pub try_arm-requires-clause-sought : goal.try_arm-requires-clause-sought
try_arm-requires-clause-sought c = let p = c.requires in match_sought c.args.fun.now.accepted p.b_bound p.cases p.stated

pub try_arm-requires-clause-preceded : goal.try_arm-requires-clause-preceded
try_arm-requires-clause-preceded c =
    let p = c.requires in
    let (m, l) = inside c.start_of-i.ensures c.stop_of-i-end.ensures c.loop-i.auto.i c.loop-i-test.true in
    (match_behind c.args.fun.now.accepted p.b_bound p.cases m l (sym c.op_of.ensures ∙ c.if-op_of-eq-TARGET.true), match_item c.args.fun.now.accepted p.b_bound p.cases m l)

pub returns-in_err-try_arm : goal.returns-in_err-try_arm
returns-in_err-try_arm c E h =
    let L = c.loop-i in
    let t = sym c.op_of.ensures ∙ c.if-op_of-eq-TARGET.true in
    let r = err_from_is_err_and c.from_residual.result c.from_residual.ensures.1 in
    rw (r.1, r.2) (planned_refused c.requires.cases.is (L.invariant.1 E h)
    (trying_denied _ _ _ E _ L.i _ c.loop-i-test.true t (sym c.op_of-then-op_of-eq-TARGET.ensures ∙ c.if-op_of-ne-ARM.false) _ ((c.in_err-try_arm.ensures E h).denied _ refl)))

pub loop-i-preserved : goal.loop-i-preserved
loop-i-preserved c =
    let L = c.loop-i in (
      c.if-op_of-eq-TARGET.auto.taken ∙ L.invariant.0,
      λ E h. elim c.if-op_of-eq-TARGET.branch [
        | then-op_of-eq-TARGET+else-op_of-ne-ARM+in_ok-try_arm w ↦ leads_on (L.invariant.1 E h)
            (rw w.taken-is (trying_taken _ _ _ E _ L.i L.taken c.loop-i-test.true (sym c.op_of.ensures ∙ w.if-op_of-eq-TARGET.true)
            (sym w.op_of-then-op_of-eq-TARGET.ensures ∙ w.if-op_of-ne-ARM.false) ((w.in_ok-try_arm.ensures E h).fine refl)))
        | else-op_of-eq-TARGET w ↦ leads_on (L.invariant.1 E h)
            (leads_same (rw w.taken-is (trying_skip _ _ _ E _ L.i L.taken c.loop-i-test.true (λ z. w.if-op_of-eq-TARGET.false (c.op_of.ensures ∙ z)))))
      ],
    )

pub returns : goal.returns
returns c E h =
    let p = c.requires in
    let L = c.loop-i in
    planned_match p.cases.is (L.invariant.1 E h) (match_sought c.args.fun.now.accepted p.b_bound p.cases p.stated) (trying_over _ _ _ E _ L.i _ c.loop-i-test.false) each_none
