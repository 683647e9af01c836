-- `whole_crate::each` meets its contract: the functions before the k-th are accepted, and the others are next.
use mathlib.Core.Path.{refl, ap, ◌∙◌}
use Prim.Native.Nat.{ℕ, ◌+◌, ◌-◌, ◌*◌, ◌≤◌}
use native.Mathlib.Omega.{arith}
use lib.ListN.{length, replicate}
use Rattle.model.specs.Words.{word}
use Rattle.whole_crate.proofs.Going.{going_first, going_blank, going_last, going_stops, going_room, going_on}
use Rattle.whole_crate.proofs.each.Goals as goal
use Rattle.whole_crate.proofs.each.Goals.{In-Ok}

pub loop-k-init : goal.loop-k-init
loop-k-init c =
    let a = c.args in
    let z = c.requires.all_zero in
    going_first a.types.now.words.now a.words.now (length a.forms.now) (length a.whats.now) (length a.out.now) _ a.forms.now a.whats.now a.out.now c.requires.counted.0 z.forms z.whats z.blank refl refl

pub record_end-end-requires : goal.record_end-end-requires
record_end-end-requires c = c.loop-k.invariant.within

pub one-requires-clause-blank_from : goal.one-requires-clause-blank_from
one-requires-clause-blank_from c = going_blank _ _ _ _ _ _ c.loop-k.invariant

-- the record of an accepted function fits
room : (c : In-Ok) → c.loop-k.used + (2 + 2 * c.in-Ok.g.entries) ≤ length c.args.out.now
room c =
    let K = c.one.auto in
    going_room _ _ _ _ _ _ c.loop-k.invariant (word c.args.words.now 0 - (c.loop-k.k + 1)) (omega arith) c.record_end-end.ensures c.in-Ok.ensures K.forms K.whats refl

pub overflow_mul-used : goal.overflow_mul-used
overflow_mul-used c = omega (arith, room (goal.at.overflow_mul-used c).In-Ok)

pub overflow_add-used : goal.overflow_add-used
overflow_add-used c = omega (arith, room (goal.at.overflow_add-used c).In-Ok)

pub overflow_add-used-in-Ok : goal.overflow_add-used-in-Ok
overflow_add-used-in-Ok c = omega (arith, room (goal.at.overflow_add-used-in-Ok c).In-Ok)

pub returns-in-Err : goal.returns-in-Err
returns-in-Err c =
    let K = c.one.auto in
    going_stops _ _ _ _ _ _ c.loop-k.invariant (word c.args.words.now 0 - (c.loop-k.k + 1)) (omega arith) c.record_end-end.ensures c.in-Err.ensures K.forms K.whats refl
    (c.fill.ensures.after (λ y e. e) ∙ ap (λ (x : ℕ). replicate x 0) (K.out ∙ c.loop-k.auto.out))

pub loop-k-preserved : goal.loop-k-preserved
loop-k-preserved c =
    let K = c.one.auto in
    going_on _ _ _ _ _ _ c.loop-k.invariant (word c.args.words.now 0 - (c.loop-k.k + 1)) (omega arith) c.record_end-end.ensures c.in-Ok.ensures K.forms K.whats refl

pub returns : goal.returns
returns c = going_last _ _ _ _ _ _ c.loop-k.invariant (omega arith)
