-- What is left of `settle_fields` and `settle_node`: each takes apart the tree that its `requires` says is there to show what its calls ask; what it
-- ensures are the laws of `Settles`.
use Rattle.std.proofs.Common.{◌∙◌, refl, sym, arith}
use lib.ListN.{length-set}
use Rattle.model.specs.Types.{kind}
use Rattle.records.specs.Coded.{coded_opened, coded_split}
use Rattle.type_record.proofs.KindLaws.{below_named}
use Rattle.state.proofs.Fields.{ready_typed, no_kids}
use Rattle.state.proofs.Standing.{node_in}
use Rattle.join.proofs.Settles.{stays_open, stays_named, settle_stays, settle_folds, settles_none, settles_full, settles_next, settles_over, settles_more}
use Rattle.join.proofs.settle.+settle_fields_settle_node.Goals as goal

pub settle_fields-returns-then-ks-eq0 : goal.settle_fields-returns-then-ks-eq0
settle_fields-returns-then-ks-eq0 t c = settles_none (no_kids _ _ c.if-ks-eq0.true) c.requires.room.low

pub settle_fields-settle_node-requires : goal.settle_fields-settle_node-requires
settle_fields-settle_node-requires t c =
    let S = coded_split (rw c.first_kid-t.ensures.all at c.requires.heres.coded) in (
      omega (arith, c.decreases),
      (c.first_kid-t.ensures.known, (record { tree = S.head; coded = S.here }, c.requires.room)),
    )

pub settle_fields-returns-in_err-a : goal.settle_fields-returns-in_err-a
settle_fields-returns-in_err-a t c = rw c.from_residual.ensures (settles_full c.first_kid-t.ensures.all c.in_err-a.ensures)

pub settle_fields-settle_fields-requires : goal.settle_fields-settle_fields-requires
settle_fields-settle_fields-requires t c =
    let R = c.requires.room in
    let N = settles_next c.first_kid-t.ensures.all c.in_ok-a.ensures (c.settle_node.auto.of ∙ R.forms) (c.settle_node.auto.ow ∙ R.whats) c.requires.heres in
    let e = c.rest_of_kids.ensures in
    (omega (arith, N, c.decreases), (rw e c.first_kid-t.ensures.rest, (rw e N.0, N.1)))

pub settle_fields-returns-in_err-b : goal.settle_fields-returns-in_err-b
settle_fields-returns-in_err-b t c =
    rw c.from_residual-in_err-b.ensures (settles_over c.first_kid-t.ensures.all c.in_ok-a.ensures (rw c.rest_of_kids.ensures at c.in_err-b.ensures))

pub settle_fields-returns-then-a : goal.settle_fields-returns-then-a
settle_fields-returns-then-a t c =
    settles_more c.first_kid-t.ensures.all c.in_ok-a.ensures (rw c.rest_of_kids.ensures at c.in_ok-b.ensures) (rw c.if-a.true refl)

pub settle_fields-returns-else-a : goal.settle_fields-returns-else-a
settle_fields-returns-else-a t c =
    settles_more c.first_kid-t.ensures.all c.in_ok-a.ensures (rw c.rest_of_kids.ensures at c.in_ok-b.ensures) (rw c.if-a.false refl)

pub settle_node-offset_bounds-forms-i : goal.settle_node-offset_bounds-forms-i
settle_node-offset_bounds-forms-i t c = omega (arith, node_in c.requires.here)

pub settle_node-bounds-forms-i : goal.settle_node-bounds-forms-i
settle_node-bounds-forms-i t c = (node_in c.requires.here).0

pub settle_node-bounds-whats-i : goal.settle_node-bounds-whats-i
settle_node-bounds-whats-i t c = (node_in c.requires.here).1

pub settle_node-kids_of-ks-requires-clause-openable : goal.settle_node-kids_of-ks-requires-clause-openable
settle_node-kids_of-ks-requires-clause-openable t c =
    (coded_opened c.requires.here.coded (stays_open _ _ _ (sym c.stays.ensures ∙ c.if-stays.true))).openable

pub settle_node-settle_fields-requires : goal.settle_node-settle_fields-requires
settle_node-settle_fields-requires t c =
    let R = c.requires.room in
    let O = coded_opened c.requires.here.coded (stays_open _ _ _ (sym c.stays.ensures ∙ c.if-stays.true)) in (
      omega (arith, node_in c.requires.here, c.decreases),
      (
        c.kids_of-ks.ensures.fields,
        (
          record { trees = O.children; coded = rw c.kids_of-ks.ensures.all O.below },
          record { forms = simp length-set R.forms; whats = simp length-set R.whats; low = omega arith },
        ),
      ),
    )

pub settle_node-returns-then-stays : goal.settle_node-returns-then-stays
settle_node-returns-then-stays t c =
    let R = c.requires.room in
    let K = c.kind_at-kind.ensures in
    settle_stays (omega (arith, R)) (omega (arith, R)) (sym (stays_named _ _ _ K c.stays.ensures) ∙ c.if-stays.true)
    (rw (c.kids_of-ks.ensures.all, c.below.ensures, K, below_named c.args.m (kind c.args.types.now.words.now c.args.t)) at c.settle_fields.ensures)

pub settle_node-returns : goal.settle_node-returns
settle_node-returns t c =
    settle_folds (ready_typed c.args.types.now.ready).known c.requires.room (omega arith) (sym (stays_named _ _ _ c.kind_at-kind.ensures c.stays.ensures) ∙ c.if-stays.false)
    c.node_end.ensures
