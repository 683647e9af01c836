-- What is left of `join_fields` and `join_node`: each takes apart the trees that its `requires` says are there to show what its calls ask; what it
-- ensures are the laws of `Joins`.
use Rattle.std.proofs.Common.{◌∙◌, refl, arith}
use lib.ListN.{length-set}
use Rattle.model.specs.Types.{kind}
use Rattle.records.specs.Coded.{coded_opened, coded_split}
use Rattle.type_record.proofs.KindLaws.{below_named}
use Rattle.state.proofs.Fields.{ready_typed, no_kids}
use Rattle.state.proofs.Standing.{node_in}
use Rattle.join.proofs.Settles.{stays_named}
use Rattle.join.proofs.Joins.{join_first_full, join_first, join_second_full, join_second, join_same, join_apart, joins_none, joins_full, joins_next, joins_over, joins_more}
use Rattle.join.proofs.trees.+join_fields_join_node.Goals as goal

pub join_fields-returns-then-ks-eq0 : goal.join_fields-returns-then-ks-eq0
join_fields-returns-then-ks-eq0 t c = joins_none (no_kids _ _ c.if-ks-eq0.true) c.requires.room.low

pub join_fields-join_node-requires : goal.join_fields-join_node-requires
join_fields-join_node-requires t c =
    let S = coded_split (rw c.first_kid-t.ensures.all at c.requires.heres.coded) in
    let T = coded_split (rw c.first_kid-t.ensures.all at c.requires.heres_2.coded) in (
      omega (arith, c.decreases),
      (c.first_kid-t.ensures.known, (record { tree = S.head; coded = S.here }, (record { tree = T.head; coded = T.here }, c.requires.room))),
    )

pub join_fields-returns-in_err-a : goal.join_fields-returns-in_err-a
join_fields-returns-in_err-a t c = rw c.from_residual.ensures (joins_full c.first_kid-t.ensures.all c.in_err-a.ensures)

pub join_fields-join_fields-requires : goal.join_fields-join_fields-requires
join_fields-join_fields-requires t c =
    let R = c.requires.room in
    let N = joins_next c.first_kid-t.ensures.all c.in_ok-a.ensures (c.join_node.auto.of ∙ R.forms) (c.join_node.auto.ow ∙ R.whats) c.requires.heres c.requires.heres_2 in
    let e = c.rest_of_kids-rest.ensures in
    (omega (arith, N, c.decreases), (rw e c.first_kid-t.ensures.rest, (rw e N.0, (rw e N.1, N.2))))

pub join_fields-returns-in_err-b : goal.join_fields-returns-in_err-b
join_fields-returns-in_err-b t c =
    rw c.from_residual-in_err-b.ensures (joins_over c.first_kid-t.ensures.all c.in_ok-a.ensures (rw c.rest_of_kids-rest.ensures at c.in_err-b.ensures))

pub join_fields-returns-then-a : goal.join_fields-returns-then-a
join_fields-returns-then-a t c =
    joins_more c.first_kid-t.ensures.all c.in_ok-a.ensures (rw c.rest_of_kids-rest.ensures at c.in_ok-b.ensures) (rw c.if-a.true refl)

pub join_fields-returns-else-a : goal.join_fields-returns-else-a
join_fields-returns-else-a t c =
    joins_more c.first_kid-t.ensures.all c.in_ok-a.ensures (rw c.rest_of_kids-rest.ensures at c.in_ok-b.ensures) (rw c.if-a.false refl)

pub join_node-offset_bounds-f1-i : goal.join_node-offset_bounds-f1-i
join_node-offset_bounds-f1-i t c = omega (arith, node_in c.requires.here)

pub join_node-bounds-f1-i : goal.join_node-bounds-f1-i
join_node-bounds-f1-i t c = (node_in c.requires.here).0

pub join_node-offset_bounds-f2-j : goal.join_node-offset_bounds-f2-j
join_node-offset_bounds-f2-j t c = omega (arith, node_in c.requires.here_2)

pub join_node-bounds-f2-j : goal.join_node-bounds-f2-j
join_node-bounds-f2-j t c = (node_in c.requires.here_2).0

pub join_node-returns-in_err-a : goal.join_node-returns-in_err-a
join_node-returns-in_err-a t c = rw c.from_residual.ensures (join_first_full (ready_typed c.args.types.now.ready).known c.if-f-eq0.true c.in_err-a.ensures)

pub join_node-overflow_add-to : goal.join_node-overflow_add-to
join_node-overflow_add-to t c = omega (arith, node_in c.requires.here)

pub join_node-returns-then-f-eq0 : goal.join_node-returns-then-f-eq0
join_node-returns-then-f-eq0 t c =
    rw (stays_named _ _ _ c.kind_at-kind.ensures c.stays.ensures) (join_first (ready_typed c.args.types.now.ready).known c.if-f-eq0.true c.in_ok-a.ensures)

pub join_node-returns-in_err-a-2 : goal.join_node-returns-in_err-a-2
join_node-returns-in_err-a-2 t c =
    rw c.from_residual-in_err-a-2.ensures (join_second_full (ready_typed c.args.types.now.ready).known c.if-f-eq0.false c.if-g-eq0.true c.in_err-a-2.ensures)

pub join_node-overflow_add-to-then-g-eq0 : goal.join_node-overflow_add-to-then-g-eq0
join_node-overflow_add-to-then-g-eq0 t c = omega (arith, node_in c.requires.here_2)

pub join_node-returns-then-g-eq0 : goal.join_node-returns-then-g-eq0
join_node-returns-then-g-eq0 t c = join_second (ready_typed c.args.types.now.ready).known c.if-f-eq0.false c.if-g-eq0.true c.in_ok-a-2.ensures

pub join_node-bounds-w1-i : goal.join_node-bounds-w1-i
join_node-bounds-w1-i t c = (node_in c.requires.here).1

pub join_node-bounds-w2-j : goal.join_node-bounds-w2-j
join_node-bounds-w2-j t c = (node_in c.requires.here_2).1

pub join_node-kids_of-ks-requires-clause-openable : goal.join_node-kids_of-ks-requires-clause-openable
join_node-kids_of-ks-requires-clause-openable t c = (coded_opened c.requires.here.coded c.if-f-eq0.false).openable

pub join_node-join_fields-requires : goal.join_node-join_fields-requires
join_node-join_fields-requires t c =
    let R = c.requires.room in
    let O = coded_opened c.requires.here.coded c.if-f-eq0.false in
    let P = coded_opened c.requires.here_2.coded c.if-g-eq0.false in
    let A = c.kids_of-ks.ensures.all in (
      omega (arith, node_in c.requires.here, c.decreases),
      (
        c.kids_of-ks.ensures.fields,
        (
          record { trees = O.children; coded = rw A O.below },
          (
            record { trees = P.children; coded = rw (A, c.if-w-w2.true) P.below },
            record { forms = simp length-set R.forms; whats = simp length-set R.whats; low = omega arith },
          ),
        ),
      ),
    )

pub join_node-returns-then-w-w2 : goal.join_node-returns-then-w-w2
join_node-returns-then-w-w2 t c =
    let R = c.requires.room in
    join_same c.if-f-eq0.false c.if-g-eq0.false (omega (arith, R)) (omega (arith, R)) c.if-w-w2.true
    (rw (c.kids_of-ks.ensures.all, c.below.ensures, c.kind_at-kind.ensures, below_named c.args.m (kind c.args.types.now.words.now c.args.t)) at c.join_fields.ensures)

pub join_node-returns : goal.join_node-returns
join_node-returns t c =
    join_apart c.if-f-eq0.false c.if-g-eq0.false c.requires.room (omega arith) c.if-w-w2.false c.node_end.ensures c.node_end-2.ensures
