-- What is left of `folds_fields` and `folds_node`: the trees that a `requires` says are there are taken apart to show what the calls ask; what is
-- ensured are the laws of `Owes`.
use Rattle.std.proofs.Common.{refl, ◌<◌, arith}
use Rattle.state.proofs.Fields.{ready_counted, ready_typed, ready_sized}
use Rattle.type_record.proofs.KindLaws.{eq_true, eq_false}
use Rattle.type_record.specs.declared.kinds.Kind.TheVariants.{Pointer, Reference}
use Rattle.collectors.proofs.Trails.{keeps_then, hop_keeps, way_first, way_next, added_keeps}
use Rattle.collectors.proofs.Reading.{none_left, one_left, siblings_type, siblings_room, siblings_left, kids_siblings}
use Rattle.collectors.proofs.Standing.{long_kept, stands_first, stands_in, stands_openable, stands_below}
use Rattle.collectors.proofs.Owes.{folds_none, folds_next, folds_more, fold_leaf, fold_plain, fold_mut, fold_below}
use Rattle.collectors.proofs.folds.+folds_fields_folds_node.Goals as goal

pub folds_fields-returns-then-ks-eq0-clause-owing_all : goal.folds_fields-returns-then-ks-eq0-clause-owing_all
folds_fields-returns-then-ks-eq0-clause-owing_all t c =
    folds_none (none_left c.args.types.now.words.now c.args.k c.if-ks-eq0.true) c.requires.counted c.reached.ensures

pub folds_fields-folds_node-a-requires : goal.folds_fields-folds_node-a-requires
folds_fields-folds_node-a-requires t c =
    let more : 0 < c.args.k.kids.count = omega arith in
    let one = one_left c.args.types.now.words.now c.args.k more c.part_at-t.ensures in
    let tree = stands_first c.requires.stand_all one c.hop-n.ensures.high in (
      omega (arith, c.decreases),
      (siblings_type c.requires.siblings more c.part_at-t.ensures, (tree, (long_kept c.requires.long (omega arith) (omega arith), c.requires.counted))),
    )

pub folds_fields-left-rest-requires : goal.folds_fields-left-rest-requires
folds_fields-left-rest-requires t c = siblings_room c.requires.siblings (omega arith) c.args.types.now.ready

pub folds_fields-folds_fields-requires : goal.folds_fields-folds_fields-requires
folds_fields-folds_fields-requires t c =
    let more : 0 < c.args.k.kids.count = omega arith in
    let one = one_left c.args.types.now.words.now c.args.k more c.part_at-t.ensures in
    let next = folds_next one c.folds_node-a.ensures.owing c.requires.stand_all in
    rw c.left-rest.ensures (
      omega (arith, next, c.decreases),
      (siblings_left c.requires.siblings more _ 0, (next.0, (long_kept c.requires.long (omega arith) (omega arith), next.3))),
    )

pub folds_fields-returns-clause-keeps : goal.folds_fields-returns-clause-keeps
folds_fields-returns-clause-keeps t c =
    let keeps = hop_keeps c.requires.long (omega (arith, c.requires.stand_all.room)) c.hop-n.ensures c.folds_node-a.ensures.keeps in
    let rest = rw c.left-rest.ensures at c.folds_fields.ensures.keeps in
    keeps_then keeps rest

pub folds_fields-returns-clause-owing_all : goal.folds_fields-returns-clause-owing_all
folds_fields-returns-clause-owing_all t c =
    let more : 0 < c.args.k.kids.count = omega arith in
    let one = one_left c.args.types.now.words.now c.args.k more c.part_at-t.ensures in
    let keeps = hop_keeps c.requires.long (omega (arith, c.requires.stand_all.room)) c.hop-n.ensures c.folds_node-a.ensures.keeps in
    let rest = rw c.left-rest.ensures at c.folds_fields.ensures.owing_all in
    let ways = way_next c.args.k 0 0 keeps in
    folds_more one c.folds_node-a.ensures.owing (way_first c.hop-n.ensures) ways rest

pub folds_node-overflow_add-next : goal.folds_node-overflow_add-next
folds_node-overflow_add-next t c = omega (arith, stands_in c.requires.stands)

pub folds_node-offset_bounds-forms-i : goal.folds_node-offset_bounds-forms-i
folds_node-offset_bounds-forms-i t c = omega (arith, stands_in c.requires.stands)

pub folds_node-bounds-forms-i : goal.folds_node-bounds-forms-i
folds_node-bounds-forms-i t c = omega (arith, stands_in c.requires.stands)

pub folds_node-returns-then-forms-i-eq0-clause-owing : goal.folds_node-returns-then-forms-i-eq0-clause-owing
folds_node-returns-then-forms-i-eq0-clause-owing t c =
    fold_leaf (ready_typed c.args.types.now.ready).known c.if-forms-i-eq0.true c.requires.counted c.reached.ensures

pub folds_node-returns-then-eq-clause-owing : goal.folds_node-returns-then-eq-clause-owing
folds_node-returns-then-eq-clause-owing t c =
    fold_plain c.if-forms-i-eq0.false (eq_true _ Pointer c.kind_at-kind.ensures c.eq.ensures c.if-eq.true refl) c.requires.counted c.node_end-e.ensures c.reached-then-eq.ensures

pub folds_node-returns-then-eq-2-clause-keeps : goal.folds_node-returns-then-eq-2-clause-keeps
folds_node-returns-then-eq-2-clause-keeps t c =
    added_keeps c.requires.long (omega (arith, c.requires.stands.room)) c.set_item.ensures

pub folds_node-returns-then-eq-2-clause-owing : goal.folds_node-returns-then-eq-2-clause-owing
folds_node-returns-then-eq-2-clause-owing t c =
    let is2 = eq_true _ Reference c.kind_at-kind.ensures c.eq-2.ensures c.if-eq-2.true refl in
    let put = rw c.set_item.ensures.items at c.record-r.ensures.puts in
    fold_mut c.if-forms-i-eq0.false is2 (put, c.record-r.ensures.at) c.node_end-e-then-eq-2.ensures c.reached-then-eq-2.ensures

pub folds_node-bounds-whats-i : goal.folds_node-bounds-whats-i
folds_node-bounds-whats-i t c = omega (arith, stands_in c.requires.stands)

pub folds_node-kids_of-requires-clause-openable : goal.folds_node-kids_of-requires-clause-openable
folds_node-kids_of-requires-clause-openable t c = stands_openable c.requires.stands c.if-forms-i-eq0.false

pub folds_node-folds_fields-requires : goal.folds_node-folds_fields-requires
folds_node-folds_fields-requires t c =
    let trees = stands_below c.requires.stands c.if-forms-i-eq0.false in
    let small : c.from.result < 65536 = omega (arith, c.from.ensures, c.type_inv.whats c.args.c.first) in (
      omega (arith, stands_in c.requires.stands, c.decreases),
      (kids_siblings c.kids_of.ensures c.args.types.now.ready small, (rw c.kids_of.ensures.all trees, (c.requires.long, c.requires.counted))),
    )

pub folds_node-returns-clause-owing : goal.folds_node-returns-clause-owing
folds_node-returns-clause-owing t c =
    let other = eq_false _ Pointer c.kind_at-kind.ensures c.eq.ensures c.if-eq.false refl in
    let others = eq_false _ Reference c.kind_at-kind.ensures c.eq-2.ensures c.if-eq-2.false refl in
    let told = fold_below c.if-forms-i-eq0.false (ready_typed c.args.types.now.ready).known other others in
    told c.kids_of.ensures.all c.kind_at-kind.ensures c.from.ensures c.folds_fields.ensures.owing_all
