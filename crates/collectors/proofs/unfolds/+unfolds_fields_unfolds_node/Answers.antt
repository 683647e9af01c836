-- What is left of `unfolds_fields` and `unfolds_node`: the trees that a `requires` says are there are taken apart to show what the calls ask; what
-- is ensured are the laws of `Opens`.
use Rattle.std.proofs.Common.{refl, ◌<◌, arith}
use Rattle.std.proofs.lemmas.Result.{err_from_is_err_and}
use Rattle.state.proofs.Fields.{ready_counted, ready_typed, ready_sized}
use Rattle.type_record.proofs.KindLaws.{eq_true, eq_false}
use Rattle.type_record.specs.declared.kinds.Kind.TheVariants.{Enum}
use Rattle.collectors.proofs.Trails.{hop_keeps, keeps_then, way_first, way_next}
use Rattle.collectors.proofs.Reading.{none_left, one_left, siblings_type, siblings_room, siblings_left, kids_siblings, kids_length}
use Rattle.collectors.proofs.Standing.{long_kept, stands_first, stands_in, stands_openable, stands_below, stands_enough}
use Rattle.collectors.proofs.Opens.{unfold_leaf, unfold_seven, unfold_one, unfold_below, unfolds_none, unfolds_refused, unfolds_next, unfolds_more}
use Rattle.collectors.proofs.unfolds.+unfolds_fields_unfolds_node.Goals as goal

pub unfolds_fields-returns-then-ks-eq0-clause-opening_all : goal.unfolds_fields-returns-then-ks-eq0-clause-opening_all
unfolds_fields-returns-then-ks-eq0-clause-opening_all t c =
    unfolds_none (none_left c.args.types.now.words.now c.args.k c.if-ks-eq0.true) c.requires.counted c.reached.ensures

pub unfolds_fields-unfolds_node-requires : goal.unfolds_fields-unfolds_node-requires
unfolds_fields-unfolds_node-requires t c =
    let more : 0 < c.args.k.kids.count = omega arith in
    let one = one_left c.args.types.now.words.now c.args.k more c.part_at-t.ensures in
    let tree = stands_first c.requires.stand_all one c.hop-n.ensures.high in (
      omega (arith, c.decreases),
      (siblings_type c.requires.siblings more c.part_at-t.ensures, (tree, (long_kept c.requires.long (omega arith) (omega arith), c.requires.counted))),
    )

pub unfolds_fields-returns-in_err-a-clause-keeps : goal.unfolds_fields-returns-in_err-a-clause-keeps
unfolds_fields-returns-in_err-a-clause-keeps t c =
    hop_keeps c.requires.long (omega (arith, c.requires.stand_all.room)) c.hop-n.ensures c.unfolds_node.ensures.keeps

pub unfolds_fields-returns-in_err-a-clause-opening_all : goal.unfolds_fields-returns-in_err-a-clause-opening_all
unfolds_fields-returns-in_err-a-clause-opening_all t c =
    let more : 0 < c.args.k.kids.count = omega arith in
    let one = one_left c.args.types.now.words.now c.args.k more c.part_at-t.ensures in
    let p = err_from_is_err_and c.from_residual.result c.from_residual.ensures.1 in
    rw (p.1, p.2) (unfolds_refused one c.in_err-a.ensures.opening)

pub unfolds_fields-left-rest-requires : goal.unfolds_fields-left-rest-requires
unfolds_fields-left-rest-requires t c = siblings_room c.requires.siblings (omega arith) c.args.types.now.ready

pub unfolds_fields-unfolds_fields-requires : goal.unfolds_fields-unfolds_fields-requires
unfolds_fields-unfolds_fields-requires t c =
    let more : 0 < c.args.k.kids.count = omega arith in
    let one = one_left c.args.types.now.words.now c.args.k more c.part_at-t.ensures in
    let next = unfolds_next one c.in_ok-a.ensures.opening c.requires.stand_all in
    rw c.left-rest.ensures (
      omega (arith, next, c.decreases),
      (siblings_left c.requires.siblings more 0 _, (next.0, (long_kept c.requires.long (omega arith) (omega arith), next.3))),
    )

pub unfolds_fields-returns-clause-keeps : goal.unfolds_fields-returns-clause-keeps
unfolds_fields-returns-clause-keeps t c =
    let keeps = hop_keeps c.requires.long (omega (arith, c.requires.stand_all.room)) c.hop-n.ensures c.unfolds_node.ensures.keeps in
    let rest = rw c.left-rest.ensures at c.unfolds_fields.ensures.keeps in
    keeps_then keeps rest

pub unfolds_fields-returns-clause-opening_all : goal.unfolds_fields-returns-clause-opening_all
unfolds_fields-returns-clause-opening_all t c =
    let more : 0 < c.args.k.kids.count = omega arith in
    let one = one_left c.args.types.now.words.now c.args.k more c.part_at-t.ensures in
    let keeps = hop_keeps c.requires.long (omega (arith, c.requires.stand_all.room)) c.hop-n.ensures c.unfolds_node.ensures.keeps in
    let rest = rw c.left-rest.ensures at c.unfolds_fields.ensures.opening_all in
    let ways = way_next c.args.k 0 0 keeps in
    unfolds_more one c.in_ok-a.ensures.opening (way_first c.hop-n.ensures) ways rest

pub unfolds_node-overflow_add-next : goal.unfolds_node-overflow_add-next
unfolds_node-overflow_add-next t c = omega (arith, stands_in c.requires.stands)

pub unfolds_node-offset_bounds-forms-i : goal.unfolds_node-offset_bounds-forms-i
unfolds_node-offset_bounds-forms-i t c = omega (arith, stands_in c.requires.stands)

pub unfolds_node-bounds-forms-i : goal.unfolds_node-bounds-forms-i
unfolds_node-bounds-forms-i t c = omega (arith, stands_in c.requires.stands)

pub unfolds_node-returns-then-forms-i-eq0-clause-opening : goal.unfolds_node-returns-then-forms-i-eq0-clause-opening
unfolds_node-returns-then-forms-i-eq0-clause-opening t c =
    unfold_leaf (ready_typed c.args.types.now.ready).known c.if-forms-i-eq0.true c.requires.counted c.reached.ensures

pub unfolds_node-bounds-whats-i : goal.unfolds_node-bounds-whats-i
unfolds_node-bounds-whats-i t c = omega (arith, stands_in c.requires.stands)

pub unfolds_node-kids_of-ks-requires-clause-openable : goal.unfolds_node-kids_of-ks-requires-clause-openable
unfolds_node-kids_of-ks-requires-clause-openable t c = stands_openable c.requires.stands c.if-forms-i-eq0.false

pub unfolds_node-all_folded-requires : goal.unfolds_node-all_folded-requires
unfolds_node-all_folded-requires t c =
    omega (arith, stands_enough c.requires.stands c.if-forms-i-eq0.false, kids_length c.kids_of-ks.ensures)

pub unfolds_node-returns-then-eq-clause-opening : goal.unfolds_node-returns-then-eq-clause-opening
unfolds_node-returns-then-eq-clause-opening t c =
    let is7 = eq_true _ Enum c.kind_at-kind.ensures c.eq.ensures c.if-eq.true refl in
    let told = unfold_seven (ready_typed c.args.types.now.ready).known c.if-forms-i-eq0.false (kids_length c.kids_of-ks.ensures) c.all_folded.ensures in
    told c.if-all_folded.true is7

pub unfolds_node-overflow_add-next-then-all_folded : goal.unfolds_node-overflow_add-next-then-all_folded
unfolds_node-overflow_add-next-then-all_folded t c =
    omega (arith, stands_enough c.requires.stands c.if-forms-i-eq0.false, kids_length c.kids_of-ks.ensures)

pub unfolds_node-returns-then-all_folded-clause-opening : goal.unfolds_node-returns-then-all_folded-clause-opening
unfolds_node-returns-then-all_folded-clause-opening t c =
    let other = eq_false _ Enum c.kind_at-kind.ensures c.eq.ensures c.if-eq.false refl in
    let told = unfold_one (ready_typed c.args.types.now.ready).known c.if-forms-i-eq0.false (kids_length c.kids_of-ks.ensures) c.all_folded.ensures in
    told c.if-all_folded.true other (c.record-r.ensures.puts, c.record-r.ensures.at) c.reached-then-all_folded.ensures

pub unfolds_node-unfolds_fields-requires : goal.unfolds_node-unfolds_fields-requires
unfolds_node-unfolds_fields-requires t c =
    let trees = stands_below c.requires.stands c.if-forms-i-eq0.false in
    let small : c.from.result < 65536 = omega (arith, c.from.ensures, c.type_inv.whats c.args.c.second) in (
      omega (arith, stands_in c.requires.stands, c.decreases),
      (kids_siblings c.kids_of-ks.ensures c.args.types.now.ready small, (rw c.kids_of-ks.ensures.all trees, (c.requires.long, c.requires.counted))),
    )

pub unfolds_node-returns-clause-opening : goal.unfolds_node-returns-clause-opening
unfolds_node-returns-clause-opening t c =
    let told = unfold_below (ready_typed c.args.types.now.ready).known c.if-forms-i-eq0.false (kids_length c.kids_of-ks.ensures) c.all_folded.ensures c.if-all_folded.false in
    told c.kids_of-ks.ensures.all c.kind_at-kind.ensures c.from.ensures c.unfolds_fields.ensures.opening_all
