-- What is left of `collect_fields` and `collect_node`: the trees that a `requires` says are there are taken apart to show what the calls ask; what
-- is ensured are the laws of `Leads`.
use Rattle.std.proofs.Common.{◌∙◌, ◌<◌, arith}
use Rattle.std.proofs.lemmas.Result.{err_from_is_err_and}
use Rattle.state.proofs.Fields.{ready_counted, ready_typed, ready_sized}
use Rattle.collectors.proofs.Trails.{hop_keeps, keeps_then, way_first, way_next}
use Rattle.collectors.proofs.Reading.{none_left, one_left, siblings_type, siblings_room, siblings_left, kids_siblings}
use Rattle.collectors.proofs.Standing.{long_kept, stands_first, stands_in, stands_openable, stands_below}
use Rattle.collectors.proofs.Leads.{lead_leaves, lead_refused, lead_open, lead_fold, lead_apart, lead_below, leads_none, leads_refused, leads_next, leads_more}
use Rattle.collectors.proofs.pairs.+collect_fields_collect_node.Goals as goal

pub collect_fields-returns-then-ks-eq0-clause-leading_all : goal.collect_fields-returns-then-ks-eq0-clause-leading_all
collect_fields-returns-then-ks-eq0-clause-leading_all t c =
    leads_none (none_left c.args.types.now.words.now c.args.k c.if-ks-eq0.true) c.requires.counted c.reached.ensures

pub collect_fields-collect_node-requires : goal.collect_fields-collect_node-requires
collect_fields-collect_node-requires t c =
    let more : 0 < c.args.k.kids.count = omega arith in
    let one = one_left c.args.types.now.words.now c.args.k more c.part_at-t.ensures in
    let tree = stands_first c.requires.stand_all one c.hop-n.ensures.high in
    let other = stands_first c.requires.stand_all_2 one c.hop-n.ensures.high in
    let kept = long_kept c.requires.long c.hop-n.auto.ops c.hop-n.auto.args in (
      omega (arith, c.decreases),
      (siblings_type c.requires.siblings more c.part_at-t.ensures, (tree, (other, (kept, c.requires.counted)))),
    )

pub collect_fields-returns-in_err-a-clause-keeps : goal.collect_fields-returns-in_err-a-clause-keeps
collect_fields-returns-in_err-a-clause-keeps t c =
    hop_keeps c.requires.long (omega (arith, c.requires.stand_all.room)) c.hop-n.ensures c.collect_node.ensures.keeps

pub collect_fields-returns-in_err-a-clause-leading_all : goal.collect_fields-returns-in_err-a-clause-leading_all
collect_fields-returns-in_err-a-clause-leading_all t c =
    let more : 0 < c.args.k.kids.count = omega arith in
    let one = one_left c.args.types.now.words.now c.args.k more c.part_at-t.ensures in
    let p = err_from_is_err_and c.from_residual.result c.from_residual.ensures.1 in
    rw (p.1, p.2) (leads_refused one c.in_err-a.ensures.leading)

pub collect_fields-left-rest-requires : goal.collect_fields-left-rest-requires
collect_fields-left-rest-requires t c = siblings_room c.requires.siblings (omega arith) c.args.types.now.ready

pub collect_fields-collect_fields-requires : goal.collect_fields-collect_fields-requires
collect_fields-collect_fields-requires t c =
    let more : 0 < c.args.k.kids.count = omega arith in
    let one = one_left c.args.types.now.words.now c.args.k more c.part_at-t.ensures in
    let next = leads_next one c.in_ok-a.ensures.leading c.requires.stand_all c.requires.stand_all_2 in
    rw c.left-rest.ensures (
      omega (arith, next, c.decreases),
      (siblings_left c.requires.siblings more _ _, (next.0, (next.1, (long_kept c.requires.long (c.collect_node.auto.ops ∙ c.hop-n.auto.ops) (c.collect_node.auto.args ∙ c.hop-n.auto.args), next.4)))),
    )

pub collect_fields-returns-clause-keeps : goal.collect_fields-returns-clause-keeps
collect_fields-returns-clause-keeps t c =
    let keeps = hop_keeps c.requires.long (omega (arith, c.requires.stand_all.room)) c.hop-n.ensures c.collect_node.ensures.keeps in
    let rest = rw c.left-rest.ensures at c.collect_fields.ensures.keeps in
    keeps_then keeps rest

pub collect_fields-returns-clause-leading_all : goal.collect_fields-returns-clause-leading_all
collect_fields-returns-clause-leading_all t c =
    let more : 0 < c.args.k.kids.count = omega arith in
    let one = one_left c.args.types.now.words.now c.args.k more c.part_at-t.ensures in
    let keeps = hop_keeps c.requires.long (omega (arith, c.requires.stand_all.room)) c.hop-n.ensures c.collect_node.ensures.keeps in
    let rest = rw c.left-rest.ensures at c.collect_fields.ensures.leading_all in
    let ways = way_next c.args.k 0 0 keeps in
    leads_more one c.in_ok-a.ensures.leading (way_first c.hop-n.ensures) ways rest

pub collect_node-overflow_add-i1 : goal.collect_node-overflow_add-i1
collect_node-overflow_add-i1 t c = omega (arith, stands_in c.requires.stands)

pub collect_node-overflow_add-j1 : goal.collect_node-overflow_add-j1
collect_node-overflow_add-j1 t c = omega (arith, stands_in c.requires.stands_2)

pub collect_node-offset_bounds-f1-i : goal.collect_node-offset_bounds-f1-i
collect_node-offset_bounds-f1-i t c = omega (arith, stands_in c.requires.stands)

pub collect_node-bounds-f1-i : goal.collect_node-bounds-f1-i
collect_node-bounds-f1-i t c = omega (arith, stands_in c.requires.stands)

pub collect_node-offset_bounds-f2-j : goal.collect_node-offset_bounds-f2-j
collect_node-offset_bounds-f2-j t c = omega (arith, stands_in c.requires.stands_2)

pub collect_node-bounds-f2-j : goal.collect_node-bounds-f2-j
collect_node-bounds-f2-j t c = omega (arith, stands_in c.requires.stands_2)

pub collect_node-returns-then-f2-j-eq0-clause-leading : goal.collect_node-returns-then-f2-j-eq0-clause-leading
collect_node-returns-then-f2-j-eq0-clause-leading t c =
    lead_leaves (ready_typed c.args.types.now.ready).known c.if-f1-i-eq0.true c.if-f2-j-eq0.true c.requires.counted c.reached.ensures

pub collect_node-returns-in_err-a-clause-leading : goal.collect_node-returns-in_err-a-clause-leading
collect_node-returns-in_err-a-clause-leading t c =
    let p = err_from_is_err_and c.from_residual.result c.from_residual.ensures.1 in
    rw (p.1, p.2) (lead_refused (ready_typed c.args.types.now.ready).known c.if-f1-i-eq0.true c.in_err-a.ensures.opening)

pub collect_node-returns-then-f1-i-eq0-clause-leading : goal.collect_node-returns-then-f1-i-eq0-clause-leading
collect_node-returns-then-f1-i-eq0-clause-leading t c =
    let told = lead_open (ready_typed c.args.types.now.ready).known c.if-f1-i-eq0.true c.in_ok-a.ensures.opening in
    told c.reached-then-f1-i-eq0.ensures

pub collect_node-offset_bounds-f2-j-2 : goal.collect_node-offset_bounds-f2-j-2
collect_node-offset_bounds-f2-j-2 t c = omega (arith, stands_in c.requires.stands_2)

pub collect_node-bounds-f2-j-2 : goal.collect_node-bounds-f2-j-2
collect_node-bounds-f2-j-2 t c = omega (arith, stands_in c.requires.stands_2)

pub collect_node-returns-then-f2-j-eq0-2-clause-leading : goal.collect_node-returns-then-f2-j-eq0-2-clause-leading
collect_node-returns-then-f2-j-eq0-2-clause-leading t c =
    let told = lead_fold c.if-f1-i-eq0.false (ready_typed c.args.types.now.ready).known c.if-f2-j-eq0-2.true (c.record-r.ensures.puts, c.record-r.ensures.at) in
    told c.node_end-e.ensures c.reached-then-f2-j-eq0-2.ensures

pub collect_node-bounds-w1-i : goal.collect_node-bounds-w1-i
collect_node-bounds-w1-i t c = omega (arith, stands_in c.requires.stands)

pub collect_node-bounds-w2-j : goal.collect_node-bounds-w2-j
collect_node-bounds-w2-j t c = omega (arith, stands_in c.requires.stands_2)

pub collect_node-returns-then-w-w2-clause-leading : goal.collect_node-returns-then-w-w2-clause-leading
collect_node-returns-then-w-w2-clause-leading t c =
    lead_apart c.if-f1-i-eq0.false c.if-f2-j-eq0-2.false c.if-w-w2.true

pub collect_node-kids_of-requires-clause-openable : goal.collect_node-kids_of-requires-clause-openable
collect_node-kids_of-requires-clause-openable t c = stands_openable c.requires.stands c.if-f1-i-eq0.false

pub collect_node-collect_fields-requires : goal.collect_node-collect_fields-requires
collect_node-collect_fields-requires t c =
    let all = c.kids_of.ensures.all in
    let tree = stands_below c.requires.stands c.if-f1-i-eq0.false in
    let other = rw (← c.if-w-w2.false) at (stands_below c.requires.stands_2 c.if-f2-j-eq0-2.false) in
    let small : c.from.result < 65536 = omega (arith, c.from.ensures, c.type_inv.w1 c.args.c.first) in (
      omega (arith, stands_in c.requires.stands, c.decreases),
      (kids_siblings c.kids_of.ensures c.args.types.now.ready small, (rw all tree, (rw all other, (c.requires.long, c.requires.counted)))),
    )

pub collect_node-returns-clause-leading : goal.collect_node-returns-clause-leading
collect_node-returns-clause-leading t c =
    let told = lead_below c.if-f1-i-eq0.false c.if-f2-j-eq0-2.false (ready_typed c.args.types.now.ready).known c.if-w-w2.false in
    told c.kids_of.ensures.all c.kind_at.ensures c.from.ensures c.collect_fields.ensures.leading_all
