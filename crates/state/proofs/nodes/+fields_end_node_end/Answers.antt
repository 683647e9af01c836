-- The cycle of calls {fields_end, node_end}: the trees in a row are passed one by one (`Skipping`); a tree is taken apart at its node.
use Rattle.std.proofs.Common.{arith, List, ℕ, ◌<◌, length, ap, ◌∙◌}
use Rattle.model.specs.Types.{kids}
use Rattle.model.specs.Tree.{Forest, size}
use Rattle.base.specs.Typed.{first_fits, owner_known, parts_inside}
use Rattle.records.specs.Codes.{size_pos}
use Rattle.records.specs.Coded.{coded_in_forms, coded_folded, coded_opened}
use Rattle.state.proofs.Fields.{ready_typed, ready_sized, ready_counted, fields_open}
use Rattle.state.proofs.Standing.{node_in}
use Rattle.state.proofs.Skipping.{Passed, passed_all, passed_split, passed_more, passed_folded}
use Rattle.state.proofs.nodes.+fields_end_node_end.Goals as goal
use Rattle.state.proofs.nodes.+fields_end_node_end.Goals.{fields_end-then-forms-e-eq0, fields_end-else-forms-e-eq0}

-- the next of trees in a row stands in the forms
next_in : {Γ fs ws : List ℕ} {i u j n e k : ℕ} {xs : Forest} → Passed Γ fs ws i u j n xs e k → k < n → e < length fs
next_in P l =
    let S = passed_split P l in
    omega (arith, coded_in_forms S.here, size_pos S.head)

pub fields_end-offset_bounds-forms-e : goal.fields_end-offset_bounds-forms-e
fields_end-offset_bounds-forms-e t c =
    let H = c.requires.heres in
    omega (arith, next_in (c.loop-k.invariant.1 H.trees H.coded) c.loop-k-test.true)

pub fields_end-bounds-forms-e : goal.fields_end-bounds-forms-e
fields_end-bounds-forms-e t c =
    let H = c.requires.heres in
    next_in (c.loop-k.invariant.1 H.trees H.coded) c.loop-k-test.true

pub fields_end-overflow_add-e : goal.fields_end-overflow_add-e
fields_end-overflow_add-e t c =
    let H = c.requires.heres in
    omega (arith, next_in (c.loop-k.invariant.1 H.trees H.coded) c.loop-k-test.true)

pub fields_end-overflow_add-j : goal.fields_end-overflow_add-j
fields_end-overflow_add-j t c =
    let p = c.requires in
    let T = ready_typed c.args.types.now.ready in
    omega (arith, parts_inside T c.args.u p.fields.known, T.few_parts, p.fields.inside, c.loop-k-test.true)

pub fields_end-node_end-e-requires : goal.fields_end-node_end-e-requires
fields_end-node_end-e-requires t c =
    let p = c.requires in
    let L = c.loop-k in
    let e = c.part_at-t.ensures in
    let S = passed_split (L.invariant.1 p.heres.trees p.heres.coded) c.loop-k-test.true in
    (omega (arith, L.invariant.0, c.decreases), (rw e (p.fields.types _ c.loop-k-test.true), record { tree = S.head; coded = rw e S.here }))

pub fields_end-loop-k-preserved : goal.fields_end-loop-k-preserved
fields_end-loop-k-preserved t c =
    let p = c.requires in
    let L = c.loop-k in
    let l = c.loop-k-test.true in
    elim c.if-forms-e-eq0.branch [
      | fields_end-then-forms-e-eq0 w ↦ (
        omega (arith, L.invariant.0, w.e-is),
        λ xs h.
            let P = L.invariant.1 xs h in
            passed_more P l (w.e-is ∙ passed_folded P (ready_typed c.args.types.now.ready).known l w.if-forms-e-eq0.true),
      )
      | fields_end-else-forms-e-eq0 w ↦
          let Q = L.invariant.1 p.heres.trees p.heres.coded in
          let S = passed_split Q l in (
            omega (arith, L.invariant.0, w.e-is, w.node_end-e.ensures S.head (rw w.part_at-t.ensures S.here)),
            λ xs h.
                let P = L.invariant.1 xs h in
                let R = passed_split P l in
                passed_more P l (w.e-is ∙ w.node_end-e.ensures R.head (rw w.part_at-t.ensures R.here)),
          )
    ]

pub fields_end-returns : goal.fields_end-returns
fields_end-returns t c = λ xs h. passed_all (c.loop-k.invariant.1 xs h) (omega arith)

pub node_end-offset_bounds-forms-i : goal.node_end-offset_bounds-forms-i
node_end-offset_bounds-forms-i t c = omega (arith, node_in c.requires.here)

pub node_end-bounds-forms-i : goal.node_end-bounds-forms-i
node_end-bounds-forms-i t c = (node_in c.requires.here).0

pub node_end-overflow_add-result : goal.node_end-overflow_add-result
node_end-overflow_add-result t c = omega (arith, node_in c.requires.here)

pub node_end-bounds-whats-i : goal.node_end-bounds-whats-i
node_end-bounds-whats-i t c = (node_in c.requires.here).1

pub node_end-owner_of-u-requires-clause-variant_of : goal.node_end-owner_of-u-requires-clause-variant_of
node_end-owner_of-u-requires-clause-variant_of t c =
    let O = coded_opened c.requires.here.coded c.if-forms-i-eq0.false in
    λ e. rw c.from.ensures (O.openable.ranged e)

pub node_end-count_of-requires : goal.node_end-count_of-requires
node_end-count_of-requires t c =
    record {
      t_bound = let p = c.requires in
          let O = coded_opened p.here.coded c.if-forms-i-eq0.false in
          rw (c.owner_of-u.ensures, c.from.ensures) (owner_known (ready_typed c.args.types.now.ready) c.args.t _ p.t_bound O.openable);
    }

pub node_end-overflow_sub-n : goal.node_end-overflow_sub-n
node_end-overflow_sub-n t c =
    let p = c.requires in
    let O = coded_opened p.here.coded c.if-forms-i-eq0.false in
    rw (c.count_of.ensures, c.first_of-j.ensures, c.owner_of-u.ensures, c.from.ensures)
    (first_fits (ready_typed c.args.types.now.ready) c.args.t _ p.t_bound O.openable)

pub node_end-fields_end-requires : goal.node_end-fields_end-requires
unfolding kids
node_end-fields_end-requires t c =
    let p = c.requires in
    let O = coded_opened p.here.coded c.if-forms-i-eq0.false in
    let w = c.from.ensures in
    let u = c.owner_of-u.ensures in
    let j = c.first_of-j.ensures in
    let n = c.count_of.ensures in (
      omega (arith, node_in p.here, c.decreases),
      (rw (n, j, u, w) (fields_open (ready_typed c.args.types.now.ready) p.t_bound O.openable), record { trees = O.children; coded = rw (n, j, u, w) O.below }),
    )

pub node_end-returns-then-forms-i-eq0 : goal.node_end-returns-then-forms-i-eq0
unfolding size
node_end-returns-then-forms-i-eq0 t c =
    λ x h. omega (arith, ap size (coded_folded (ready_typed c.args.types.now.ready).known h c.if-forms-i-eq0.true))

pub node_end-returns-else-forms-i-eq0 : goal.node_end-returns-else-forms-i-eq0
unfolding kids
node_end-returns-else-forms-i-eq0 t c =
    let w = c.from.ensures in
    let u = c.owner_of-u.ensures in
    let j = c.first_of-j.ensures in
    let n = c.count_of.ensures in
    λ x h.
    let O = coded_opened h c.if-forms-i-eq0.false in
    omega (arith, c.fields_end.ensures O.children (rw (n, j, u, w) O.below), O.long)
