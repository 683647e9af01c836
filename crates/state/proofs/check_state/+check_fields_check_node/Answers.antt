-- The cycle of calls {check_fields, check_node}: each answer is a law of what is found or absent.
use Rattle.std.specs.Prelude.{Option, Some, None, MatchOption}
use Rattle.std.proofs.Common.{arith, ◌≡◌, ◌≢◌, refl, sym, ◌∙◌, subst, true, List, ℕ, suc, ◌-◌, get_or}
use Rattle.model.specs.State.{opens}
use Rattle.records.specs.Codes.{size_pos}
use Rattle.base.specs.Kinds.{Known, openable_form}
use Rattle.records.specs.Opens.{opens_form, opens_openable}
use Rattle.records.specs.Absent.{Absent, absent_end, absent_said, absent_shut, absent_deep, absent_children}
use Rattle.state.proofs.Fields.{ready_typed, ready_sized, no_kids}
use Rattle.state.proofs.Finding.{found_leaf, found_node, found_nothing, found_both, absent_one, absent_others}
use Rattle.state.proofs.check_state.+check_fields_check_node.Goals as goal
use Rattle.state.proofs.check_state.+check_fields_check_node.Goals.{check_node-else-f-eq0-via-then-f-eq0+else-w-eq0, check_node-else-f-eq0-via-else-f-eq0, check_node-then-not-opens-via-then-not-opens, check_node-then-not-opens-via-else-not-opens+then-d-eq0}

-- what follows of an answer
option_weaker : {P P' : Type 0} {Q Q' : ℕ → Type 0} (r : Option ℕ) → MatchOption r P Q → (P → P') → ((e : ℕ) → Q e → Q' e) → MatchOption r P' Q'
option_weaker None h f g = f h
option_weaker (Some e) h f g = g e h

-- a node that says what opens its type is not folded
node_open : (Γ : List ℕ) (t f w : ℕ) → Known Γ → opens Γ t (f, w) ≡ true → f ≢ 0
node_open Γ t f w known e z =
    omega (arith, openable_form known (opens_openable Γ t (f, w) e), opens_form Γ t (f, w) e)

pub check_fields-returns-then-ks-eq0 : goal.check_fields-returns-then-ks-eq0
check_fields-returns-then-ks-eq0 t c =
    found_nothing (no_kids c.args.types.now.words.now c.args.ks c.if-ks-eq0.true) c.requires.come_to.0

pub check_fields-returns-in_err-e : goal.check_fields-returns-in_err-e
check_fields-returns-in_err-e t c =
    rw c.from_residual.ensures (absent_one c.first_kid-t.ensures.all c.in_err-e.ensures)

pub check_fields-check_fields-requires : goal.check_fields-check_fields-requires
check_fields-check_fields-requires t c =
    let p = c.requires in
    let found = c.in_ok-e.ensures in
    (omega (arith, found.end, found.within, size_pos found.tree, c.decreases), (rw c.rest_of_kids.ensures c.first_kid-t.ensures.rest, (found.within, p.come_to.1, p.come_to.2)))

pub check_fields-returns : goal.check_fields-returns
check_fields-returns t c =
    let all = c.first_kid-t.ensures.all in
    let found = c.in_ok-e.ensures in
    let r = rw c.rest_of_kids.ensures at c.check_fields.ensures in
    option_weaker _ r (absent_others all (ready_typed c.args.types.now.ready).known found) (λ e. found_both all found)

pub check_node-returns-then-n-i : goal.check_node-returns-then-n-i
check_node-returns-then-n-i t c = absent_end c.if-n-i.true

pub check_node-returns-then-w-eq0 : goal.check_node-returns-then-w-eq0
check_node-returns-then-w-eq0 t c =
    let p = c.requires.both_long in
    found_leaf c.args.t (omega arith) p.0 p.1 c.if-f-eq0.true c.if-w-eq0.true

pub check_node-returns-then-not-opens : goal.check_node-returns-then-not-opens
check_node-returns-then-not-opens t c =
    elim c.then-not-opens.branch [
      | check_node-then-not-opens-via-then-not-opens w ↦
          elim c.else-f-eq0.branch [
            | check_node-else-f-eq0-via-then-f-eq0+else-w-eq0 v ↦ absent_said (ready_typed c.args.types.now.ready).known v.if-f-eq0.true v.if-w-eq0.false
            | check_node-else-f-eq0-via-else-f-eq0 v ↦ absent_shut v.if-f-eq0.false (sym c.opens.ensures ∙ w.if-not-opens.true)
          ]
      | check_node-then-not-opens-via-else-not-opens+then-d-eq0 w ↦
          absent_deep w.if-d-eq0.true (node_open c.args.types.now.words.now c.args.t _ _ (ready_typed c.args.types.now.ready).known (sym c.opens.ensures ∙ w.if-not-opens.false))
    ]

pub check_node-kids_of-ks-requires-clause-openable : goal.check_node-kids_of-ks-requires-clause-openable
check_node-kids_of-ks-requires-clause-openable t c =
    opens_openable c.args.types.now.words.now c.args.t (get_or c.args.forms.now c.args.i 0, get_or c.args.whats.now c.args.i 0) (sym c.opens.ensures ∙ c.if-not-opens.false)

pub check_node-returns : goal.check_node-returns
check_node-returns t c =
    let a = c.args in
    let p = c.requires.both_long in
    let o = sym c.opens.ensures ∙ c.if-not-opens.false in
    let code : ℕ × ℕ = (get_or a.forms.now a.i 0, get_or a.whats.now a.i 0) in
    let r = rw c.kids_of-ks.ensures.all at c.check_fields.ensures in
    let D : suc (a.d - 1) ≡ a.d = omega arith in
    option_weaker _ r
    (λ h. subst (λ (k : ℕ). Absent a.types.now.words.now a.forms.now a.whats.now a.n k a.i a.t) D (absent_children (node_open a.types.now.words.now a.t _ _ (ready_typed c.args.types.now.ready).known o) h))
    (λ e h. found_node (omega arith) p.0 p.1 (opens_openable a.types.now.words.now a.t code o) (opens_form a.types.now.words.now a.t code o) refl (omega arith) h)
