-- `arrival::arrive::merge` meets its contract: what is saved, loaded and joined, by the laws of `Stored` and `Arrived`.
use mathlib.Core.Path.{refl, sym, ◌∙◌}
use mathlib.Core.Option.{Option}
use native.Mathlib.Omega.{arith}
use Rattle.model.specs.Words.{word}
use Rattle.model.specs.Tree.{Forest}
use Rattle.model.specs.Function.{local_types}
use Rattle.records.specs.Here.{Holds}
use Rattle.state.specs.Value.{value}
use Rattle.join.specs.Answers.{JoinedIn}
use Rattle.arrival.specs.Shares.{kept_in, Saved}
use Rattle.arrival.proofs.Memo.{kept_inside}
use Rattle.arrival.proofs.Stored.{accepted_locals, holds_valid, Loaded, saved_loaded, saved_bare, saved_long, saved_fits}
use Rattle.arrival.proofs.Arrived.{arrives_first, joined_few, arrives_over, arrives_changed, arrives_unchanged}
use Rattle.arrival.proofs.arrive.merge.Goals as goal
use Rattle.arrival.proofs.arrive.merge.Goals.{After-load_state-old, After-join_into}

-- the state loaded is the one stored
loaded : (c : After-load_state-old) (o : Option Forest)
    → let a = c.args in
    Saved a.fun.now.types.words.now (local_types a.fun.now.record.words.now) a.forms.now a.whats.now (word (kept_in a.memo.now) a.c) o
    → Loaded a.fun.now.types.words.now (local_types a.fun.now.record.words.now) a.forms.now a.whats.now (word (kept_in a.memo.now) a.c) o c.load_state-old.result
loaded c o v =
    let e = c.stored-k.ensures in
    saved_loaded _ _ _ _ _ o v (λ d. c.if-k-eq0.false (e ∙ d)) e c.load_state-old.ensures

-- what is left in the share is its join with the one that arrives
met : (c : After-join_into) {S E : Forest}
    → let a = c.args in
    Holds a.fun.now.types.words.now (local_types a.fun.now.record.words.now) (value c.load_state-old.result) S → Holds a.fun.now.types.words.now (local_types a.fun.now.record.words.now) (value a.s) E
    → JoinedIn a.fun.now.types.words.now S E c.join_into.result c.join_into.new.of c.join_into.new.ow
met c {S} {E} g h = c.join_into.ensures S E (rw c.local_types.ensures g) (rw c.local_types.ensures h)

pub save_state-requires : goal.save_state-requires
save_state-requires c = let v = c.requires.shelved in saved_long _ _ _ _ _ v.stored v.is

pub returns-then-k-eq0-clause-arriving : goal.returns-then-k-eq0-clause-arriving
returns-then-k-eq0-clause-arriving c o E v h =
    let w = c.save_state in
    rw (saved_bare _ _ _ _ _ o v (sym c.stored-k.ensures ∙ c.if-k-eq0.true))
    (arrives_first h (kept_inside c.requires.shelved) refl w.ensures.0 w.ensures.1 c.set_stored.ensures.kept c.wait.ensures)

pub load_state-old-requires : goal.load_state-old-requires
load_state-old-requires c = let v = c.requires.shelved in rw c.stored-k.ensures (saved_fits _ _ _ _ _ v.stored v.is)

pub join_into-requires-clause-locals_value : goal.join_into-requires-clause-locals_value
join_into-requires-clause-locals_value c = rw c.local_types.ensures (accepted_locals c.args.fun.now.accepted)

pub join_into-requires-clause-given : goal.join_into-requires-clause-given
join_into-requires-clause-given c =
    let v = c.requires.shelved in
    let f = loaded (goal.at.join_into-requires-clause-given c).After-load_state-old v.stored v.is in
    rw c.local_types.ensures (f.state, f.holds)

pub join_into-requires-clause-room : goal.join_into-requires-clause-room
join_into-requires-clause-room c =
    let v = c.requires.shelved in
    let w = saved_long _ _ _ _ _ v.stored v.is in
    record { forms = w.0; whats = w.1; low = omega arith }

pub returns-in_default-clause-arriving : goal.returns-in_default-clause-arriving
returns-in_default-clause-arriving c o E v h =
    let at = goal.at.returns-in_default-clause-arriving c in
    let l = loaded at.After-load_state-old o v in
    rw l.is (arrives_over (met at.After-join_into l.holds h) l.full.valid (holds_valid h) c.in_default.is)

pub overflow_cast-j : goal.overflow_cast-j
overflow_cast-j c =
    let at = goal.at.overflow_cast-j c in
    let v = c.requires.shelved in
    let h = c.requires.stated.holds in
    let l = loaded at.After-load_state-old v.stored v.is in
    omega (arith, joined_few (met at.After-join_into l.holds h) l.full.valid (holds_valid h) c.in-Some.is)

pub overflow_add-j : goal.overflow_add-j
overflow_add-j c =
    let at = goal.at.overflow_add-j c in
    let v = c.requires.shelved in
    let h = c.requires.stated.holds in
    let l = loaded at.After-load_state-old v.stored v.is in
    omega (arith, joined_few (met at.After-join_into l.holds h) l.full.valid (holds_valid h) c.in-Some.is)

pub returns-then-j-clause-arriving : goal.returns-then-j-clause-arriving
returns-then-j-clause-arriving c o E v h =
    let at = goal.at.returns-then-j-clause-arriving c in
    let l = loaded at.After-load_state-old o v in
    let m = met at.After-join_into l.holds h in
    rw l.is (arrives_changed m l.full.valid (holds_valid h) c.in-Some.is c.if-j.true (kept_inside c.requires.shelved) refl c.set_stored-then-j.ensures.kept c.wait-then-j.ensures)

pub returns-else-j-clause-arriving : goal.returns-else-j-clause-arriving
returns-else-j-clause-arriving c o E v h =
    let at = goal.at.returns-else-j-clause-arriving c in
    let l = loaded at.After-load_state-old o v in
    rw l.is (arrives_unchanged (met at.After-join_into l.holds h) l.full.valid (holds_valid h) c.in-Some.is c.if-j.false l.full.count)
