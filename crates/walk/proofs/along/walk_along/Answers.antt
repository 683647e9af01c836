-- `walk::along::walk_along` meets its contract: open nodes, then types, then the index. Assumes nothing.
use mathlib.Core.Path.{◌≡◌, refl, sym, ◌∙◌, ap, subst}
use mathlib.Core.Logic.{◌≢◌}
use mathlib.Core.Bool.{true}
use mathlib.Core.List.{List}
use mathlib.Core.Option.{some}
use Prim.Native.Nat.{ℕ, ◌-◌, ◌<◌}
use native.Mathlib.Omega.{arith}
use lib.ListN.{length}
use Rattle.std.specs.Prelude.{Result, Ok, Err}
use Rattle.std.proofs.lemmas.Result.{err_from_is_err_and}
use Rattle.model.specs.Answer.{Answer, refused}
use Rattle.model.specs.Types.{ntypes, kind}
use Rattle.model.specs.Tree.{Tree}
use Rattle.model.specs.Place.{Place, Spot, no_index}
use Rattle.model.specs.Walk.{walk}
use Rattle.model.specs.Calls.{spot_of}
use Rattle.base.specs.Typed.{Typed}
use Rattle.refusal.specs.Refusal.{number}
use Rattle.refusal.specs.declared.Refusal.{Refusal}
use Rattle.state.proofs.Fields.{ready_typed, ready_sized}
use Rattle.walk.specs.Fresh.{folded, sprout}
use Rattle.walk.specs.Site.{rest, extent, walked_from, led, onward, Passing, Site}
use Rattle.walk.specs.declared.step.Fresh.{Fresh}
use Rattle.walk.specs.declared.along.Through.{Through}
use Rattle.walk.specs.declared.along.Onward.{Onward}
use Rattle.type_record.specs.declared.kinds.Kind.TheVariants.{Array}
use Rattle.walk.proofs.KindTests.{ne_false, ne_true}
use Rattle.walk.proofs.Ways.{length_route}
use Rattle.walk.proofs.Places.{rest_place, Stopped, extent_stopped, extent_plain, extent_last, extent_far}
use Rattle.walk.proofs.Sites.{plain_from, passing_refused, passing_arrives, sprung_to, stopped_walk, stopped_barred}
use Rattle.walk.proofs.along.walk_along.Goals as goal
use Rattle.walk.proofs.along.walk_along.Goals.{else-on-ops-via-then-on-ops+else-ne, else-on-ops-via-else-on-ops}

-- types lead on
led_to : (n : ℕ) (o : Result Fresh Refusal) {g : Onward} → led n o ≡ Ok g → (n ≡ g.walked) × (o ≡ Ok g.fresh)
led_to n (Ok f) {g} d =
    let e : record { walked = n; fresh = f } ≡ g = cc in
    let k : f ≡ g.fresh = ap (λ (k : Onward). k.fresh) e in
    (ap (λ (k : Onward). k.walked) e, cc)
led_to n (Err r) d = cc

-- or refuse
led_refused : (n : ℕ) (o : Result Fresh Refusal) {r : Refusal} → led n o ≡ Err r → o ≡ Err r
led_refused n (Ok f) d = cc
led_refused n (Err r) d = cc

-- the walk of the items is that of the place
placed : (ops args : List ℕ) {q : Spot} → spot_of ops args ≡ some q → (Γ : List ℕ) (x : Tree) {r : ℕ}
    → ((act : Tree → Answer Tree) → walk Γ act (rest ops args 1) x ≡ refused r) → (act : Tree → Answer Tree) → walk Γ act q.place x ≡ refused r
placed ops args is Γ x h act = ap (λ (p : Place). walk Γ act p x) (sym (rest_place ops args is)) ∙ h act

-- open nodes lead to th
module _ {Γ fs ws ops args : List ℕ} {i : ℕ} {x : Tree} {th : Through} (h : Typed Γ) {q : Spot} (is : spot_of ops args ≡ some q)
    (P : Passing Γ fs ws ops args (extent ops args) i x th) where
  -- the walk ends there or further on
  stopped : Stopped ops (extent ops args)
  stopped = extent_stopped ops args is

  -- what is left has no index
  plain : no_index (walked_from ops args th.at) ≡ true
  plain = plain_from ops args th.at (extent ops args) P.least P.most (extent_plain ops args is)

  -- a refusal by types is the walk's
  onward_refused : {r : Refusal} → onward Γ ops args th.at th.typ ≡ Err r
      → (act : Tree → Answer Tree) → walk Γ act q.place x ≡ refused (number r)
  onward_refused d = placed ops args is Γ x (passing_refused P h stopped.most plain (led_refused (extent ops args) (sprout Γ (folded th.typ 0) (walked_from ops args th.at)) d))

  -- types lead from there to g
  module _ {g : Onward} (d : onward Γ ops args th.at th.typ ≡ Ok g) where
    -- as far as the place is walked
    all : extent ops args ≡ g.walked
    all = (led_to (extent ops args) (sprout Γ (folded th.typ 0) (walked_from ops args th.at)) d).0

    -- by these elements
    grown : sprout Γ (folded th.typ 0) (walked_from ops args th.at) ≡ Ok g.fresh
    grown = (led_to (extent ops args) (sprout Γ (folded th.typ 0) (walked_from ops args th.at)) d).1

    -- to a type of the record
    known : g.fresh.typ < ntypes Γ
    known = (sprung_to P h stopped.most plain grown).fine.known

    -- what is left is as long as the items
    left : length (rest ops args (extent ops args)) ≡ length ops - g.walked
    left = length_route ops args (extent ops args) (length ops - extent ops args) ∙ ap (λ (k : ℕ). length ops - k) all

    -- an index where there is no array is refused
    barred : g.walked < length ops → kind Γ g.fresh.typ ≢ 4 → (act : Tree → Answer Tree) → walk Γ act q.place x ≡ refused 5
    barred l k = placed ops args is Γ x (λ act.
        let A = passing_arrives P h stopped.most plain grown in
        let b = stopped_barred Γ (rest ops args (extent ops args)) (extent_last ops args is) A.node (omega (arith, left)) (λ e. k (ap (kind Γ) (sym A.typed) ∙ e)) act in
        A.arrived.leads act ∙ rw b)

    -- so this is found
    site : (g.walked < length ops → kind Γ g.fresh.typ ≡ 4)
        → Site Γ fs ws ops args i q.place x (record { walked = g.walked; passed = th.at; node = th.node; typ = th.typ; fresh = g.fresh })
    site k =
        subst (λ (n : ℕ). Site Γ fs ws ops args i q.place x (record { walked = n; passed = th.at; node = th.node; typ = th.typ; fresh = g.fresh })) all
        (record {
          passing = P;
          within = stopped.most;
          far = extent_far ops args is;
          plain = plain;
          last = extent_last ops args is;
          fresh = grown;
          array = λ z e act. stopped_walk Γ (rest ops args (extent ops args)) (extent_last ops args is) z (λ l. ap (kind Γ) e ∙ k (omega (arith, left))) act;
        })

pub returns-in_err-th : goal.returns-in_err-th
returns-in_err-th c =
    let a = c.args in
    let p = err_from_is_err_and c.from_residual.result c.from_residual.ensures.1 in
    rw (p.1, p.2) (λ x q h is. placed a.ops.now a.args.now is a.types.now.words.now x (c.in_err-th.ensures x h))

pub returns-in_err-on : goal.returns-in_err-on
returns-in_err-on c =
    let p = err_from_is_err_and c.from_residual-in_err-on.result c.from_residual-in_err-on.ensures.1 in
    rw (p.1, p.2) (λ x q h is. onward_refused (ready_typed c.args.types.now.ready) is (c.in_ok-th.ensures x h) (sym c.in_err-on.ensures))

pub kind_at-requires : goal.kind_at-requires
kind_at-requires c =
    record {
      t_bound = known (ready_typed c.args.types.now.ready) c.requires.short.is (c.in_ok-th.ensures c.requires.here.tree c.requires.here.coded) (sym c.in_ok-on.ensures);
    }

pub returns-then-ne : goal.returns-then-ne
returns-then-ne c =
    λ x q h is. barred (ready_typed c.args.types.now.ready) is (c.in_ok-th.ensures x h) (sym c.in_ok-on.ensures) c.if-on-ops.true
    (ne_true _ c.kind_at.ensures Array c.ne.ensures c.if-ne.true refl)

pub returns : goal.returns
returns c =
    λ x q h is. site (ready_typed c.args.types.now.ready) is (c.in_ok-th.ensures x h) (sym c.in_ok-on.ensures) (λ l.
    elim c.else-on-ops.branch [
      | else-on-ops-via-then-on-ops+else-ne w ↦ ne_false _ w.kind_at.ensures Array w.ne.ensures w.if-ne.false refl
      | else-on-ops-via-else-on-ops w ↦ absurd (omega arith)
    ])
