-- `walk::along::pass_open` meets its contract. The loop's invariant: open nodes lead from the tree at the start to the one at `here`. Assumes nothing.
use mathlib.Core.Path.{◌≡◌, refl, subst}
use mathlib.Core.Logic.{◌≢◌}
use mathlib.Core.Bool.{false}
use mathlib.Core.List.{List, [], ◌∷◌}
use Prim.Native.Nat.{ℕ, ◌+◌, ◌<◌}
use native.Mathlib.Omega.{arith}
use lib.ListN.{length}
use Rattle.std.specs.Prelude.{Ok, Err}
use Rattle.std.proofs.lemmas.Result.{err_from_is_err_and}
use Rattle.model.specs.Words.{word}
use Rattle.model.specs.Answer.{Answer, refused}
use Rattle.model.specs.Tree.{Tree, leaf}
use Rattle.model.specs.Place.{stops}
use Rattle.model.specs.Walk.{walk}
use Rattle.model.specs.Block.{elem_of}
use Rattle.records.specs.Here.{Here, Coded}
use Rattle.records.specs.Codes.{size_pos}
use Rattle.records.specs.Coded.{coded_folded, coded_in_forms}
use Rattle.refusal.specs.Refusal.{number}
use Rattle.refusal.specs.declared.Refusal.{Refusal}
use Rattle.state.proofs.Fields.{ready_typed}
use Rattle.walk.specs.Way.{StepsAt}
use Rattle.walk.specs.Site.{Short, rest, extent, Passing}
use Rattle.walk.specs.declared.step.Node.{Node}
use Rattle.walk.proofs.Places.{extent_stopped, stopped_before, stopped_here, step_here, short_items}
use Rattle.walk.proofs.Sites.{midway_start, midway_step, midway_refused}
use Rattle.walk.proofs.along.pass_open.Invariants.{Turn}
use Rattle.walk.proofs.along.pass_open.Goals as goal
use Rattle.walk.proofs.along.pass_open.Goals.{then-op-eq-INDEX-via-then-op-eq-INDEX, then-op-eq-INDEX-via-else-op-eq-INDEX+then-forms-here-eq0}

module _ {Γ fs ws ops args : List ℕ} {node typ at i t : ℕ} (T : Turn Γ fs ws ops args node typ at i t) where
  -- it goes no further, or to the end of what is walked
  turn_done : (n : ℕ) → at ≡ n → ((x : Tree) (h : Coded Γ fs ws node typ x) → at < extent ops args → (T.midway x h).tree ≡ leaf t)
      → (x : Tree) → Coded Γ fs ws node typ x → Passing Γ fs ws ops args (extent ops args) node x (record { at = n; node = i; typ = t })
  turn_done n e f x h =
      subst (λ (k : ℕ). Passing Γ fs ws ops args (extent ops args) node x (record { at = k; node = i; typ = t })) e
      (record { midway = T.midway x h; least = T.least; most = T.most; folded = f x h })

  module _ (S : Short ops args) (l : at < length ops) (d : word ops at ≢ 4) where
    -- the element at hand is a step
    first_here : stops (elem_of (word ops at) (word args at) ∷ []) ≡ false
    first_here = step_here ops args S.is at T.least l d

    -- that leads on
    turn_more : {n : Node} → StepsAt Γ fs ws i t (elem_of (word ops at) (word args at)) (Ok n) → Turn Γ fs ws ops args node typ (at + 1) n.node n.typ
    turn_more f =
        record {
          least = omega (arith, T.least);
          most = omega (arith, stopped_before (extent_stopped ops args S.is) T.least T.most l d);
          midway = λ x h. let M = T.midway x h in midway_step M l first_here (f M.tree M.here);
        }

    -- or is refused
    turn_refused : (r : Refusal) → StepsAt Γ fs ws i t (elem_of (word ops at) (word args at)) (Err r)
        → (x : Tree) → Coded Γ fs ws node typ x → (act : Tree → Answer Tree) → walk Γ act (rest ops args 1) x ≡ refused (number r)
    turn_refused r f x h = let M = T.midway x h in midway_refused M l first_here (f M.tree M.here)

-- the node at i is in the array of forms
inside : {Γ fs ws ops args : List ℕ} {node typ at i t : ℕ} → Turn Γ fs ws ops args node typ at i t → Here Γ fs ws node typ → i < length fs
inside T H = let M = T.midway H.tree H.coded in omega (arith, coded_in_forms M.here, size_pos M.tree)

pub loop-at-init : goal.loop-at-init
loop-at-init c =
    record {
      least = omega arith;
      most = (extent_stopped c.args.ops.now c.args.args.now c.requires.short.is).least;
      midway = λ x h. midway_start h c.requires.typ_bound;
    }

pub offset_bounds-forms-here : goal.offset_bounds-forms-here
offset_bounds-forms-here c = omega (arith, inside c.loop-at.invariant c.requires.here)

pub bounds-forms-here : goal.bounds-forms-here
bounds-forms-here c = inside c.loop-at.invariant c.requires.here

pub returns-then-op-eq-INDEX : goal.returns-then-op-eq-INDEX
returns-then-op-eq-INDEX c =
    let T = c.loop-at.invariant in
    elim c.then-op-eq-INDEX.branch [
      | then-op-eq-INDEX-via-then-op-eq-INDEX w ↦
          turn_done T c.loop-at.at refl (λ x h l.
          absurd (omega (arith, stopped_here (extent_stopped c.args.ops.now c.args.args.now c.requires.short.is) T.least T.most w.if-op-eq-INDEX.true)))
      | then-op-eq-INDEX-via-else-op-eq-INDEX+then-forms-here-eq0 w ↦
          turn_done T c.loop-at.at refl (λ x h l. coded_folded (ready_typed c.args.types.now.ready).known (T.midway x h).here w.if-forms-here-eq0.true)
    ]

pub bounds-args-at : goal.bounds-args-at
bounds-args-at c = omega (arith, short_items c.requires.short)

pub step_open-requires-clause-here : goal.step_open-requires-clause-here
step_open-requires-clause-here c =
    let M = c.loop-at.invariant.midway c.requires.here.tree c.requires.here.coded in
    record { tree = M.tree; coded = M.here }

pub returns-in_err-here : goal.returns-in_err-here
returns-in_err-here c =
    let p = err_from_is_err_and c.from_residual.result c.from_residual.ensures.1 in
    rw (p.1, p.2) (turn_refused c.loop-at.invariant c.requires.short (omega arith) c.if-op-eq-INDEX.false _ c.in_err-here.ensures)

pub loop-at-preserved : goal.loop-at-preserved
loop-at-preserved c = turn_more c.loop-at.invariant c.requires.short (omega arith) c.if-op-eq-INDEX.false c.in_ok-here.ensures

pub returns : goal.returns
returns c =
    let T = c.loop-at.invariant in
    let most = (extent_stopped c.args.ops.now c.args.args.now c.requires.short.is).most in
    turn_done T (length c.args.ops.now) (omega (arith, most, T.most)) (λ x h l. absurd (omega (arith, most)))
