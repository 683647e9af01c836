-- `body::items::pass_items` meets its contract: before item i the state and what is recorded are those of the items from..i.
use mathlib.Core.Path.{◌≡◌, sym, ◌∙◌}
use mathlib.Core.Bool.{Bool, false}
use mathlib.Core.List.{List, []}
use Prim.Native.Nat.{ℕ, suc, ◌+◌, ◌-◌, ◌≤◌}
use native.Mathlib.Omega.{arith}
use Rattle.std.specs.Prelude.{Result, Ok, Err}
use Rattle.std.proofs.lemmas.Result.{err_from_is_err_and}
use Rattle.model.specs.Answer.{done}
use Rattle.model.specs.Tree.{Forest}
use Rattle.model.specs.Function.{local_types}
use Rattle.model.specs.Block.{uses_place}
use Rattle.records.specs.Here.{Holds}
use Rattle.refusal.specs.declared.Refusal.{Refusal}
use Rattle.state.specs.Value.{value}
use Rattle.state.specs.declared.nodes.State.{State}
use Rattle.statements.specs.declared.Out.{Out}
use Rattle.body.specs.Uses.{uses, Passes}
use Rattle.body.proofs.Runs.{uses_none, uses_fail, uses_append}
use Rattle.body.proofs.Passing.{tells_none, done_passes, passes_then, passes_stop, passes_stated, passes_counted}
use Rattle.body.proofs.items.pass_items.Goals as goal
use Rattle.body.proofs.items.pass_items.Goals.{then-uses_place+in_ok-q, else-uses_place}

module _ (Γ fn : List ℕ) (entry : Bool) where
  -- an item that uses no place
  none_used : (i : ℕ) → uses_place fn i ≡ false → (D : Forest) → uses Γ fn entry 1 i D ≡ done (D, [])
  none_used i u D = uses_fail Γ fn entry i u 0 D ∙ uses_none Γ fn entry (suc i) D

  module _ {out : List ℕ} {o : Out} (from i : ℕ) (E : Forest) (low : from ≤ i) where
    -- one item more
    run_more : {s s₂ : State} {out₁ out₂ : List ℕ} {q : Out} {r : Result Out Refusal} → Passes Γ fn out o out₁ (uses Γ fn entry (i - from) from E) (Ok q) s
        → ((D : Forest) → Holds Γ (local_types fn) (value s) D → Passes Γ fn out₁ q out₂ (uses Γ fn entry 1 i D) r s₂)
        → Passes Γ fn out o out₂ (uses Γ fn entry (i + 1 - from) from E) r s₂
    run_more P h =
        let k : i + 1 - from ≡ i - from + 1 = omega arith in
        let at : from + (i - from) ≡ i = omega arith in
        rw (k, uses_append Γ fn entry (i - from) 1 from E, at) (passes_then P h)

    -- a refusal ends the run
    run_stop : {s s' : State} {out₁ : List ℕ} {e : Refusal} (n : ℕ) → i ≤ n → Passes Γ fn out o out₁ (uses Γ fn entry (i - from) from E) (Err e) s
        → Passes Γ fn out o out₁ (uses Γ fn entry (n - from) from E) (Err e) s'
    run_stop n l P =
        let k : n - from ≡ i - from + (n - i) = omega arith in
        rw (k, uses_append Γ fn entry (i - from) (n - i) from E) (passes_stop _ P)

pub loop-i-init : goal.loop-i-init
loop-i-init c =
    let a = c.args in
    let z : a.items.from - a.items.from ≡ 0 = omega arith in
    λ E h. rw z (done_passes (uses_none a.fun.now.types.words.now a.fun.now.record.words.now a.items.entry a.items.from E) h (tells_none a.fun.now.record.words.now c.requires.counted))

pub use_place-requires-clause-stated : goal.use_place-requires-clause-stated
use_place-requires-clause-stated c = let S = c.requires.stated in passes_stated (c.loop-i.invariant S.state S.holds)

pub use_place-requires-clause-counted : goal.use_place-requires-clause-counted
use_place-requires-clause-counted c = let S = c.requires.stated in passes_counted (c.loop-i.invariant S.state S.holds) c.requires.counted

pub returns-in_err-q : goal.returns-in_err-q
returns-in_err-q c E h =
    let L = c.loop-i in
    let v = c.args.items in
    let r = err_from_is_err_and c.from_residual.result c.from_residual.ensures.1 in
    rw (r.1, r.2) (run_stop _ _ _ v.from (L.i + 1) E (omega arith) v.end (omega arith) (run_more _ _ _ v.from L.i E (omega arith) (L.invariant E h) c.in_err-q.ensures))

pub loop-i-preserved : goal.loop-i-preserved
loop-i-preserved c E h =
    let L = c.loop-i in
    let v = c.args.items in
    elim c.if-uses_place.branch [
      | then-uses_place+in_ok-q w ↦ rw (w.out-is, w.s-is, w.q-is) (run_more _ _ _ v.from L.i E (omega arith) (L.invariant E h) w.in_ok-q.ensures)
      | else-uses_place w ↦ rw (w.out-is, w.s-is, w.q-is) (run_more _ _ _ v.from L.i E (omega arith) (L.invariant E h)
          (λ D k. done_passes (none_used _ _ _ L.i (sym c.uses_place.ensures ∙ w.if-uses_place.false) D) k (tells_none _ (passes_counted (L.invariant E h) c.requires.counted))))
    ]
