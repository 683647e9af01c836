-- The entry's uses of the folded locals, and the jump to the start block.
use mathlib.Core.Path.{◌≡◌, refl, subst, ◌∙◌}
use mathlib.Core.Bool.{Bool, true}
use mathlib.Core.List.{List}
use Prim.Native.Nat.{ℕ, ◌-◌}
use Rattle.std.specs.Prelude.{Result}
use Rattle.std.proofs.lemmas.Result.{err_from_is_err_and}
use native.Mathlib.Omega.{arith}
use lib.ListN.{replicate}
use Rattle.model.specs.Answer.{refused}
use Rattle.model.specs.Tree.{leaves}
use Rattle.model.specs.Function.{nblocks, nlocals, start, local_types}
use Rattle.base.specs.Function.{FunctionFacts, function_facts}
use Rattle.records.specs.Here.{Holds}
use Rattle.state.specs.Value.{value}
use Rattle.state.specs.declared.nodes.State.{State}
use Rattle.refusal.specs.declared.Refusal.{Refusal}
use Rattle.statements.specs.Kept.{begun}
use Rattle.statements.specs.declared.Out.{Out}
use Rattle.statements.specs.declared.Point.{Point}
use Rattle.statements.proofs.Puts.{counted_begun}
use Rattle.body.specs.Uses.{uses, Passes, Runs}
use Rattle.arrival.specs.Memory.{jumps}
use Rattle.arrival.specs.Visits.{exit}
use Rattle.fold_unfold.specs.Runs.{entered}
use Rattle.arrival.proofs.Heard.{spoken_own}
use Rattle.visit.proofs.Entering.{visits_pen, visits_later}
use Rattle.fold_unfold.proofs.Changed.{remembers_entered}
use Rattle.fold_unfold.proofs.Opening.{folded_holds, entry_refused, entry_passed, opens_jumps}
use Rattle.fold_unfold.proofs.run.open_pass.Goals as goal

-- all locals are folded
opening : (Γ : List ℕ) {fn : List ℕ} {n : ℕ} → FunctionFacts fn → n ≡ nlocals fn
    → Holds Γ (local_types fn) (value (record { forms = replicate 512 0; whats = replicate 512 0; nodes = n })) (leaves (local_types fn))
opening Γ {n = n} F e = folded_holds Γ F (record { forms = replicate 512 0; whats = replicate 512 0; nodes = n }) e (refl, refl, refl)

-- the entry's uses
passes : {Γ fn out out' : List ℕ} {recording : Bool} {p : Point} {o : Out} {n k : ℕ} {r : Result Out Refusal} {s : State} → FunctionFacts fn → n ≡ nlocals fn
    → k ≡ start fn 0 → o ≡ begun recording p
    → Runs Γ fn (uses Γ fn true (k - 0) 0) (record { forms = replicate 512 0; whats = replicate 512 0; nodes = n }) out o out' r s
    → Passes Γ fn out (begun recording p) out' (uses Γ fn true (start fn 0) 0 (leaves (local_types fn))) r s
passes {Γ} {fn} {out} {out'} {recording} {p} {o} {n} {k} {r} {s} F z e b P =
    let d : k - 0 ≡ start fn 0 = omega arith in
    subst (λ (o : Out). Passes Γ fn out o out' (uses Γ fn true (start fn 0) 0 (leaves (local_types fn))) r s) b
    (rw d at (P (leaves (local_types fn)) (opening Γ F z)))

pub pass_items-requires : goal.pass_items-requires
pass_items-requires c =
    let a = c.args in
    let F = function_facts a.fun.now.types.words.now a.fun.now.record.words.now c.args.fun.now.accepted.function in
    let i = F.starts_inside 0 F.some_blocks in
    record {
      within = record { order = omega arith; inside = omega (arith, i, c.start_of.ensures) };
      stated = record { state = leaves (local_types a.fun.now.record.words.now); holds = opening a.fun.now.types.words.now F c.nlocals.ensures };
      counted = rw c.begun-o.ensures (counted_begun a.out.now);
    }

pub returns-in_err-q : goal.returns-in_err-q
returns-in_err-q c =
    let r = err_from_is_err_and c.from_residual.result c.from_residual.ensures.1 in
    let F = function_facts c.args.fun.now.types.words.now c.args.fun.now.record.words.now c.args.fun.now.accepted.function in
    rw (r.1, r.2) (λ m l R. entry_refused (passes F c.nlocals.ensures c.start_of.ensures c.begun-o.ensures c.in_err-q.ensures) _ m)

pub begin-requires : goal.begin-requires
begin-requires c =
    let a = c.args in
    let H = c.requires.opening in
    let F = function_facts a.fun.now.types.words.now a.fun.now.record.words.now c.args.fun.now.accepted.function in
    let N = entry_passed (passes F c.nlocals.ensures c.start_of.ensures c.begun-o.ensures c.in_ok-q.ensures) in
    let m = entered a.fun.now.types.words.now a.fun.now.record.words.now a.recording N.entry.1 H.memory in
    let S = N.spoken H.memory H.lines in
    record {
      shared = c.requires.shared;
      ongoing = record {
        memory = m;
        is = remembers_entered H.is a.recording N.entry.1;
        spoken = spoken_own S;
        state = N.entry.0;
        holds = N.holds;
        goes = λ d. H.goes (opens_jumps N H.memory ∙ subst (λ (r : Bool). jumps a.fun.now.types.words.now a.fun.now.record.words.now r (nblocks a.fun.now.record.words.now) (exit a.fun.now.record.words.now true 0 0 N.entry.0) m ≡ refused 0) S.pen d);
      };
      beginning = (omega (arith, F.starts_inside 0 F.some_blocks), F.some_blocks);
    }

pub returns : goal.returns
returns c = λ m l R.
    let a = c.args in
    let F = function_facts a.fun.now.types.words.now a.fun.now.record.words.now c.args.fun.now.accepted.function in
    let P = passes F c.nlocals.ensures c.start_of.ensures c.begun-o.ensures c.in_ok-q.ensures in
    let N = entry_passed P in
    let S = N.spoken m l in
    rw (opens_jumps N m)
    (visits_later (record { kept = refl; visited = refl; waits = refl; forms = refl; whats = refl }) P.same
    (visits_pen (λ r. jumps a.fun.now.types.words.now a.fun.now.record.words.now r (nblocks a.fun.now.record.words.now) (exit a.fun.now.record.words.now true 0 0 N.entry.0) (entered a.fun.now.types.words.now a.fun.now.record.words.now a.recording N.entry.1 m)) S.pen
    (c.begin.ensures (entered a.fun.now.types.words.now a.fun.now.record.words.now a.recording N.entry.1 m) N.entry.0 (remembers_entered R a.recording N.entry.1) (spoken_own S) N.holds)))
