-- `fold_unfold::run::run` meets its contract: a pass is its opening, then the turns of the blocks that wait.
use mathlib.Core.Path.{◌≡◌, refl, ap, ◌∙◌, subst}
use mathlib.Core.Logic.{◌≢◌}
use mathlib.Core.Bool.{Bool, true, false}
use mathlib.Core.List.{List, []}
use mathlib.Core.Option.{some}
use Prim.Native.Nat.{ℕ}
use lib.ListN.{length}
use Rattle.std.specs.Prelude.{Result, Some}
use Rattle.std.proofs.lemmas.Result.{err_from_is_err_and}
use Rattle.model.specs.Answer.{Answer, refused}
use Rattle.model.specs.Tree.{Forest}
use Rattle.model.specs.Function.{nblocks}
use Rattle.base.specs.Kinds.{types_known}
use Rattle.refusal.specs.declared.Refusal.{Refusal}
use Rattle.blocks.specs.Accepted.{Accepted}
use Rattle.statements.specs.declared.Out.{Out}
use Rattle.queue.specs.Bits.{no_bits}
use Rattle.queue.specs.Popped.{Popping}
use Rattle.arrival.specs.Memory.{Memory, popped, enters}
use Rattle.arrival.specs.Shares.{Unvisited, Arrays, arrays, arrays_in, Remembers}
use Rattle.arrival.specs.Visits.{Spoken, Visits}
use Rattle.arrival.proofs.Heard.{spoken_own}
use Rattle.visit.proofs.Entering.{visits_pen, visits_later}
use Rattle.fold_unfold.specs.Runs.{opens, pass, visiting, Starts, Stored, Inverted, fresh}
use Rattle.fold_unfold.proofs.Both.{records_pass}
use Rattle.fold_unfold.proofs.Rounds.{Turned, turns, opened_steady, opened_pass}
use Rattle.fold_unfold.proofs.Changed.{unwaiting, remembers_unwaiting, remembers_cleared, alike_cleared}
use Rattle.fold_unfold.proofs.Going.{pops_none, pops_block, Going, Stands, going_over, going_refused, stands_rests, stands_turns, stands_less}
use Rattle.fold_unfold.proofs.run.run.Goals as goal

-- a pass begins with no lines
starts_lines : (Γ fn : List ℕ) (recording : Bool) (m : Memory) → Starts Γ fn recording m → m.lines ≡ []
starts_lines Γ fn false m z = ap (λ (x : Memory). x.lines) z
starts_lines Γ fn true m z = ap (λ (x : Memory). x.lines) z.1

-- a pass behind its opening, from a memory with which it may begin
opened : {Γ offs fn : List ℕ} {recording : Bool} {memo memo' fs ws out : List ℕ} {y : Arrays} {out' : List ℕ} {r : Result Out Refusal} → Accepted Γ offs fn
    → Unvisited memo memo'
    → ((m : Memory) → m.lines ≡ [] → Remembers Γ fn m (arrays_in memo' no_bits fs ws)
    → Visits Γ fn recording (arrays_in memo' no_bits fs ws) out (opens Γ fn recording m) y out' r)
    → (m : Memory) → Starts Γ fn recording m → Remembers Γ fn m (fresh memo fs ws)
    → Going Γ fn recording (fresh memo fs ws) out (pass Γ fn recording m) y out' r
opened {Γ} {fn = fn} {recording} A U O m z R = record {
  left = opens Γ fn recording m;
  goes = opened_pass (records_pass A) recording m z;
  visits = visits_later (alike_cleared U) refl (O m (starts_lines Γ fn recording m z) (remembers_cleared U R));
  steady = opened_steady (records_pass A) recording m z;
}

-- the block b is popped
module _ {Γ offs fn blocks : List ℕ} {recording : Bool} {x : Arrays} {out : List ℕ} {a : Answer Memory} {y : Arrays} {out₁ : List ℕ} {o : Out} {n b : ℕ} (waits' : List ℕ)
    (H : Accepted Γ offs fn) (I : Inverted fn blocks) (A : Stands Γ fn recording x out a y out₁ o) (e : n ≡ nblocks fn)
    (P : Popping blocks n y.waits waits' (Some b)) (l : length waits' ≡ length y.waits) where
  -- and waits no more
  abbrev unqueued : Arrays
  unqueued = arrays y.kept y.visited waits' y.forms y.whats

  next : Turned Γ fn recording A.memory b
  next = turns (records_pass H) recording A.memory b A.steady (pops_block waits' H.formed I A.remembers e P refl).0

  left : Remembers Γ fn (unwaiting b A.memory) unqueued
  left = remembers_unwaiting A.remembers b l (pops_block waits' H.formed I A.remembers e P refl).1

  -- its turn comes
  comes : a ≢ refused 0 → Stored Γ fn b unqueued out₁ o
  comes g = record {
    below = next.below;
    memory = unwaiting b A.memory;
    is = left;
    spoken = spoken_own A.spoken;
    state = next.state;
    there = next.stored;
    goes = λ d.
        let e = subst (λ (r : Bool). enters Γ fn r (nblocks fn) b next.state (popped b A.memory) ≡ refused 0) A.spoken.pen d in
        g (A.goes ∙ next.goes ∙ rw e refl);
  }

  -- and goes
  turned : {y' : Arrays} {out₂ : List ℕ} {r : Result Out Refusal}
      → ((m : Memory) (S : Forest) → Remembers Γ fn m unqueued → m.kept b ≡ some S → Spoken fn o.recording m.lines out₁ o
      → Visits Γ fn o.recording unqueued out₁ (enters Γ fn o.recording (nblocks fn) b S (visiting b m)) y' out₂ r)
      → Visits Γ fn recording unqueued out₁ (enters Γ fn recording (nblocks fn) b next.state (popped b A.memory)) y' out₂ r
  turned T = visits_pen (λ r. enters Γ fn r (nblocks fn) b next.state (popped b A.memory)) A.spoken.pen (T (unwaiting b A.memory) next.state left next.stored (spoken_own A.spoken))

pub open_pass-requires-clause-opening : goal.open_pass-requires-clause-opening
open_pass-requires-clause-opening c =
    let a = c.args in
    let p = c.requires in
    let b = p.begins in
    record {
      memory = b.memory;
      is = remembers_cleared c.clear_visited.ensures b.is;
      lines = starts_lines a.fun.now.types.words.now a.fun.now.record.words.now a.recording b.memory b.starts;
      goes = λ d. b.goes (opened_pass (records_pass c.args.fun.now.accepted) a.recording b.memory b.starts ∙ rw d refl);
    }

pub returns-in_err-o : goal.returns-in_err-o
returns-in_err-o c =
    let r = err_from_is_err_and c.from_residual.result c.from_residual.ensures.1 in
    rw (r.1, r.2) (λ m z R. going_refused (opened c.args.fun.now.accepted c.clear_visited.ensures c.in_err-o.ensures m z R))

pub loop-b-init : goal.loop-b-init
loop-b-init c = λ m z R. going_over (opened c.args.fun.now.accepted c.clear_visited.ensures c.in_ok-o.ensures m z R)

pub turn-requires-clause-stored : goal.turn-requires-clause-stored
turn-requires-clause-stored c =
    let p = c.requires in
    let b = p.begins in
    comes c.pop.new.waits c.args.fun.now.accepted p.inverted (c.loop-b.invariant b.memory b.starts b.is) c.nblocks.ensures c.in-Some.ensures.popping c.pop.auto.waits b.goes

pub returns-in_err-o-2 : goal.returns-in_err-o-2
returns-in_err-o-2 c =
    let p = c.requires in
    let r = err_from_is_err_and c.from_residual-in_err-o-2.result c.from_residual-in_err-o-2.ensures.1 in
    rw (r.1, r.2) (λ m z R.
    let A = c.loop-b.invariant m z R in
    going_refused (stands_turns A (next c.pop.new.waits c.args.fun.now.accepted p.inverted A c.nblocks.ensures c.in-Some.ensures.popping c.pop.auto.waits)
    (turned c.pop.new.waits c.args.fun.now.accepted p.inverted A c.nblocks.ensures c.in-Some.ensures.popping c.pop.auto.waits c.in_err-o-2.ensures) c.pop.auto.waits))

pub loop-b-smaller : goal.loop-b-smaller
loop-b-smaller c =
    let p = c.requires in
    let b = p.begins in
    let A = c.loop-b.invariant b.memory b.starts b.is in
    stands_less (types_known c.args.fun.now.types.words.now c.args.fun.now.accepted.ready.typed) A (next c.pop.new.waits c.args.fun.now.accepted p.inverted A c.nblocks.ensures c.in-Some.ensures.popping c.pop.auto.waits)
    (turned c.pop.new.waits c.args.fun.now.accepted p.inverted A c.nblocks.ensures c.in-Some.ensures.popping c.pop.auto.waits c.in_ok-o-2.ensures)

pub loop-b-preserved : goal.loop-b-preserved
loop-b-preserved c = λ m z R.
    let p = c.requires in
    let A = c.loop-b.invariant m z R in
    going_over (stands_turns A (next c.pop.new.waits c.args.fun.now.accepted p.inverted A c.nblocks.ensures c.in-Some.ensures.popping c.pop.auto.waits)
    (turned c.pop.new.waits c.args.fun.now.accepted p.inverted A c.nblocks.ensures c.in-Some.ensures.popping c.pop.auto.waits c.in_ok-o-2.ensures) c.pop.auto.waits)

pub returns : goal.returns
returns c = λ m z R.
    let p = c.requires in
    let A = c.loop-b.invariant m z R in
    stands_rests A (records_pass c.args.fun.now.accepted) (pops_none c.pop.new.waits c.args.fun.now.accepted.formed p.inverted A.remembers c.nblocks.ensures c.pop.ensures.popping c.in_default.is)
