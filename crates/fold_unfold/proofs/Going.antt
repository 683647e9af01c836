-- A pass between two turns: what the last visit answered, and that the pass is what is left behind it.
use mathlib.Core.Path.{◌≡◌, refl, sym, ap, ◌∙◌, subst}
use mathlib.Core.Bool.{Bool, true, false}
use mathlib.Core.List.{List}
use mathlib.Core.Option.{none, some}
use Prim.Native.Nat.{ℕ, ◌<◌}
use Rattle.std.specs.Prelude.{Option, Some, None, Result, Ok, Err}
use native.Mathlib.Omega.{arith}
use lib.ListN.{length}
use Rattle.model.specs.Answer.{Answer, done, ◌>>=◌}
use Rattle.model.specs.Rounds.{lowest, put}
use Rattle.model.specs.Function.{nblocks, rank}
use Rattle.base.specs.Tests.{clash}
use Rattle.base.specs.Answer.{split_answer}
use Rattle.base.specs.Kinds.{Known}
use Rattle.solver.specs.Lowest.{lowest_same}
use Rattle.demand.specs.Whole.{Passed}
use Rattle.mir.specs.Sizes.{Formed}
use Rattle.blocks.proofs.Spots.{formed_accepted}
use Rattle.statements.specs.declared.Out.{Out}
use Rattle.refusal.specs.Refusal.{found}
use Rattle.refusal.specs.declared.Refusal.{Refusal}
use Rattle.queue.specs.Popped.{without, Pops, Popping}
use Rattle.queue.proofs.Waiting.{facts_ranking}
use Rattle.arrival.specs.Memory.{Memory, popped, enters}
use Rattle.arrival.specs.Shares.{waits_in, Arrays, arrays, Alike, Remembers}
use Rattle.arrival.specs.Visits.{Spoken, Visits}
use Rattle.fold_unfold.specs.Runs.{rest, Inverted, Ends}
use Rattle.fold_unfold.proofs.Rounds.{Steady, told, Turned, rests}
use Rattle.fold_unfold.proofs.Weight.{weight, weight_is}
use Rattle.visit.proofs.Entering.{visits_later}
use Rattle.fold_unfold.proofs.Changed.{remembers_told}

-- THE NEXT BLOCK

module _ {Γ fn blocks : List ℕ} {m : Memory} {a : Arrays} {n : ℕ} (waits' : List ℕ) {r : Option ℕ}
    (F : Formed fn) (I : Inverted fn blocks) (R : Remembers Γ fn m a) (e : n ≡ nblocks fn) (P : Popping blocks n a.waits waits' r) where
  -- by the function's ranks
  pops_ranked : Pops (rank fn) (nblocks fn) (waits_in fn a.waits) (waits_in fn waits') r
  pops_ranked = subst (λ (k : ℕ). Popping blocks k a.waits waits' r) e P (rank fn) (facts_ranking (formed_accepted F)) I

  -- what is next is model's
  next_is : lowest (rank fn) (waits_in fn a.waits) (nblocks fn) ≡ lowest (rank fn) m.waits (nblocks fn)
  next_is = lowest_same (rank fn) (waits_in fn a.waits) m.waits (nblocks fn) (λ b l. sym (R.waits b l))

  -- nothing waits
  pub pops_none : r ≡ None → lowest (rank fn) m.waits (nblocks fn) ≡ none
  pops_none d = sym next_is ∙ sym pops_ranked.answer ∙ ap (found {A = ℕ}) d

  -- the block b is next, and waits no more
  pub pops_block : {b : ℕ} → r ≡ Some b → (lowest (rank fn) m.waits (nblocks fn) ≡ some b) × (waits_in fn waits' ≡ put (waits_in fn a.waits) b false)
  pops_block d =
      let k = sym pops_ranked.answer ∙ ap (found {A = ℕ}) d in
      (sym next_is ∙ k, pops_ranked.rest ∙ ap (without (waits_in fn a.waits)) k)

-- BETWEEN TWO TURNS

-- from the arrays x and the buffer out; a: what the whole pass answers
module _ (Γ fn : List ℕ) (recording : Bool) (x : Arrays) (out : List ℕ) (a : Answer Memory) where
  -- the last visit answered v
  pub record Going (y : Arrays) (out' : List ℕ) (v : Result Out Refusal) : Type 0 where
    pub left : Answer Memory
    pub goes : a ≡ left >>= λ m. rest Γ fn recording (told recording m)
    pub visits : Visits Γ fn recording x out left y out' v
    pub steady : (m : Memory) → left ≡ done m → Steady Γ fn recording m

  -- and was not refused
  pub record Stands (y : Arrays) (out' : List ℕ) (o : Out) : Type 0 where
    pub memory : Memory
    pub goes : a ≡ rest Γ fn recording (told recording memory)
    pub steady : Steady Γ fn recording memory
    pub remembers : Remembers Γ fn memory y
    pub spoken : Spoken fn recording memory.lines out' o
    pub alike : Alike x y
    pub same : length out' ≡ length out

  -- what outlives the pass
  abbrev pub Ended : Arrays → List ℕ → Result Out Refusal → Type 0
  Ended y out' v = Ends Γ fn recording x.kept x.forms x.whats out a y.kept y.forms y.whats out' v

module _ {Γ fn : List ℕ} {recording : Bool} {x : Arrays} {out : List ℕ} {a : Answer Memory} {y : Arrays} {out' : List ℕ} where
  -- it was not refused
  pub going_over : {o : Out} → Going Γ fn recording x out a y out' (Ok o) → Stands Γ fn recording x out a y out' o
  going_over {o} G = split_answer G.left
      (λ n d. let q = G.visits.denied n d in clash (cc))
      (λ m d.
      let (p, z, R, S) = G.visits.over m d in
      let q : p ≡ o = cc in
      record {
        memory = m;
        goes = cc G.goes;
        steady = G.steady m d;
        remembers = R;
        spoken = rw q at S;
        alike = G.visits.alike;
        same = G.visits.same;
      })

  -- it was: so is the pass
  pub going_refused : {k : Refusal} → Going Γ fn recording x out a y out' (Err k) → Ended Γ fn recording x out a y out' (Err k)
  going_refused G = split_answer G.left
      (λ k d.
      let q = G.visits.denied k d in
      record {
        same_kept = G.visits.alike.kept;
        same_forms = G.visits.alike.forms;
        same_whats = G.visits.alike.whats;
        same_out = G.visits.same;
        denied = λ j i. cc G.goes;
        over = λ m i. clash (cc G.goes);
      })
      (λ m d. let z = (G.visits.over m d).1 in clash (cc))

  module _ {o : Out} (A : Stands Γ fn recording x out a y out' o) (H : Passed Γ fn) where
    -- lines are told
    spoken_told : (r : Bool) (m : Memory) → Spoken fn recording m.lines out' o → Spoken fn recording (told r m).lines out' o
    spoken_told false m s = s
    spoken_told true m s = s

    -- nothing waits: the pass is over
    pub stands_rests : lowest (rank fn) A.memory.waits (nblocks fn) ≡ none → Ended Γ fn recording x out a y out' (Ok o)
    stands_rests e =
        let m = A.memory in
        let k = rests H recording m A.steady e in
        let (v, R) = remembers_told A.remembers recording in
        record {
          same_kept = A.alike.kept;
          same_forms = A.alike.forms;
          same_whats = A.alike.whats;
          same_out = A.same;
          denied = λ n i. clash (cc A.goes);
          over = λ t i.
              let z : told recording m ≡ t = cc A.goes in
              (o, v, y.waits, refl, rw z at R, rw z at (spoken_told recording m A.spoken));
        }

  module _ {o : Out} (A : Stands Γ fn recording x out a y out' o) {b : ℕ} (T : Turned Γ fn recording A.memory b) {w : List ℕ} {z : Arrays} {out'' : List ℕ} {v : Result Out Refusal}
      (X : Visits Γ fn recording (arrays y.kept y.visited w y.forms y.whats) out'
      (enters Γ fn recording (nblocks fn) b T.state (popped b A.memory)) z out'' v) where
    -- a turn
    pub stands_turns : length w ≡ length y.waits → Going Γ fn recording x out a z out'' v
    stands_turns e = record {
      left = enters Γ fn recording (nblocks fn) b T.state (popped b A.memory);
      goes = A.goes ∙ T.goes;
      visits = visits_later (record { kept = A.alike.kept; visited = A.alike.visited; waits = e ∙ A.alike.waits; forms = A.alike.forms; whats = A.alike.whats }) A.same X;
      steady = λ m e. (T.less m e).0;
    }

-- after a turn the number is less
pub stands_less : {Γ fn : List ℕ} {recording : Bool} {x : Arrays} {out : List ℕ} {a : Answer Memory} {y : Arrays} {out' : List ℕ} {o q : Out} → Known Γ
    → (A : Stands Γ fn recording x out a y out' o) {b : ℕ} (T : Turned Γ fn recording A.memory b) {w z : Arrays} {out'' : List ℕ}
    → Visits Γ fn recording w out' (enters Γ fn recording (nblocks fn) b T.state (popped b A.memory)) z out'' (Ok q)
    → weight Γ fn z recording < weight Γ fn y recording
stands_less {Γ} {fn} {recording} known A {b} T X =
    split_answer (enters Γ fn recording (nblocks fn) b T.state (popped b A.memory))
    (λ n d. let i = X.denied n d in clash (cc))
    (λ t d.
    let (p, i, R, S) = X.over t d in
    omega (arith, weight_is known R recording, weight_is known A.remembers recording, (T.less t d).1))
