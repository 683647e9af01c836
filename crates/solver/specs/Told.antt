-- What the second pass takes down of an outcome: its lines, and at each arrival what is collected to the stored state. An outcome whose
-- arrivals are covered is taken down without a refusal.
use Rattle.std.specs.Prelude.{◌≡◌, Bool, false, cond, ℕ, eqb}
use Rattle.std.proofs.Math.Path.{refl, sym}
use Rattle.std.proofs.Common.{◌∙◌}
use Rattle.std.proofs.Math.Bool.{true}
use mathlib.Core.List.{List, [], ◌∷◌, ◌++◌, append_assoc, append-nil}
use Rattle.std.proofs.Math.Option.{Option, none, some}
use borrow.Author.Tests.{eqb-true}
use Rattle.model.specs.Answer.{refused, done}
use Rattle.model.specs.Rounds.{elem}
use Rattle.model.specs.Frame.{Line, Exit, Frame, Outcome, over, stop, into, say, meet, visit, opening, mark}
use Rattle.model.specs.Passes.{Log, hear, arrived, reconcile, arrive_at}
use Rattle.base.specs.Tests.{split, clash}
use Rattle.solver.specs.Lists.{put_same, put_other}
use Rattle.solver.specs.Laws.{Collects}
use Rattle.solver.specs.Outcome.{Every, every_over, every_say, every_meet}
use Rattle.solver.specs.Solution.{Covered}

module _ {Env Stmt : Type 0} (F : Frame Env Stmt) (kept : ℕ → Option Env) where
  -- what is recorded, outcome by outcome
  unfoldable pub gives : Exit Env → List Stmt
  gives x = elim (kept x.block) [ none ↦ [] | some S ↦ elim (F.collect x.state S) [ refused r ↦ [] | done ts ↦ ts ] ]

  -- the lines of an outcome
  unfoldable pub tell : Outcome Env Stmt → List (Line Stmt)
  tell over = []
  tell (stop r) = []
  tell (into b E o) = tell o
  tell (say l o) = l ∷ tell o
  tell (meet x o) = mark x.item (gives x) ++ tell o

  -- the visit of a stored block
  unfoldable pub stored_visit : ℕ → Outcome Env Stmt
  stored_visit b = elim (kept b) [ none ↦ over | some S ↦ visit F b S ]

  -- the lines of the opening and of the visits, the latest first
  unfoldable pub story : List Stmt → Env → List ℕ → List (Line Stmt)
  story ts E [] = mark F.entry ts ++ tell (opening F E)
  story ts E (b ∷ bs) = story ts E bs ++ tell (stored_visit b)

  -- a block was visited, or waits
  unfoldable pub due : Log Stmt → ℕ → Bool
  due g c = cond (elem c g.visited) true (g.waits c)

  -- what taking down an outcome does
  pub record Told (g : Log Stmt) (o : Outcome Env Stmt) (h : Log Stmt) : Type 0 where
    pub same : h.visited ≡ g.visited
    pub recorded : h.lines ≡ g.lines ++ tell o
    pub waits_on : (c : ℕ) → g.waits c ≡ true → h.waits c ≡ true
    pub waits_new : (c : ℕ) → h.waits c ≡ true → g.waits c ≡ false → (elem c g.visited ≡ false) × ((S : Env) × (kept c ≡ some S))
    pub heard : Every (λ x. due h x.block ≡ true) o

module _ {Env Stmt : Type 0} (F : Frame Env Stmt) (Ok : Env → Type 0) (C : Collects F Ok) (kept : ℕ → Option Env) where
  -- where something arrived, the block is due
  arrived_due : (x : Exit Env) (ts : List Stmt) (g : Log Stmt) → due F kept (arrived F kept x ts g) x.block ≡ true
  unfolding due arrived
  arrived_due x ts g = split (elem x.block g.visited) (λ e. cc) (λ e. cc (put_same g.waits x.block true))

  -- what is due stays due
  pub due_told : {g h : Log Stmt} {o : Outcome Env Stmt} → Told F kept g o h → (c : ℕ) → due F kept g c ≡ true → due F kept h c ≡ true
  unfolding due
  due_told {g} {h} T c d = split (elem c g.visited)
      (λ e. cc T.same)
      (λ e. cc (T.same, T.waits_on c (cc)))

  -- a covered arrival is accepted
  pub arrive_gives : (x : Exit Env) (g : Log Stmt) → Covered F Ok kept x → arrive_at F kept x g ≡ done (arrived F kept x (gives F kept x) g)
  unfolding arrive_at reconcile gives
  arrive_gives x g D =
      let k = C.collects D.good D.ok D.above in
      cc (D.stored, k.given)

  -- nothing more
  pub told_over : (g : Log Stmt) → Told F kept g over g
  unfolding tell
  told_over g = record {
    same = refl;
    recorded = sym (append-nil g.lines);
    waits_on = λ c w. w;
    waits_new = λ c w v. clash (cc);
    heard = every_over;
  }

  -- a line first
  pub told_say : {g h : Log Stmt} {l : Line Stmt} {o : Outcome Env Stmt} → Told F kept (hear F kept l g) o h → Told F kept g (say l o) h
  unfolding tell hear
  told_say {g} {h} {l} {o} T = record {
    same = T.same;
    recorded = T.recorded ∙ append_assoc g.lines (l ∷ []) (tell F kept o);
    waits_on = T.waits_on;
    waits_new = T.waits_new;
    heard = every_say T.heard;
  }

  -- an arrival first
  pub told_meet : {g h : Log Stmt} {x : Exit Env} {o : Outcome Env Stmt} → Covered F Ok kept x
      → Told F kept (arrived F kept x (gives F kept x) g) o h → Told F kept g (meet x o) h
  unfolding tell arrived
  told_meet {g} {h} {x} {o} D T =
      let c = x.block in
      record {
        same = T.same;
        recorded = T.recorded ∙ append_assoc g.lines (mark x.item (gives F kept x)) (tell F kept o);
        waits_on = λ d w. T.waits_on d (split (elem c g.visited)
            (λ e. cc)
            (λ e. split (eqb c d)
            (λ q. cc (eqb-true c d q, put_same g.waits c true))
            (λ q. cc (put_other g.waits c true d q))));
        waits_new = λ d w v. split (elem c g.visited)
            (λ e. T.waits_new d w (cc))
            (λ e. split (eqb c d)
            (λ q. let z = eqb-true c d q in (cc, (D.state, cc D.stored)))
            (λ q. T.waits_new d w (cc (put_other g.waits c true d q))));
        heard = every_meet (due_told T c (arrived_due x (gives F kept x) g)) T.heard;
      }
