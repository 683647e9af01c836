-- The second pass after an accepted first pass: it is never refused, ends, visits each stored block exactly once and no other, and
-- records the opening and these visits in a row.
use Rattle.std.specs.Prelude.{◌≡◌, List, ◌∷◌, eqb}
use Rattle.std.proofs.Math.Path.{refl, ap}
use Rattle.std.proofs.Common.{◌∙◌}
use Rattle.std.proofs.Math.Bool.{true, false}
use Rattle.std.proofs.Math.Option.{Option, some}
use Prim.Native.Nat.{ℕ, zero, suc, ◌<◌}
use borrow.Author.Tests.{eqb-true}
use Rattle.model.specs.Rounds.{put, elem}
use Rattle.model.specs.Frame.{Frame, target, enter, visit, opening_exit, opening}
use Rattle.model.specs.Passes.{Log, visiting, fresh_log}
use Rattle.base.specs.Tests.{split, clash, eqb_sym}
use Rattle.solver.specs.Lists.{put_same, put_other, has_image, Once, once_none, once_more}
use Rattle.solver.specs.Laws.{Bodies, Collects}
use Rattle.solver.specs.Outcome.{Every, Calm, every_map, calm_every, stop_calm, calm_inner, goto_calm_join, goto_calm_on, work_calm}
use Rattle.solver.specs.Solution.{Leads, leads_to, leads_on, Reach, reach_start, reach_first, reach_on, Solution}
use Rattle.solver.specs.Told.{stored_visit, story, due, Told, due_told}

-- the second pass under way
pub record Under {Env Stmt : Type 0} (F : Frame Env Stmt) (kept : ℕ → Option Env) (ts : List Stmt) (E : Env) (g : Log Stmt) : Type 0 where
  pub waiting : (c : ℕ) → g.waits c ≡ true → (elem c g.visited ≡ false) × ((S : Env) × (kept c ≡ some S))
  pub stored : (c : ℕ) → elem c g.visited ≡ true → (S : Env) × (kept c ≡ some S)
  pub once : Once g.visited
  pub opened : Every (λ x. due F kept g x.block ≡ true) (opening F E)
  pub closed : (b : ℕ) → elem b g.visited ≡ true → Every (λ x. due F kept g x.block ≡ true) (stored_visit F kept b)
  pub recorded : g.lines ≡ story F kept ts E g.visited

-- one turn of it
pub record Went {Env Stmt : Type 0} (F : Frame Env Stmt) (kept : ℕ → Option Env) (g h : Log Stmt) : Type 0 where
  pub block : ℕ
  pub state : Env
  pub below : block < F.blocks
  pub waited : g.waits block ≡ true
  pub stored : kept block ≡ some state
  pub told : Told F kept (visiting F kept block g) (visit F block state) h

module _ {Env Stmt : Type 0} (F : Frame Env Stmt) (Ok : Env → Type 0) (C : Collects F Ok) (kept : ℕ → Option Env) (ts : List Stmt) (E : Env) where
  -- the visit of a block whose stored state is S
  stored_visit_at : (b : ℕ) (S : Env) → kept b ≡ some S → stored_visit F kept b ≡ visit F b S
  unfolding stored_visit
  stored_visit_at b S p = cc

  -- what is due stays due when a block is popped
  due_visiting : (g : Log Stmt) (b c : ℕ) → due F kept g c ≡ true → due F kept (visiting F kept b g) c ≡ true
  unfolding due elem
  due_visiting g b c d = split (eqb c b)
      (λ e. cc)
      (λ e. split (elem c g.visited) (λ f. cc) (λ f. cc (put_other g.waits b false c (eqb_sym b c ∙ e))))

  -- and when it was visited
  due_went : {g h : Log Stmt} → (W : Went F kept g h) → (c : ℕ) → due F kept g c ≡ true → due F kept h c ≡ true
  due_went {g} W c d = due_told F Ok C kept W.told c (due_visiting g W.block c d)

  -- a turn keeps what is under way
  pub under_went : {g h : Log Stmt} → Under F kept ts E g → Went F kept g h → Under F kept ts E h
  unfolding elem story
  under_went {g} {h} U W =
      let b = W.block in
      let T = W.told in
      let s : h.visited ≡ b ∷ g.visited = T.same in
      record {
        waiting = λ c w. split (put g.waits b false c)
            (λ e. split (eqb b c)
            (λ d. clash (cc (eqb-true b c d, put_same g.waits b false)))
            (λ d.
            let v : g.waits c ≡ true = cc (put_other g.waits b false c d) in
            let k = U.waiting c v in
            (cc (eqb_sym b c, k.0), k.1)))
            (λ e. let k = T.waits_new c w e in (cc k.0, k.1));
        stored = λ c v. split (eqb c b)
            (λ e. (W.state, cc (eqb-true c b e, W.stored)))
            (λ e. U.stored c (cc));
        once = rw s (once_more (U.waiting b W.waited).0 U.once);
        opened = every_map (λ x d. due_went W x.block d) U.opened;
        closed = λ c v. split (eqb c b)
            (λ e. let q = eqb-true c b e in rw (stored_visit_at c W.state (cc W.stored), q) T.heard)
            (λ e. every_map (λ x d. due_went W x.block d) (U.closed c (cc)));
        recorded = cc (T.recorded, U.recorded, stored_visit_at b W.state W.stored);
      }

  module _ (X : Solution F Ok E kept) where
    -- after the opening
    pub under_opens : {g : Log Stmt} → Told F kept (fresh_log F kept ts) (opening F E) g → Under F kept ts E g
    unfolding elem story
    under_opens {g} T = record {
      waiting = λ c w. let k = T.waits_new c w refl in (cc (T.same, k.0), k.1);
      stored = λ c v. clash (cc T.same);
      once = rw T.same once_none;
      opened = T.heard;
      closed = λ c v. clash (cc T.same);
      recorded = cc (T.recorded, T.same);
    }

-- what the second pass leaves
pub record Elaborated {Env Stmt : Type 0} (F : Frame Env Stmt) (kept : ℕ → Option Env) (ts : List Stmt) (E : Env) (g : Log Stmt) : Type 0 where
  -- each stored block was visited, once, and no other
  pub once : Once g.visited
  pub only : (b : ℕ) → elem b g.visited ≡ true → (S : Env) × (kept b ≡ some S)
  pub every : (b : ℕ) (S : Env) → kept b ≡ some S → elem b g.visited ≡ true
  -- the record: the entry's, then visit by visit
  pub recorded : g.lines ≡ story F kept ts E g.visited

-- a calm visit arrives wherever the graph leads
module _ {Env Stmt : Type 0} {F : Frame Env Stmt} {Ok : Env → Type 0} (B : Bodies F Ok) (P : ℕ → Type 0) where
  -- what holds where a calm visit arrives holds where the graph leads
  leads_calm : {b c : ℕ} → Leads F b c → (n : ℕ) (E : Env) → Calm (λ x. P x.block) (enter F n b E) → P c
  unfolding enter
  leads_calm l zero E k = stop_calm k
  leads_calm {b} (leads_to {i} {c} h j) (suc n) E k =
      let T = work_calm F (λ c D. enter F n c D) (F.body b E) (calm_inner k) in
      let I = has_image target T.worked.exits (rw (← B.listed T.given) at h) in
      let x = I.from in
      let q : x.block ≡ c = ap (λ p. p.1) I.goes in
      rw q at (goto_calm_join F (λ c D. enter F n c D) x (T.jumps I.stands) (rw q j))
  leads_calm {b} (leads_on {i} {d} h j l) (suc n) E k =
      let T = work_calm F (λ c D. enter F n c D) (F.body b E) (calm_inner k) in
      let I = has_image target T.worked.exits (rw (← B.listed T.given) at h) in
      let x = I.from in
      let q : x.block ≡ d = ap (λ p. p.1) I.goes in
      leads_calm l n x.state (rw q at (goto_calm_on F (λ c D. enter F n c D) x (T.jumps I.stands) (rw q j)))

module _ {Env Stmt : Type 0} (F : Frame Env Stmt) (Ok : Env → Type 0) (B : Bodies F Ok) (C : Collects F Ok)
    (kept : ℕ → Option Env) (ts : List Stmt) (E : Env) (X : Solution F Ok E kept) where
  -- where all that is due was visited, every reached join point was
  pub reach_visited : (g : Log Stmt) → Under F kept ts E g → ((c : ℕ) → due F kept g c ≡ true → elem c g.visited ≡ true)
      → {c : ℕ} → Reach F c → elem c g.visited ≡ true
  unfolding opening visit stored_visit
  reach_visited g U r (reach_start j) = r 0 (goto_calm_join F (visit F) (opening_exit F E) (calm_every X.opens U.opened) j)
  reach_visited g U r (reach_first {c} j l) = r c (leads_calm B (λ d. due F kept g d ≡ true) l F.blocks E
      (goto_calm_on F (visit F) (opening_exit F E) (calm_every X.opens U.opened) j))
  reach_visited g U r (reach_on {b} {c} R l) =
      let v = reach_visited g U r R in
      let (S, p) = U.stored b v in
      r c (leads_calm B (λ d. due F kept g d ≡ true) l F.blocks S (calm_every (X.visits b S p) (rw (p, stored_visit) at (U.closed b v))))
