-- In an outcome that enters a block once, what is recorded at the block's points is that block's own, from its canonical state.
use Rattle.std.specs.Prelude.{◌≡◌, false, eqb}
use Rattle.std.proofs.Math.Path.{refl, ap}
use Rattle.std.proofs.Common.{sym, ◌∙◌, arith}
use mathlib.Core.List.{List, [], ◌∷◌, ◌++◌, append-nil}
use Rattle.std.proofs.Math.Option.{Option}
use Prim.Native.Nat.{ℕ, zero, suc, ◌+◌}
use Rattle.std.proofs.Math.Decide.{ℕ_discrete}
use borrow.Author.Tests.{eqb-true}
use Rattle.model.specs.Answer.{Answer, refused, done}
use Rattle.model.specs.Frame.{Line, Exit, Work, Frame, Outcome, goto, leave, work, enter, mark}
use Rattle.base.specs.Tests.{split, clash, eqb_sym}
use Rattle.base.specs.Each.{Each, each_none, each_more, each_same}
use Rattle.solver.specs.Lists.{each_of}
use Rattle.solver.specs.Laws.{Bodies, Points}
use Rattle.solver.specs.Outcome.{Calm, stop_calm, calm_inner, calm_next, calm_says, goto_calm_on}
use Rattle.solver.specs.Arrivals.{exit_listed}
use Rattle.solver.specs.Told.{gives, tell}
use Rattle.solver.specs.Canon.{At, at_on}
use Rattle.solver.specs.Count.{bit, count, count_next, count_says, part, part_append, part_own, part_other, hop, hops, own_lines, tell_next, tell_says, hop_owned, hops_owned}

-- of two numbers whose sum is 1
pub one_of : {P : Type 0} (a b : ℕ) → a + b ≡ 1 → (a ≡ 0 → b ≡ 1 → P) → (a ≡ 1 → b ≡ 0 → P) → P
one_of a b e f g = elim (ℕ_discrete a 0) [ yes p ↦ f p (omega arith) | no p ↦ g (omega arith) (omega arith) ]

-- what is recorded in o at the points of x is x's own
pub record Recorded {Env Stmt : Type 0} (F : Frame Env Stmt) (kept : ℕ → Option Env) (E₀ : Env) (owner : ℕ → ℕ) (x : ℕ) (ls : List (Line Stmt)) : Type 0 where
  pub state : Env
  pub worked : Work Env Stmt
  pub canon : At F kept E₀ x state
  pub given : F.body x state ≡ done worked
  pub there : part owner x ls ≡ own_lines F kept worked

module _ {Env Stmt : Type 0} (F : Frame Env Stmt) {Ok : Env → Type 0} (B : Bodies F Ok) {owner : ℕ → ℕ} (N : Points F owner)
    (kept : ℕ → Option Env) (E₀ : Env) (P : Exit Env → Type 0) (x : ℕ) where
  -- where o does not enter x, it records nothing at x's points
  abbrev None : Outcome Env Stmt → Type 0
  None o = Calm P o → count x o ≡ 0 → part owner x (tell F kept o) ≡ []

  -- where o enters x once, it records x's own there
  abbrev One : Outcome Env Stmt → Type 0
  One o = Calm P o → count x o ≡ 1 → Recorded F kept E₀ owner x (tell F kept o)

  -- a jump that does not enter x records there what is recorded at the jump itself
  goto_none : (go : ℕ → Env → Outcome Env Stmt) → ((c : ℕ) (D : Env) → None (go c D))
      → (y : Exit Env) → Calm P (goto F go y) → count x (goto F go y) ≡ 0 → part owner x (tell F kept (goto F go y)) ≡ part owner x (hop F kept y)
  unfolding goto tell hop part
  goto_none go f y k c = split (F.join_point y.block)
      (λ e. rw (e, goto, hop) (ap (part owner x) (append-nil (mark y.item (gives F kept y)))))
      (λ e. rw (e, goto, hop) (f y.block y.state (goto_calm_on F go y k e) (rw (e, goto) at c)))

  -- so all jumps of a block
  leave_none : (go : ℕ → Env → Outcome Env Stmt) → ((c : ℕ) (D : Env) → None (go c D))
      → (ys : List (Exit Env)) → Calm P (leave F go ys) → count x (leave F go ys) ≡ 0
      → part owner x (tell F kept (leave F go ys)) ≡ part owner x (hops F kept ys)
  unfolding leave tell hops
  leave_none go f [] k c = refl
  leave_none go f (y ∷ ys) k c =
      let (m, n) = calm_next (goto F go y) k in
      let o = goto F go y in
      let q = leave F go ys in
      let s = count_next x q m in
      let u = goto_none go f y m (omega arith) in
      let w = leave_none go f ys n (omega arith) in
      ap (part owner x) (tell_next F kept q m) ∙ part_append owner x (tell F kept o) (tell F kept q) ∙ cc (part_append owner x (hop F kept y) (hops F kept ys))

  -- a block other than x, and what follows it
  work_none : (go : ℕ → Env → Outcome Env Stmt) → ((c : ℕ) (D : Env) → None (go c D))
      → {b : ℕ} {E : Env} (a : Answer (Work Env Stmt)) → F.body b E ≡ a → eqb x b ≡ false → None (work F go a)
  unfolding work
  work_none go f (refused r) e d k c = stop_calm k
  work_none go f {b} (done w) e d k c =
      let o = leave F go w.exits in
      let z = eqb_sym b x ∙ d in
      let u = leave_none go f w.exits (calm_says w.lines k) (sym (count_says x w.lines o) ∙ c) in
      let v = part_other owner x (hops_owned F kept N (each_of w.exits (λ y h. exit_listed B e h))) z in
      let t = part_other owner x (each_same (λ l i. i.owned) (N.inside e)) z in
      ap (part owner x) (tell_says F kept w.lines o) ∙ part_append owner x w.lines (tell F kept o) ∙ cc

  -- where x is not entered, nothing is recorded at its points
  pub enter_none : (n b : ℕ) (E : Env) → None (enter F n b E)
  unfolding enter count tell
  enter_none zero b E k c = stop_calm k
  enter_none (suc n) b E k c = split (eqb x b)
      (λ d. absurd (omega (arith, rw d at c)))
      (λ d. work_none (enter F n) (enter_none n) (F.body b E) refl d (calm_inner k) (omega (arith, rw d at c)))

  -- the same lines, or lines with nothing at x's points before or after
  recorded_same : {ls ms : List (Line Stmt)} → part owner x ms ≡ part owner x ls → Recorded F kept E₀ owner x ls → Recorded F kept E₀ owner x ms
  recorded_same q f = record { state = f.state; worked = f.worked; canon = f.canon; given = f.given; there = q ∙ f.there }

  -- with nothing before
  pub recorded_after : (ls ms : List (Line Stmt)) → part owner x ls ≡ [] → Recorded F kept E₀ owner x ms → Recorded F kept E₀ owner x (ls ++ ms)
  recorded_after ls ms q f = recorded_same (part_append owner x ls ms ∙ ap (λ l. l ++ part owner x ms) q) f

  -- with nothing behind
  pub recorded_before : (ls ms : List (Line Stmt)) → part owner x ms ≡ [] → Recorded F kept E₀ owner x ls → Recorded F kept E₀ owner x (ls ++ ms)
  recorded_before ls ms q f = recorded_same (part_append owner x ls ms ∙ ap (λ l. part owner x ls ++ l) q ∙ append-nil (part owner x ls)) f

  -- jumps with nothing there
  hops_none : {ys : List (Exit Env)} → Each (λ y. part owner x (hop F kept y) ≡ []) ys → part owner x (hops F kept ys) ≡ []
  unfolding hops part
  hops_none each_none = refl
  hops_none (each_more {a = y} {l = ys} p ps) = part_append owner x (hop F kept y) (hops F kept ys) ∙ cc (hops_none ps)

  -- a jump that enters x once
  goto_one : (go : ℕ → Env → Outcome Env Stmt) → ((c : ℕ) (D : Env) → At F kept E₀ c D → One (go c D))
      → (y : Exit Env) → (F.join_point y.block ≡ false → At F kept E₀ y.block y.state) → One (goto F go y)
  unfolding goto count
  goto_one go f y A k c = split (F.join_point y.block)
      (λ e. clash (rw (e, goto) at c))
      (λ e. rw (e, goto) (f y.block y.state (A e) (goto_calm_on F go y k e) (rw (e, goto) at c)))

  -- so all jumps of a block, of which one enters x
  leave_one : (go : ℕ → Env → Outcome Env Stmt) → ((c : ℕ) (D : Env) → None (go c D)) → ((c : ℕ) (D : Env) → At F kept E₀ c D → One (go c D))
      → {ys : List (Exit Env)} → Each (λ y. F.join_point y.block ≡ false → At F kept E₀ y.block y.state) ys
      → Each (λ y. part owner x (hop F kept y) ≡ []) ys → One (leave F go ys)
  unfolding leave count tell hops
  leave_one go f g each_none each_none k c = clash c
  leave_one go f g (each_more {a = y} {l = ys} A As) (each_more p ps) k c =
      let (m, n) = calm_next (goto F go y) k in
      let q = leave F go ys in
      let s = count_next x q m in
      one_of (count x (goto F go y)) (count x q) (omega arith)
      (λ u v. rw (tell_next F kept q m) (recorded_after (tell F kept (goto F go y)) (tell F kept q) (goto_none go f y m u ∙ p) (leave_one go f g As ps n v)))
      (λ u v. rw (tell_next F kept q m) (recorded_before (tell F kept (goto F go y)) (tell F kept q) (leave_none go f ys n v ∙ hops_none ps) (goto_one go g y A m u)))

  -- x itself, or a block that leads to x once
  work_one : (go : ℕ → Env → Outcome Env Stmt) → ((c : ℕ) (D : Env) → None (go c D)) → ((c : ℕ) (D : Env) → At F kept E₀ c D → One (go c D))
      → {b : ℕ} {E : Env} (a : Answer (Work Env Stmt)) → F.body b E ≡ a → At F kept E₀ b E
      → Calm P (work F go a) → bit (eqb x b) + count x (work F go a) ≡ 1 → Recorded F kept E₀ owner x (tell F kept (work F go a))
  unfolding work
  work_one go f g (refused r) e A k c = stop_calm k
  work_one go f g {b} {E} (done w) e A k c =
      let o = leave F go w.exits in
      let s = count_says x w.lines o in
      let m = calm_says w.lines k in
      let os = hops_owned F kept N (each_of w.exits (λ y h. exit_listed B e h)) in
      let ls = each_same (λ l i. i.owned) (N.inside e) in
      split (eqb x b)
      (λ d.
      let z = eqb-true x b d in
      let c' : count x o ≡ 0 = omega (arith, rw d at c) in
      let u = leave_none go f w.exits m c' in
      record {
        state = E;
        worked = w;
        canon = rw z A;
        given = rw z e;
        there = ap (part owner x) (tell_says F kept w.lines o) ∙ part_append owner x w.lines (tell F kept o)
            ∙ cc (part_own owner ls, part_own owner os);
      })
      (λ d.
      let z = eqb_sym b x ∙ d in
      let c' : count x o ≡ 1 = omega (arith, rw d at c) in
      rw (tell_says F kept w.lines o) (recorded_after w.lines (tell F kept o) (part_other owner x ls z)
      (leave_one go f g
      (each_of w.exits (λ y h j. at_on A e h j))
      (each_of w.exits (λ y h. part_other owner x (hop_owned F kept N y (exit_listed B e h)) z))
      m c')))

  -- where x is entered once, its own is recorded at its points
  pub enter_one : (n b : ℕ) (E : Env) → At F kept E₀ b E → One (enter F n b E)
  unfolding enter count tell
  enter_one zero b E A k c = stop_calm k
  enter_one (suc n) b E A k c = work_one (enter F n) (enter_none n) (enter_one n) (F.body b E) refl A (calm_inner k) c
