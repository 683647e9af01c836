-- The same visit in the style of code: the block and goto functions call each other, with the pass's state handed on, and no
-- outcome is built. Equal to taking in the outcome, so that code of this shape meets the definitions.
use Rattle.std.specs.Prelude.{◌≡◌, true, false}
use Rattle.std.proofs.Math.Path.{refl}
use Rattle.std.proofs.Common.{◌∙◌}
use mathlib.Core.List.{List, [], ◌∷◌}
use Prim.Native.Nat.{ℕ, zero, suc}
use Rattle.model.specs.Answer.{Answer, refused, done, ◌>>=◌}
use Rattle.model.specs.Frame.{Line, Exit, Work, Frame, Outcome, over, stop, into, say, meet, next, says, goto, leave, work, enter, visit, opening_exit, opening}
use Rattle.model.specs.Passes.{absorb}
use Rattle.base.specs.Tests.{split}
use Rattle.base.specs.Answer.{split_answer}

module _ {Env Stmt S : Type 0} (F : Frame Env Stmt) (hear : Line Stmt → S → S) (arrive : Exit Env → S → Answer S) where
  -- lines, one after the other
  unfoldable pub hears : List (Line Stmt) → S → S
  hears [] s = s
  hears (l ∷ ls) s = hears ls (hear l s)

  -- a jump
  unfoldable pub do_goto : (ℕ → Env → S → Answer S) → Exit Env → S → Answer S
  do_goto go x s = elim (F.join_point x.block) [ true ↦ arrive x s | false ↦ go x.block x.state s ]

  -- all jumps of a block
  unfoldable pub do_leave : (ℕ → Env → S → Answer S) → List (Exit Env) → S → Answer S
  do_leave go [] s = done s
  do_leave go (x ∷ xs) s = do_goto go x s >>= λ t. do_leave go xs t

  -- what follows a block's own run
  unfoldable pub do_work : (ℕ → Env → S → Answer S) → Answer (Work Env Stmt) → S → Answer S
  do_work go (refused r) s = refused r
  do_work go (done w) s = do_leave go w.exits (hears w.lines s)

  -- a block is entered
  unfoldable pub do_enter : ℕ → ℕ → Env → S → Answer S
  do_enter zero b E s = refused 0
  do_enter (suc n) b E s = do_work (λ c D t. do_enter n c D t) (F.body b E) s

  -- outcomes in a row are taken in in a row
  pub absorb_next : (o q : Outcome Env Stmt) (s : S) → absorb hear arrive (next o q) s ≡ (absorb hear arrive o s >>= λ t. absorb hear arrive q t)
  unfolding absorb next
  absorb_next over q s = refl
  absorb_next (stop r) q s = refl
  absorb_next (into b E o) q s = absorb_next o q s
  absorb_next (say l o) q s = absorb_next o q (hear l s)
  absorb_next (meet x o) q s = split_answer (arrive x s) (λ r e. cc) (λ t e. cc (absorb_next o q t))

  -- lines are taken in one after the other
  pub absorb_says : (ls : List (Line Stmt)) (o : Outcome Env Stmt) (s : S) → absorb hear arrive (says ls o) s ≡ absorb hear arrive o (hears ls s)
  unfolding absorb says hears
  absorb_says [] o s = refl
  absorb_says (l ∷ ls) o s = absorb_says ls o (hear l s)

  -- to take in what the one gives is to do what the other does
  abbrev Agree : (ℕ → Env → Outcome Env Stmt) → (ℕ → Env → S → Answer S) → Type 0
  Agree go ho = (c : ℕ) (D : Env) (s : S) → absorb hear arrive (go c D) s ≡ ho c D s

  -- a jump
  goto_agree : (go : ℕ → Env → Outcome Env Stmt) (ho : ℕ → Env → S → Answer S) → Agree go ho → (x : Exit Env) (s : S)
      → absorb hear arrive (goto F go x) s ≡ do_goto ho x s
  unfolding goto do_goto absorb
  goto_agree go ho f x s = split (F.join_point x.block)
      (λ e. split_answer (arrive x s) (λ r d. cc) (λ t d. cc))
      (λ e. cc (f x.block x.state s))

  -- all jumps of a block
  leave_agree : (go : ℕ → Env → Outcome Env Stmt) (ho : ℕ → Env → S → Answer S) → Agree go ho → (xs : List (Exit Env)) (s : S)
      → absorb hear arrive (leave F go xs) s ≡ do_leave ho xs s
  unfolding leave do_leave absorb
  leave_agree go ho f [] s = refl
  leave_agree go ho f (x ∷ xs) s =
      absorb_next (goto F go x) (leave F go xs) s
      ∙ split_answer (do_goto ho x s)
      (λ r e. cc (goto_agree go ho f x s))
      (λ t e. cc (goto_agree go ho f x s, leave_agree go ho f xs t))

  -- what follows a block's own run
  work_agree : (go : ℕ → Env → Outcome Env Stmt) (ho : ℕ → Env → S → Answer S) → Agree go ho → (a : Answer (Work Env Stmt)) (s : S)
      → absorb hear arrive (work F go a) s ≡ do_work ho a s
  unfolding work do_work absorb
  work_agree go ho f (refused r) s = refl
  work_agree go ho f (done w) s = absorb_says w.lines (leave F go w.exits) s ∙ leave_agree go ho f w.exits (hears w.lines s)

  -- a block entered
  pub enter_agree : (n : ℕ) → Agree (λ c D. enter F n c D) (λ c D s. do_enter n c D s)
  unfolding enter do_enter absorb
  enter_agree zero c D s = refl
  enter_agree (suc n) c D s = work_agree (enter F n) (λ c D s. do_enter n c D s) (enter_agree n) (F.body c D) s

  -- a visit and the opening, with the fuel that never runs out (Fuel)
  pub visit_agree : (b : ℕ) (E : Env) (s : S) → absorb hear arrive (visit F b E) s ≡ do_enter F.blocks b E s
  unfolding visit
  visit_agree b E s = enter_agree F.blocks b E s

  -- and the opening
  pub opening_agree : (E : Env) (s : S) → absorb hear arrive (opening F E) s ≡ do_goto (λ c D t. do_enter F.blocks c D t) (opening_exit F E) s
  unfolding opening
  opening_agree E s = goto_agree (visit F) (λ c D t. do_enter F.blocks c D t) visit_agree (opening_exit F E) s
