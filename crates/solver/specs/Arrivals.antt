-- Where a block's run leaves by: its listed targets, so each exit is to a block. From a good state, a visit brings good states to join
-- points alone.
use Rattle.std.specs.Prelude.{◌≡◌, true, List}
use Rattle.std.proofs.Math.Path.{refl}
use Prim.Native.Nat.{ℕ, zero, suc, ◌<◌}
use Rattle.model.specs.Answer.{Answer, refused, done}
use Rattle.model.specs.Frame.{Exit, Work, Frame, target, Outcome, goto, leave, work, enter, visit, opening_exit, opening}
use Rattle.base.specs.Tests.{split}
use Rattle.base.specs.Each.{Each, each_none, each_more}
use Rattle.solver.specs.Lists.{Has, has_map, each_of}
use Rattle.solver.specs.Laws.{Good, Bodies, Edges}
use Rattle.solver.specs.Outcome.{Every, every_over, every_stop, every_into, every_meet, every_next, every_says}

module _ {Env Stmt : Type 0} {F : Frame Env Stmt} {Ok : Env → Type 0} (B : Bodies F Ok) where
  -- each exit of a block's run is by a listed target
  pub exit_listed : {b : ℕ} {E : Env} {w : Work Env Stmt} → F.body b E ≡ done w → {x : Exit Env} → Has x w.exits → Has (target x) (F.targets b)
  exit_listed e h = rw (B.listed e) at (has_map target h)

module _ {Env Stmt : Type 0} (F : Frame Env Stmt) (Ok : Env → Type 0) where
  -- a good state arrives at a join point
  pub record Fair (x : Exit Env) : Type 0 where
    pub good : Good F Ok x.state
    pub below : x.block < F.blocks
    pub joins : F.join_point x.block ≡ true

  module _ (B : Bodies F Ok) (G : Edges F) where
    -- the arrivals of a visit from a good state are fair
    goto_fair : {go : ℕ → Env → Outcome Env Stmt} → ((b : ℕ) (E : Env) → Good F Ok E → Every Fair (go b E))
        → (x : Exit Env) → Good F Ok x.state → x.block < F.blocks → Every Fair (goto F go x)
    unfolding goto
    goto_fair {go} f x g l = split (F.join_point x.block)
        (λ e. rw (e, goto) (every_meet (record { good = g; below = l; joins = e }) every_over))
        (λ e. rw (e, goto) (f x.block x.state g))

    -- of all jumps of a block
    leave_fair : {go : ℕ → Env → Outcome Env Stmt} → ((b : ℕ) (E : Env) → Good F Ok E → Every Fair (go b E))
        → {xs : List (Exit Env)} → Each (λ x. Good F Ok x.state) xs → Each (λ x. x.block < F.blocks) xs → Every Fair (leave F go xs)
    unfolding leave
    leave_fair f each_none each_none = every_over
    leave_fair {go} f (each_more {a = x} g gs) (each_more l ls) = every_next (goto_fair f x g l) (leave_fair f gs ls)

    -- each exit is to a block
    exits_below : {b : ℕ} {E : Env} {w : Work Env Stmt} → F.body b E ≡ done w → Each (λ x. x.block < F.blocks) w.exits
    exits_below {b} {E} {w} e = each_of w.exits (λ x h. G.below (exit_listed B e h))

    -- of what follows a block's own run
    work_fair : {go : ℕ → Env → Outcome Env Stmt} → ((b : ℕ) (E : Env) → Good F Ok E → Every Fair (go b E))
        → {b : ℕ} {E : Env} (a : Answer (Work Env Stmt)) → F.body b E ≡ a → Good F Ok E → Every Fair (work F go a)
    unfolding work
    work_fair f (refused r) e g = every_stop
    work_fair f (done w) e g = every_says w.lines (leave_fair f (B.good g e) (exits_below e))

    -- at any fuel
    enter_fair : (n b : ℕ) (E : Env) → Good F Ok E → Every Fair (enter F n b E)
    unfolding enter
    enter_fair zero b E g = every_stop
    enter_fair (suc n) b E g = every_into (work_fair (enter_fair n) (F.body b E) refl g)

    -- of a visit
    pub visit_fair : (b : ℕ) (E : Env) → Good F Ok E → Every Fair (visit F b E)
    unfolding visit
    visit_fair b E g = enter_fair F.blocks b E g

    -- of the opening
    pub opening_fair : (E : Env) → Good F Ok E → Every Fair (opening F E)
    unfolding opening
    opening_fair E g = goto_fair visit_fair (opening_exit F E) g G.some_block
