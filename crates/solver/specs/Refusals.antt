-- Where a refusal comes from: a block's own run, or 9 at a join. So the number 0, which the definitions give where nothing
-- else could stand (no fuel, a waiting block with no state), is never met.
use Rattle.std.specs.Prelude.{◌≡◌, false}
use Rattle.std.proofs.Math.Path.{refl, subst}
use mathlib.Core.List.{List, [], ◌∷◌}
use Prim.Native.Nat.{ℕ, zero, suc, ◌<◌}
use Rattle.model.specs.Answer.{Answer, refused, done}
use Rattle.model.specs.Frame.{Line, Exit, Work, Frame, Outcome, over, stop, into, say, meet, next, says, goto, leave, work, enter}
use Rattle.model.specs.Passes.{absorb, Store, merge, arrive, take_in}
use Rattle.base.specs.Tests.{split, split_option, clash}
use Rattle.base.specs.Answer.{split_answer}
use Rattle.base.specs.Each.{Each, each_none, each_more}
use Rattle.solver.specs.Lists.{Has, each_has, each_of}
use Rattle.solver.specs.Laws.{Good, Bodies, Edges}
use Rattle.solver.specs.Arrivals.{exit_listed}
use Rattle.solver.specs.Fuel.{Deep}

-- Q: what is shown of every refusal's number
module _ {Env Stmt : Type 0} (F : Frame Env Stmt) {Ok : Env → Type 0} (B : Bodies F Ok) (G : Edges F) (Q : ℕ → Type 0)
    (full : Q 9) (own_run : (b : ℕ) (E : Env) (r : ℕ) → b < F.blocks → Good F Ok E → F.body b E ≡ refused r → Q r) where
  -- an outcome that is refused with such numbers alone
  pub data Stops : Outcome Env Stmt → Type 0 where
    stops_over : Stops over
    stops_stop : {r : ℕ} → Q r → Stops (stop r)
    stops_into : {b : ℕ} {E : Env} {o : Outcome Env Stmt} → Stops o → Stops (into b E o)
    stops_say : {l : Line Stmt} {o : Outcome Env Stmt} → Stops o → Stops (say l o)
    stops_meet : {x : Exit Env} {o : Outcome Env Stmt} → Stops o → Stops (meet x o)

  -- one outcome after the other
  stops_next : {o q : Outcome Env Stmt} → Stops o → Stops q → Stops (next o q)
  unfolding next
  stops_next stops_over k = k
  stops_next (stops_stop p) k = stops_stop p
  stops_next (stops_into h) k = stops_into (stops_next h k)
  stops_next (stops_say h) k = stops_say (stops_next h k)
  stops_next (stops_meet h) k = stops_meet (stops_next h k)

  -- lines first
  stops_says : (ls : List (Line Stmt)) {o : Outcome Env Stmt} → Stops o → Stops (says ls o)
  unfolding says
  stops_says [] h = h
  stops_says (l ∷ ls) h = stops_say (stops_says ls h)

  -- jumps to where the fuel is enough
  pub goto_stops : (go : ℕ → Env → Outcome Env Stmt) (x : Exit Env) → (F.join_point x.block ≡ false → Stops (go x.block x.state)) → Stops (goto F go x)
  unfolding goto
  goto_stops go x f = split (F.join_point x.block) (λ e. rw (e, goto) (stops_meet stops_over)) (λ e. rw (e, goto) (f e))

  -- all jumps of a block
  leave_stops : (go : ℕ → Env → Outcome Env Stmt) {xs : List (Exit Env)}
      → Each (λ x. F.join_point x.block ≡ false → Stops (go x.block x.state)) xs → Stops (leave F go xs)
  unfolding leave
  leave_stops go each_none = stops_over
  leave_stops go (each_more {a = x} f fs) = stops_next (goto_stops go x f) (leave_stops go fs)

  -- what follows a block's own run
  work_stops : (go : ℕ → Env → Outcome Env Stmt) {b : ℕ} {E : Env} (a : Answer (Work Env Stmt)) → F.body b E ≡ a → b < F.blocks → Good F Ok E
      → ((i c : ℕ) (D : Env) → Has (i, c) (F.targets b) → F.join_point c ≡ false → Good F Ok D → Stops (go c D)) → Stops (work F go a)
  unfolding work
  work_stops go {b} {E} (refused r) e l g f = stops_stop (own_run b E r l g e)
  work_stops go (done w) e l g f = stops_says w.lines
      (leave_stops go (each_of w.exits (λ x h j. f x.item x.block x.state (exit_listed B e h) j (each_has (B.good g e) h))))

  -- a block entered with enough fuel
  pub enter_stops : (n b : ℕ) (E : Env) → Deep F n b → b < F.blocks → Good F Ok E → Stops (enter F n b E)
  unfolding enter
  enter_stops zero b E d l g = absurd d
  enter_stops (suc n) b E d l g = stops_into (work_stops (enter F n) (F.body b E) refl l g (λ i c D h e k. enter_stops n c D (d i c h e) (G.below h) k))

  -- an arrival is refused with 9 alone
  arrive_refused : (x : Exit Env) (s : Store Env) (r : ℕ) → arrive F x s ≡ refused r → Q r
  unfolding arrive merge
  arrive_refused x s r e = split_option (s.kept x.block)
      (λ p. clash (cc))
      (λ S p. split (F.room (F.join S x.state))
      (λ m. split (F.changed S x.state) (λ n. clash (cc)) (λ n. clash (cc)))
      (λ m. let q : 9 ≡ r = cc in subst Q q full))

  -- to take in an outcome is refused as the outcome or an arrival is
  pub take_refused : (s : Store Env) (r : ℕ) {o : Outcome Env Stmt} → Stops o → take_in F o s ≡ refused r → Q r
  unfolding take_in absorb
  take_refused s r stops_over e = clash (cc)
  take_refused s r (stops_stop {r = k} p) e = let q : k ≡ r = cc in subst Q q p
  take_refused s r (stops_into h) e = take_refused s r h e
  take_refused s r (stops_say h) e = take_refused s r h e
  take_refused s r (stops_meet {x} h) e = split_answer (arrive F x s)
      (λ k d. let q : k ≡ r = cc in subst Q q (arrive_refused x s k d))
      (λ t d. take_refused t r h (cc))
