-- Statements about all arrivals of an outcome, and about an outcome that isn't refused.
use Rattle.std.specs.Prelude.{◌≡◌, refl, true, false, ℕ}
use mathlib.Core.List.{List, [], ◌∷◌}
use Rattle.model.specs.Answer.{Answer, refused, done}
use Rattle.model.specs.Frame.{Line, Exit, Work, Frame, Outcome, over, stop, into, say, meet, next, says, goto, leave, work}
use Rattle.solver.specs.Lists.{Has, here, later}

module _ {Env Stmt : Type 0} where
  -- every arrival is P (a refusal may end it)
  pub data Every (P : Exit Env → Type 0) : Outcome Env Stmt → Type 0 where
    every_over : Every P over
    every_stop : {r : ℕ} → Every P (stop r)
    every_into : {b : ℕ} {E : Env} {o : Outcome Env Stmt} → Every P o → Every P (into b E o)
    every_say : {l : Line Stmt} {o : Outcome Env Stmt} → Every P o → Every P (say l o)
    every_meet : {x : Exit Env} {o : Outcome Env Stmt} → P x → Every P o → Every P (meet x o)

  -- every arrival is P, and it isn't refused
  pub data Calm (P : Exit Env → Type 0) : Outcome Env Stmt → Type 0 where
    calm_over : Calm P over
    calm_into : {b : ℕ} {E : Env} {o : Outcome Env Stmt} → Calm P o → Calm P (into b E o)
    calm_say : {l : Line Stmt} {o : Outcome Env Stmt} → Calm P o → Calm P (say l o)
    calm_meet : {x : Exit Env} {o : Outcome Env Stmt} → P x → Calm P o → Calm P (meet x o)

  -- a consequence
  pub every_map : {P Q : Exit Env → Type 0} {o : Outcome Env Stmt} → ((x : Exit Env) → P x → Q x) → Every P o → Every Q o
  every_map f every_over = every_over
  every_map f every_stop = every_stop
  every_map f (every_into h) = every_into (every_map f h)
  every_map f (every_say h) = every_say (every_map f h)
  every_map f (every_meet {x} p h) = every_meet (f x p) (every_map f h)

  -- a consequence
  pub calm_map : {P Q : Exit Env → Type 0} {o : Outcome Env Stmt} → ((x : Exit Env) → P x → Q x) → Calm P o → Calm Q o
  calm_map f calm_over = calm_over
  calm_map f (calm_into h) = calm_into (calm_map f h)
  calm_map f (calm_say h) = calm_say (calm_map f h)
  calm_map f (calm_meet {x} p h) = calm_meet (f x p) (calm_map f h)

  -- calm, and each arrival P
  pub calm_every : {P Q : Exit Env → Type 0} {o : Outcome Env Stmt} → Calm Q o → Every P o → Calm P o
  calm_every calm_over every_over = calm_over
  calm_every (calm_into k) (every_into h) = calm_into (calm_every k h)
  calm_every (calm_say k) (every_say h) = calm_say (calm_every k h)
  calm_every (calm_meet q k) (every_meet p h) = calm_meet p (calm_every k h)

  -- a refusal is not calm
  pub stop_calm : {A : Type 0} {P : Exit Env → Type 0} {r : ℕ} → Calm P (stop r) → A
  stop_calm = elim [ ]

  -- behind an entry
  pub calm_inner : {P : Exit Env → Type 0} {b : ℕ} {E : Env} {o : Outcome Env Stmt} → Calm P (into b E o) → Calm P o
  calm_inner (calm_into k) = k

  -- the first arrival
  pub calm_first : {P : Exit Env → Type 0} {x : Exit Env} {o : Outcome Env Stmt} → Calm P (meet x o) → P x
  calm_first (calm_meet p k) = p

  -- one outcome after the other
  pub every_next : {P : Exit Env → Type 0} {o q : Outcome Env Stmt} → Every P o → Every P q → Every P (next o q)
  unfolding next
  every_next every_over k = k
  every_next every_stop k = every_stop
  every_next (every_into h) k = every_into (every_next h k)
  every_next (every_say h) k = every_say (every_next h k)
  every_next (every_meet p h) k = every_meet p (every_next h k)

  -- lines first
  pub every_says : {P : Exit Env → Type 0} (ls : List (Line Stmt)) {o : Outcome Env Stmt} → Every P o → Every P (says ls o)
  unfolding says
  every_says [] h = h
  every_says (l ∷ ls) h = every_say (every_says ls h)

  -- what is calm is calm in its parts
  pub calm_next : {P : Exit Env → Type 0} (o : Outcome Env Stmt) {q : Outcome Env Stmt} → Calm P (next o q) → Calm P o × Calm P q
  unfolding next
  calm_next over k = (calm_over, k)
  calm_next (stop r) k = stop_calm k
  calm_next (into b E o) (calm_into k) = let h = calm_next o k in (calm_into h.0, h.1)
  calm_next (say l o) (calm_say k) = let h = calm_next o k in (calm_say h.0, h.1)
  calm_next (meet x o) (calm_meet p k) = let h = calm_next o k in (calm_meet p h.0, h.1)

  -- behind lines
  pub calm_says : {P : Exit Env → Type 0} (ls : List (Line Stmt)) {o : Outcome Env Stmt} → Calm P (says ls o) → Calm P o
  unfolding says
  calm_says [] k = k
  calm_says (l ∷ ls) (calm_say k) = calm_says ls k

-- a block's own run isn't refused, and its jumps are calm
pub record Through {Env Stmt : Type 0} (F : Frame Env Stmt) (P : Exit Env → Type 0) (go : ℕ → Env → Outcome Env Stmt) (a : Answer (Work Env Stmt)) : Type 0 where
  pub worked : Work Env Stmt
  pub given : a ≡ done worked
  pub jumps : {x : Exit Env} → Has x worked.exits → Calm P (goto F go x)

-- what a calm visit says of its jumps
module _ {Env Stmt : Type 0} (F : Frame Env Stmt) {P : Exit Env → Type 0} (go : ℕ → Env → Outcome Env Stmt) where
  -- each jump of a calm block is calm: stated so that the list is recursed on
  leave_calm_by : {x : Exit Env} {xs : List (Exit Env)} → Calm P (leave F go xs) → Has x xs → Calm P (goto F go x)
  unfolding leave
  leave_calm_by {xs = []} k h = elim h [ ]
  leave_calm_by {xs = x ∷ xs} k here = (calm_next (goto F go x) k).0
  leave_calm_by {xs = y ∷ xs} k (later h) = leave_calm_by (calm_next (goto F go y) k).1 h

  -- each jump of a calm block is calm
  pub leave_calm : {xs : List (Exit Env)} → Calm P (leave F go xs) → {x : Exit Env} → Has x xs → Calm P (goto F go x)
  leave_calm k h = leave_calm_by k h

  -- a calm jump to a join point arrives
  pub goto_calm_join : (x : Exit Env) → Calm P (goto F go x) → F.join_point x.block ≡ true → P x
  unfolding goto
  goto_calm_join x k e = calm_first (rw (e, goto) at k)

  -- any other enters its block
  pub goto_calm_on : (x : Exit Env) → Calm P (goto F go x) → F.join_point x.block ≡ false → Calm P (go x.block x.state)
  unfolding goto
  goto_calm_on x k e = rw (e, goto) at k

  -- a calm block's own run was accepted
  pub work_calm : (a : Answer (Work Env Stmt)) → Calm P (work F go a) → Through F P go a
  unfolding work
  work_calm (refused r) k = stop_calm k
  work_calm (done w) k = record { worked = w; given = refl; jumps = λ h. leave_calm (calm_says w.lines k) h }
