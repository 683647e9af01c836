-- Statements marked at one point, and what stands at a point.
use Rattle.std.specs.Prelude.{◌≡◌, false, ℕ, eqb}
use Rattle.std.proofs.Math.Path.{refl}
use Rattle.std.proofs.Common.{◌∙◌, ap}
use mathlib.Core.List.{List, [], ◌∷◌, ◌++◌, append-nil}
use Rattle.model.specs.Frame.{Line, mark}
use Rattle.model.specs.Replay.{at_point}
use Rattle.base.specs.Tests.{split, eqb_same}
use Rattle.base.specs.Each.{Each, each_none, each_more}

module _ {Stmt : Type 0} where
  -- one list after the other
  pub at_append : (p : ℕ) (ls ms : List (Line Stmt)) → at_point p (ls ++ ms) ≡ at_point p ls ++ at_point p ms
  unfolding at_point
  at_append p [] ms = refl
  at_append p (l ∷ ls) ms = split (eqb l.point p) (λ e. cc (at_append p ls ms)) (λ e. cc (at_append p ls ms))

  -- lines at other points
  pub at_none : (p : ℕ) {ls : List (Line Stmt)} → Each (λ l. eqb l.point p ≡ false) ls → at_point p ls ≡ []
  unfolding at_point
  at_none p each_none = refl
  at_none p (each_more e es) = cc (at_none p es)

  -- behind or before lines at other points
  pub at_first : (p : ℕ) (ls : List (Line Stmt)) {ms : List (Line Stmt)} → Each (λ l. eqb l.point p ≡ false) ms → at_point p (ls ++ ms) ≡ at_point p ls
  at_first p ls {ms} h = at_append p ls ms ∙ ap (λ l. at_point p ls ++ l) (at_none p h) ∙ append-nil (at_point p ls)

  -- and behind them
  pub at_second : (p : ℕ) {ls : List (Line Stmt)} (ms : List (Line Stmt)) → Each (λ l. eqb l.point p ≡ false) ls → at_point p (ls ++ ms) ≡ at_point p ms
  at_second p {ls} ms h = at_append p ls ms ∙ ap (λ l. l ++ at_point p ms) (at_none p h)

  -- lines marked at the point, and at another
  pub at_mark : (p : ℕ) (ts : List Stmt) → at_point p (mark p ts) ≡ ts
  unfolding at_point mark
  at_mark p [] = refl
  at_mark p (t ∷ ts) = cc (at_mark p ts, eqb_same p)

  -- at another point there is none of them
  pub at_mark_other : (p i : ℕ) (ts : List Stmt) → eqb i p ≡ false → at_point p (mark i ts) ≡ []
  unfolding at_point mark
  at_mark_other p i [] e = refl
  at_mark_other p i (t ∷ ts) e = cc (at_mark_other p i ts e)

  -- each of the lines marked at a point
  pub each_mark : {Q : Line Stmt → Type 0} (i : ℕ) (ts : List Stmt) → ((t : Stmt) → Q (record { point = i; stmt = t })) → Each Q (mark i ts)
  unfolding mark
  each_mark i [] f = each_none
  each_mark i (t ∷ ts) f = each_more (f t) (each_mark i ts f)

  -- if each of the statements is P
  pub each_marked : {P : Stmt → Type 0} {Q : Line Stmt → Type 0} (i : ℕ) → ((t : Stmt) → P t → Q (record { point = i; stmt = t }))
      → {ts : List Stmt} → Each P ts → Each Q (mark i ts)
  unfolding mark
  each_marked i f each_none = each_none
  each_marked i f (each_more {a} p ps) = each_more (f a p) (each_marked i f ps)
