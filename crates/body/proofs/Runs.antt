-- A run of items: by its first item, and in two parts.
use mathlib.Core.Path.{◌≡◌, refl, sym, ap, ◌∙◌}
use mathlib.Core.Bool.{Bool, true, false}
use mathlib.Core.List.{List, [], ◌++◌, append_assoc}
use Prim.Native.Nat.{ℕ, zero, suc, ◌+◌}
use native.Mathlib.Nat.{zero-add, add-zero, suc-add, add-suc}
use Rattle.model.specs.Answer.{Answer, refused, done, ◌>>=◌}
use Rattle.model.specs.Tree.{Forest}
use Rattle.model.specs.Place.{At}
use Rattle.model.specs.Walk.{projection}
use Rattle.model.specs.Block.{spot_before, uses_place}
use Rattle.model.specs.Frame.{Line, mark}
use Rattle.base.specs.Tests.{split}
use Rattle.base.specs.Answer.{bind_same, bind_done, bind_bind}
use Rattle.statements.specs.Points.{point}
use Rattle.body.specs.Uses.{uses}

-- a state, and lines
abbrev pub Run : Type 0
Run = Forest × List (Line At)

-- lines in front of a run's
abbrev pub behind : List (Line At) → Answer Run → Answer Run
behind ls a = a >>= λ w. done (w.0, ls ++ w.1)

-- none
pub behind_none : (a : Answer Run) → behind [] a ≡ a
behind_none a = bind_done a

-- two lists of lines
behind_behind : (ls ms : List (Line At)) (a : Answer Run) → behind ls (behind ms a) ≡ behind (ls ++ ms) a
behind_behind ls ms a =
    bind_bind a (λ w. done (w.0, ms ++ w.1)) (λ w. done (w.0, ls ++ w.1))
    ∙ bind_same a (λ w. ap (λ (l : List (Line At)). done (w.0, l)) (sym (append_assoc ls ms w.1)))

-- lines in front of two runs, one after the other
behind_then : (ls : List (Line At)) (a : Answer Run) (f : Forest → Answer Run)
    → behind ls (a >>= λ x. behind x.1 (f x.0)) ≡ behind ls a >>= λ x. behind x.1 (f x.0)
behind_then ls (refused k) f = refl
behind_then ls (done x) f = behind_behind ls x.1 (f x.0)

module _ (Γ fn : List ℕ) (entry : Bool) where
  -- the first item uses a place
  pub uses_pass : (i : ℕ) → uses_place fn i ≡ true → (n : ℕ) (E : Forest)
      → uses Γ fn entry (suc n) i E ≡ projection Γ (spot_before fn i) E >>= λ r. behind (mark (point fn entry i) r.1) (uses Γ fn entry n (suc i) r.0)
  unfolding uses
  uses_pass i u n E = rw (u, uses)

  -- or none
  pub uses_fail : (i : ℕ) → uses_place fn i ≡ false → (n : ℕ) (E : Forest) → uses Γ fn entry (suc n) i E ≡ uses Γ fn entry n (suc i) E
  unfolding uses
  uses_fail i u n E = rw (u, uses)

  -- no item
  pub uses_none : (i : ℕ) (E : Forest) → uses Γ fn entry 0 i E ≡ done (E, [])
  unfolding uses
  uses_none i E = refl

  -- two runs, one after the other
  pub uses_append : (m n i : ℕ) (E : Forest)
      → uses Γ fn entry (m + n) i E ≡ uses Γ fn entry m i E >>= λ x. behind x.1 (uses Γ fn entry n (i + m) x.0)
  uses_append zero n i E = rw (zero-add, add-zero, uses_none i E) (sym (behind_none _))
  uses_append (suc m) n i E = rw (suc-add, add-suc i m, ← suc-add i m) (split (uses_place fn i)
      (λ u. rw (uses_pass i u (m + n) E, uses_pass i u m E)
      (bind_same (projection Γ (spot_before fn i) E) (λ r.
      ap (behind (mark (point fn entry i) r.1)) (uses_append m n (suc i) r.0)
      ∙ behind_then (mark (point fn entry i) r.1) (uses Γ fn entry m (suc i) r.0) (uses Γ fn entry n (suc i + m)))
      ∙ sym (bind_bind (projection Γ (spot_before fn i) E) _ _)))
      (λ u. rw (uses_fail i u (m + n) E, uses_fail i u m E) (uses_append m n (suc i) E)))
