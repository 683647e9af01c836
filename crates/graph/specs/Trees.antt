-- What is asked of the trees: of a place used, of a match arm, of what is collected, and of what a return owes. Ok: what a state keeps.
use Rattle.std.specs.Prelude.{◌≡◌, true, List, ℕ, ◌≤◌}
use Rattle.std.proofs.Common.{le-leb}
use Rattle.model.specs.Answer.{done}
use Rattle.model.specs.Tree.{Forest, sizes}
use Rattle.model.specs.State.{most}
use Rattle.model.specs.Place.{Spot, At, dash, used_ok}
use Rattle.model.specs.Walk.{carries_at, projection, cast_at, downcasting}
use Rattle.model.specs.Collect.{collects, folds_at_ret}
use Rattle.model.specs.Function.{nlocals, nargs}
use Rattle.model.specs.Body.{frame}
use Rattle.model.specs.Replay.{Quiet}
use Rattle.model.specs.Told.{Tells}
use Rattle.base.specs.Each.{Each}
use Rattle.solver.specs.Laws.{Good}

-- a state of the run
pub small_good : (Γ fn : List ℕ) {Ok : Forest → Type 0} {E : Forest} → Ok E → sizes E ≤ most → Good (frame Γ fn) Ok E
unfolding frame
small_good Γ fn {E} o l = record { ok = o; fits = le-leb (sizes E) most l }

-- a place used: the state after is Ok, what is recorded leads to it, and the place is then quiet; an unfold tells where the opening began
pub record Projected (Γ : List ℕ) (Ok : Forest → Type 0) (q : Spot) (E D : Forest) (ts : List At) : Type 0 where
  pub ok : Ok D
  pub small : sizes D ≤ most
  pub carried : carries_at Γ ts E ≡ done D
  pub quiet : Quiet Γ q D
  pub tells : Tells Γ q E ts

-- a match arm: the state is what the replay's own unfolding gives
pub record Opened (Γ : List ℕ) (Ok : Forest → Type 0) (q : Spot) (v : ℕ) (E D : Forest) : Type 0 where
  pub ok : Ok D
  pub small : sizes D ≤ most
  pub cast : cast_at Γ q v E ≡ done D

-- all that is asked
pub record Trees (Γ fn : List ℕ) (Ok : Forest → Type 0) : Type 0 where
  pub projects : (q : Spot) (E : Forest) {D : Forest} {ts : List At} → used_ok (nlocals fn) q ≡ true → Good (frame Γ fn) Ok E
      → projection Γ q E ≡ done (D, ts) → Projected Γ Ok q E D ts
  pub opens : (q : Spot) (v : ℕ) (E : Forest) {D : Forest} → used_ok (nlocals fn) q ≡ true → Good (frame Γ fn) Ok E
      → downcasting Γ q v E ≡ done D → Opened Γ Ok q v E D
  pub dashed : (E D : Forest) (ts : List At) → collects Γ E D ≡ done ts → Each (λ a. a.what.told ≡ dash) ts
  pub returns : {E : Forest} → Ok E → (D : Forest) × (carries_at Γ (folds_at_ret Γ (nargs fn) E) E ≡ done D)
