-- The answers of the calls, by what model's answer is known to be.
use mathlib.Core.Path.{◌≡◌, refl, sym, ◌∙◌, ap, subst}
use mathlib.Core.List.{List}
use Prim.Native.Nat.{ℕ}
use Rattle.std.specs.Prelude.{Option, Some, None, Result, Ok, Err, MatchResult, IsOkAnd}
use Rattle.model.specs.Answer.{Answer, refused, done, ◌>>=◌}
use Rattle.model.specs.Tree.{Forest}
use Rattle.model.specs.Place.{At}
use Rattle.base.specs.Tests.{clash}
use Rattle.model.specs.Calls.{recorded_as}
use Rattle.records.specs.Here.{Holds}
use Rattle.refusal.specs.Refusal.{number, answered}
use Rattle.refusal.specs.declared.Refusal.{Refusal}
use Rattle.state.specs.Value.{value}
use Rattle.state.specs.declared.nodes.State.{State}
use Rattle.env.specs.declared.project.Use.{Use}
use Rattle.walk.specs.declared.step.More.{More}
use Rattle.walk.specs.declared.along.Walk.{Walk}
use Rattle.env.specs.Answers.{usage, moved, use_of, granted, Projects, Moves, Widens, Lasts}

-- a projection's answer, told with the number m
abbrev told : ℕ → Answer (Forest × List At) → Answer Use
told m a = a >>= λ w. done (use_of m (recorded_as w.1))

module _ {Γ locals : List ℕ} {s : State} where
  -- a refusal gives the state back
  pub moves_refused : {a : Answer Forest} {n : Refusal} → a ≡ refused (number n) → Moves Γ locals s a (moved (Err n) s)
  moves_refused e = record { answer = ap granted (sym e); moved = λ D d. clash (cc); kept = λ n d. refl }

  -- an answer
  pub moves_done : {a : Answer Forest} {D : Forest} {r : State} → a ≡ done D → Holds Γ locals (value r) D → Moves Γ locals s a (moved (Ok tt) r)
  moves_done {D = D} {r} e h =
      record {
        answer = ap granted (sym e);
        moved = λ F d. let same : D ≡ F = cc in subst (Holds Γ locals (value r)) same h;
        kept = λ n d. clash (cc);
      }

  module _ {m : ℕ} where
    -- a refusal of one
    pub projects_refused : {a : Answer (Forest × List At)} {n : Refusal} → a ≡ refused (number n) → Projects Γ locals s m a (usage (Err n) s)
    projects_refused e = record { answer = ap (told m) (sym e); moved = λ w d. clash (cc); kept = λ n d. refl }

    -- what one gives
    pub projects_done : {a : Answer (Forest × List At)} {w : Forest × List At} {u : Use} {r : State} → a ≡ done w → u ≡ use_of m (recorded_as w.1)
        → Holds Γ locals (value r) w.0 → Projects Γ locals s m a (usage (Ok u) r)
    projects_done {w = w} {u} {r} e p h =
        record {
          answer = rw p (ap (told m) (sym e));
          moved = λ v d. let same : w ≡ v = cc in subst (λ (u : Forest × List At). Holds Γ locals (value r) u.0) same h;
          kept = λ n d. clash (cc);
        }

-- ONE STEP MORE, by what it does

module _ {Γ locals : List ℕ} (ops args : List ℕ) {s : State} (m : More) {a : Answer Forest} where
  -- it opens nodes
  pub lasts_opens : {o : Option Walk} {w : Walk} → o ≡ Some w → Lasts Γ locals ops args s m a (Ok o) → Widens Γ locals ops args s m a w
  lasts_opens e l = rw e at l

-- is it refused? P is what is known of its value where it is not
pub lasts_told : (Γ locals ops args : List ℕ) (s : State) (m : More) (a : Answer Forest) (r : Result (Option Walk) Refusal) (b : Result (Unit {0}) Refusal) (P : Option Walk → Unit {0} → Type 0)
    → MatchResult r (λ o. IsOkAnd b (P o)) (λ n. b ≡ Err n) → Lasts Γ locals ops args s m a r → answered b ≡ granted a
lasts_told Γ locals ops args s m a (Ok None) (Ok _) P e l = l.answer
lasts_told Γ locals ops args s m a (Ok (Some w)) (Ok _) P e l = sym l.fine
lasts_told Γ locals ops args s m a (Ok None) (Err n) P e l = absurd e
lasts_told Γ locals ops args s m a (Ok (Some w)) (Err n) P e l = absurd e
lasts_told Γ locals ops args s m a (Err n) b P e l = ap answered e ∙ ap granted (sym l)
