-- What the call answers at each of its returns, and what follows from it.
use mathlib.Core.Path.{◌≡◌, refl, sym, ap, ◌∙◌, subst}
use mathlib.Core.List.{List}
use Prim.Native.Nat.{ℕ}
use Rattle.std.specs.Prelude.{Result, Ok, Err, OnOk}
use lib.ListN.{length, drop, replicate}
use Rattle.model.specs.Words.{word}
use Rattle.model.specs.Crate.{records, Outcome, stopped_at}
use Rattle.model.specs.Replay.{ReplayedEach}
use Rattle.demand.specs.Crates.{crate_demand, crate_refuses}
use Rattle.refusal.specs.declared.Refusal.{Refusal}
use Rattle.whole_crate.specs.Called.{verdict_of, Leaves, Called, Goes, Numbered, Begun}
use Rattle.whole_crate.specs.declared.CrateRefusal.{CrateRefusal}

-- an outcome by another that is the same
as_outcome : {o p : Outcome} {fs ws out : List ℕ} {r : Result (Unit {0}) CrateRefusal} → o ≡ p → Leaves p fs ws out r → Leaves o fs ws out r
as_outcome {fs = fs} {ws} {out} {r} e L = subst (λ (x : Outcome). Leaves x fs ws out r) (sym e) L

-- only the lengths of what was lent count
goes_same : (Γ words fs ws out fs₀ ws₀ out₀ : List ℕ) {fs' ws' out' : List ℕ} {r : Result (Unit {0}) CrateRefusal} → length fs₀ ≡ length fs → length ws₀ ≡ length ws → length out₀ ≡ length out
    → Goes Γ words fs₀ ws₀ out₀ fs' ws' out' r → Goes Γ words fs ws out fs' ws' out' r
goes_same Γ words fs ws out fs₀ ws₀ out₀ lf lw lo G = rw (lf, lw, lo) at G

module _ (Γ words fs ws out : List ℕ) {offs fs' ws' out' : List ℕ} where
  -- the tests refuse
  pub called_denied : {k : Refusal} → Begun Γ words offs (Err k) → fs' ≡ replicate (length fs) 0 → ws' ≡ replicate (length ws) 0 → out' ≡ replicate (length out) 0
      → Called Γ words fs ws out fs' ws' out' (Err (record { refusal = k; position = 0 }))
  unfolding stopped_at
  called_denied B zf zw zo = as_outcome (B.denied _ refl (length fs) (length ws) (length out)) (record { answer = refl; forms = zf; whats = zw; records_are = zo })

  -- they pass
  pub called_passed : Begun Γ words offs (Ok tt) → (fs₀ ws₀ out₀ : List ℕ) {r : Result (Unit {0}) CrateRefusal} → length fs₀ ≡ length fs → length ws₀ ≡ length ws → length out₀ ≡ length out
      → Goes Γ words fs₀ ws₀ out₀ fs' ws' out' r → Called Γ words fs ws out fs' ws' out' r
  called_passed B fs₀ ws₀ out₀ lf lw lo G = as_outcome (B.passed refl (length fs) (length ws) (length out)) (goes_same Γ words fs ws out fs₀ ws₀ out₀ lf lw lo G)

-- DEMANDS 3 AND 1, of the call
module _ (Γ words fs ws out : List ℕ) {fs' ws' out' : List ℕ} where
  pub called_replayed : (r : Result (Unit {0}) CrateRefusal) → Called Γ words fs ws out fs' ws' out' r → OnOk r (ReplayedEach Γ (records (word words 0) (drop 1 words)) out')
  called_replayed (Ok u) L = subst (ReplayedEach Γ (records (word words 0) (drop 1 words))) (sym L.records_are)
      (crate_demand Γ (length fs) (length ws) (length out) words (sym L.answer))
  called_replayed (Err c) L = tt

  pub called_numbered : {r : Result (Unit {0}) CrateRefusal} → Called Γ words fs ws out fs' ws' out' r → Numbered words r
  called_numbered L c e = crate_refuses Γ (length fs) (length ws) (length out) words (sym L.answer ∙ ap verdict_of e)
