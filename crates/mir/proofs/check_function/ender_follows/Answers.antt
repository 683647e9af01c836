-- `mir::check_function::ender_follows` meets its contract: each ender with the rows that it stands behind. Assumes nothing.
use mathlib.Core.List.{[], ◌∷◌}
use mathlib.Core.Logic.{◌⊎◌, inl, inr, ⊎_elim}
use Prim.Native.Nat.{ℕ, ◌+◌, ◌≤◌, ◌<◌}
use native.Mathlib.Omega.{arith}
use native.Mathlib.Decide.{ℕ_discrete}
use types.Run.{OneOf}
use Rattle.mir.proofs.Follows.{stands, behind, elsewhere, switch_rows, arm_rows, target_rows, end_rows}
use Rattle.mir.proofs.check_function.ender_follows.Goals as goal

-- one of two in a row
two : (j k : ℕ) → j ≤ k → k < j + 2 → OneOf (j ∷ (j + 1) ∷ []) k
two j k h l = elim (ℕ_discrete k j) [
  | yes e ↦ inl e
  | no d ↦ inr (omega arith)
]

-- neither of them
neither : (j k : ℕ) → (k < j) ⊎ (j + 2 ≤ k) → ¬ OneOf (j ∷ (j + 1) ∷ []) k
neither j k h = ⊎_elim (λ e. ⊎_elim (λ l. omega arith) (λ l. omega arith) h) (λ e. ⊎_elim (λ l. omega arith) (λ l. omega arith) h)

pub returns-in-2 : goal.returns-in-2
returns-in-2 c =
    let a = c.args in
    behind switch_rows a.before a.next (omega arith, omega arith) (two 2 a.before (omega arith) (omega arith))

pub returns-in_default-matches : goal.returns-in_default-matches
returns-in_default-matches c =
    let a = c.args in
    elsewhere switch_rows a.before a.next (omega arith, omega arith) (neither 2 a.before (inl (omega arith)))

pub returns-in_default-matches-3 : goal.returns-in_default-matches-3
returns-in_default-matches-3 c =
    let a = c.args in
    elsewhere switch_rows a.before a.next (omega arith, omega arith) (neither 2 a.before (inr (omega arith)))

pub returns-in-9 : goal.returns-in-9
returns-in-9 c =
    let a = c.args in
    stands arm_rows a.before a.next (omega arith, omega arith)

pub returns-in_default-matches-2 : goal.returns-in_default-matches-2
returns-in_default-matches-2 c =
    let a = c.args in
    elsewhere target_rows a.before a.next (omega arith, omega arith) (⊎_elim (grind arith) (neither 6 a.before (inl (omega arith))))

pub returns-in_default-matches-2-2 : goal.returns-in_default-matches-2-2
returns-in_default-matches-2-2 c =
    let a = c.args in
    elsewhere target_rows a.before a.next (omega arith, omega arith) (⊎_elim (grind arith) (neither 6 a.before (inr (omega arith))))

pub returns-in-2-matches : goal.returns-in-2-matches
returns-in-2-matches c =
    let a = c.args in
    behind target_rows a.before a.next (omega arith, omega arith) (inl (omega arith))

pub returns-in-2-matches-2 : goal.returns-in-2-matches-2
returns-in-2-matches-2 c =
    let a = c.args in
    behind target_rows a.before a.next (omega arith, omega arith) (inr (two 6 a.before (omega arith) (omega arith)))

pub returns-in_default : goal.returns-in_default
returns-in_default c =
    let a = c.args in
    stands end_rows a.before a.next (omega arith, omega arith)
