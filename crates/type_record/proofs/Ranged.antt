-- A fact about a number in a short range, from the fact at each number of the range. Assumes nothing.
use mathlib.Core.Path.{subst}
use mathlib.Core.Logic.{⊎_elim}
use Prim.Native.Nat.{ℕ, zero, suc, ◌+◌, ◌≤◌, ◌<◌}
use native.Mathlib.Nat.{eq-or-lt_of_le}
use native.Mathlib.Omega.{arith}

-- P at each of n numbers from i on
abbrev pub Each : (ℕ → Type 0) → ℕ → ℕ → Type 0
Each P i zero = Unit {0}
Each P i (suc n) = P i × Each P (suc i) n

-- so P at any of them
pub ranged : (P : ℕ → Type 0) (i n k : ℕ) → i ≤ k → k < i + n → Each P i n → P k
ranged P i zero k l h e = absurd (omega arith)
ranged P i (suc n) k l h e = ⊎_elim (λ q. subst P q e.0) (λ q. ranged P (suc i) n k q (omega arith) e.1) (eq-or-lt_of_le l)
