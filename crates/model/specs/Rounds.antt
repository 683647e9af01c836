-- Rounds until nothing is left to do, and the waiting block of lowest rank (`WorkQueue`). Nothing of the analysis.
use Rattle.std.specs.Prelude.{Bool, cond, List, [], ◌∷◌, eqb, ltb}
use Rattle.std.proofs.Math.Bool.{true, false}
use Rattle.std.proofs.Math.Option.{Option, none, some}
use Prim.Native.Nat.{ℕ, zero, suc}
use Rattle.model.specs.Words.{sum}
use Rattle.model.specs.Answer.{Answer, refused, done}

-- one round: nothing is left to do, or it is refused, or it goes on
pub data Round (S : Type 0) : Type 0 where
  idle : Round S
  broke : ℕ → Round S
  turned : S → Round S

-- an answer as a round
abbrev pub turn : {S : Type 0} → Answer S → Round S
turn (refused r) = broke r
turn (done t) = turned t

module _ {S : Type 0} (round : S → Round S) where
  unfoldable pub loop : ℕ → S → Answer S
  loop zero s = done s
  loop (suc n) s = elim (round s) [ idle ↦ done s | broke r ↦ refused r | turned t ↦ loop n t ]

  -- with fuel by a number that falls at each round, one more than it can use. That the fuel 0 is never met, and that one round
  -- unfolds, are theorems (solver, Loop): no count of rounds is part of the answer
  unfoldable pub run_rounds : (S → ℕ) → S → Answer S
  unfolding loop
  run_rounds load s = loop (suc (load s)) s

-- THE LOWEST RANK

module _ (rank : ℕ → ℕ) where
  -- of the best so far and n
  unfoldable pub better : Option ℕ → ℕ → Option ℕ
  better none n = some n
  better (some b) n = elim (ltb (rank n) (rank b)) [ true ↦ some n | false ↦ some b ]

  module _ (waits : ℕ → Bool) where
    -- of the numbers below n
    unfoldable pub lowest : ℕ → Option ℕ
    unfolding better
    lowest zero = none
    lowest (suc n) = elim (waits n) [ true ↦ better (lowest n) n | false ↦ lowest n ]

-- FUNCTIONS AND LISTS OF NUMBERS

-- f, changed at b
unfoldable pub put : {A : Type 0} → (ℕ → A) → ℕ → A → ℕ → A
put f b a x = cond (eqb b x) a (f x)

unfoldable pub elem : ℕ → List ℕ → Bool
elem x [] = false
elem x (y ∷ ys) = cond (eqb x y) true (elem x ys)

-- how many of the numbers below n are not in a list
unfoldable pub left : ℕ → List ℕ → ℕ
left n w = sum (λ x. cond (elem x w) 0 1) n
