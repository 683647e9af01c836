-- What the call answers, and the buffer.
use Rattle.std.specs.Prelude.{◌≡◌, Result, Err, List, ℕ, length}
use Rattle.model.specs.Answer.{done, ◌>>=◌}
use Rattle.model.specs.Promised.{OneOf, statement_numbers}
use Rattle.model.specs.Assign.{statement_items, items_lent}
use Rattle.refusal.specs.declared.Refusal.{Refusal}
use Rattle.refusal.specs.Refusal.{number, answered}

-- a refusal's number
abbrev pub Numbered : Result ℕ Refusal → Type 0
Numbered r = (e : Refusal) → r ≡ Err e → OneOf statement_numbers (number e)

-- of a list of words, and a buffer of n: model's answer, by the number of its items
pub record Gives (ws : List ℕ) (n : ℕ) (out' : List ℕ) (r : Result ℕ Refusal) : Type 0 where
  pub answer : answered r ≡ statement_items ws n >>= λ es. done (length es)
  pub left : out' ≡ items_lent n (statement_items ws n)
