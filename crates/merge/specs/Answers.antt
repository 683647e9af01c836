-- What the call answers, and the output.
use Rattle.std.specs.Prelude.{◌≡◌, Result, Err, List, ℕ, length}
use Rattle.refusal.specs.declared.Refusal.{Refusal}
use Rattle.refusal.specs.Refusal.{number, answered}
use Rattle.model.specs.Answer.{Answer, refused, done}
use Rattle.model.specs.Merge.{merge_types, merged_lent}
use Rattle.model.specs.Promised.{OneOf, merge_numbers}

-- the merged record's length alone
abbrev pub length_of : Answer (List ℕ) → Answer ℕ
length_of (refused n) = refused n
length_of (done l) = done (length l)

-- a refusal's number
abbrev pub Numbered : Result ℕ Refusal → Type 0
Numbered r = (x : Refusal) → r ≡ Err x → OneOf merge_numbers (number x)

-- of two type records, and an output of n words
pub record Gives (Γ Δ : List ℕ) (n : ℕ) (out' : List ℕ) (r : Result ℕ Refusal) : Type 0 where
  pub answer : answered r ≡ length_of (merge_types Γ Δ n)
  pub left : out' ≡ merged_lent n (merge_types Γ Δ n)
