-- The exported calls' answers as model's.
use Rattle.std.specs.Prelude.{◌≡◌, List, ℕ, ◌+◌, ◌*◌, length}
use Rattle.model.specs.Words.{word}
use Rattle.model.specs.Answer.{Answer, refused, done}
use Rattle.model.specs.Whole.{whole_told}
use Rattle.model.specs.Crate.{Verdict, passed, stopped, crate_statements}
use Rattle.model.specs.Promised.{RefusedAt}
use Rattle.model.specs.Merge.{merge_types, merged_lent}
use Rattle.model.specs.Assign.{statement_items, items_lent}

-- the refusal, or 0: no refusal has that number
abbrev pub number : {A : Type 0} → Answer A → ℕ
number (refused n) = n
number (done c) = 0

-- the call's answer and all that was lent, to the last word. Of a function that is accepted the counts of statements and entries
-- are the first two words of the buffer.
pub record Exported (Γ fn fs ws out told fs' ws' out' told' : List ℕ) (r : ℕ) : Type 0 where
  pub answer : r ≡ number (whole_told Γ fn (length fs) (length ws) (length out) (length told)).result.answer
  pub forms : fs' ≡ (whole_told Γ fn (length fs) (length ws) (length out) (length told)).result.forms
  pub whats : ws' ≡ (whole_told Γ fn (length fs) (length ws) (length out) (length told)).result.whats
  pub record_is : out' ≡ (whole_told Γ fn (length fs) (length ws) (length out) (length told)).result.out
  pub numbers_are : told' ≡ (whole_told Γ fn (length fs) (length ws) (length out) (length told)).told

-- the items of a list of statements, in a buffer of n words; their number is its first word
pub record ExportedItems (ws : List ℕ) (n : ℕ) (out' : List ℕ) (r : ℕ) : Type 0 where
  pub answer : r ≡ number (statement_items ws n)
  pub left : out' ≡ items_lent n (statement_items ws n)

-- two type records as one, in an output of n words
pub record ExportedMerged (Γ Δ : List ℕ) (n : ℕ) (out' : List ℕ) (r : ℕ) : Type 0 where
  pub answer : r ≡ number (merge_types Γ Δ n)
  pub left : out' ≡ merged_lent n (merge_types Γ Δ n)

-- of a crate: the refusal's number, and 256 times the function's position; or 0
abbrev pub position_number : Verdict → ℕ
position_number passed = 0
position_number (stopped n p) = n + 256 * p

pub record ExportedCrate (Γ words fs ws out fs' ws' out' : List ℕ) (r : ℕ) : Type 0 where
  pub answer : r ≡ position_number (crate_statements Γ (length fs) (length ws) (length out) words).verdict
  pub forms : fs' ≡ (crate_statements Γ (length fs) (length ws) (length out) words).forms
  pub whats : ws' ≡ (crate_statements Γ (length fs) (length ws) (length out) words).whats
  pub records_are : out' ≡ (crate_statements Γ (length fs) (length ws) (length out) words).out

-- its refusal, taken apart
pub record RefusalIn (words : List ℕ) (r : ℕ) : Type 0 where
  pub refusal : ℕ
  pub position : ℕ
  pub is : r ≡ refusal + 256 * position
  pub at : RefusedAt (word words 0) refusal position
