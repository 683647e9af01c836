-- The code's answer as model's.
use Rattle.std.specs.Prelude.{◌≡◌, cond, List, ℕ, ◌*◌, ◌≤◌, length, replicate, leb, Result, Ok, Err}
use Rattle.model.specs.Answer.{Answer, refused, done}
use Rattle.model.specs.Tree.{Forest}
use Rattle.model.specs.Place.{At}
use Rattle.model.specs.State.{most}
use Rattle.model.specs.Block.{entry_point, join_points}
use Rattle.model.specs.Passes.{Found}
use Rattle.model.specs.Record.{lent}
use Rattle.model.specs.Whole.{passes, ghost_statements, shares, found, whole, whole_told}
use Rattle.refusal.specs.Refusal.{number, answered}
use Rattle.refusal.specs.declared.Refusal.{Refusal}
use Rattle.type_record.specs.Sizes.{Ready}
use Rattle.statements.specs.Kept.{Counted, Kept}
use Rattle.statements.specs.Marked.{marked, marked_record}
use Rattle.statements.specs.declared.Out.{Out}
use Rattle.statements.specs.declared.Counts.{Counts}
use Rattle.blocks.specs.Accepted.{Accepted}
use Rattle.arrival.specs.Shares.{Shared}

-- the counts of statements and entries, or the refusal's number
abbrev pub answer_of : Result Counts Refusal → Answer (ℕ × ℕ)
answer_of (Ok k) = done (k.statements, k.entries)
answer_of (Err e) = refused (number e)

-- the call's answer and all that was lent, to the last word
pub record Whole (Γ fn fs ws out fs' ws' out' : List ℕ) (r : Result Counts Refusal) : Type 0 where
  pub answer : answer_of r ≡ (whole Γ fn (length fs) (length ws) (length out)).answer
  pub forms : fs' ≡ (whole Γ fn (length fs) (length ws) (length out)).forms
  pub whats : ws' ≡ (whole Γ fn (length fs) (length ws) (length out)).whats
  pub record_is : out' ≡ (whole Γ fn (length fs) (length ws) (length out)).out

-- the record with its marks, in a lent array of n words; zeros after a refusal
unfoldable pub marks_left : List ℕ → ℕ → Answer (Found Forest At) → List ℕ
marks_left fn n (refused k) = replicate n 0
marks_left fn n (done f) = lent n (marked_record (entry_point fn) f.lines)

-- the same while the numbers still stand in the record, as marks
pub record Marked (Γ fn fs ws out fs' ws' out' : List ℕ) (r : Result Counts Refusal) : Type 0 where
  pub answer : answer_of r ≡ (whole Γ fn (length fs) (length ws) (length out)).answer
  pub forms : fs' ≡ (whole Γ fn (length fs) (length ws) (length out)).forms
  pub whats : ws' ≡ (whole Γ fn (length fs) (length ws) (length out)).whats
  pub marks : out' ≡ marks_left fn (length out) (found Γ fn (length fs) (length ws) (length out))

-- and with the numbers beside it (document 02, F-4)
pub record WholeTold (Γ fn fs ws out told fs' ws' out' told' : List ℕ) (r : Result Counts Refusal) : Type 0 where
  pub answer : answer_of r ≡ (whole_told Γ fn (length fs) (length ws) (length out) (length told)).result.answer
  pub forms : fs' ≡ (whole_told Γ fn (length fs) (length ws) (length out) (length told)).result.forms
  pub whats : ws' ≡ (whole_told Γ fn (length fs) (length ws) (length out) (length told)).result.whats
  pub record_is : out' ≡ (whole_told Γ fn (length fs) (length ws) (length out) (length told)).result.out
  pub numbers_are : told' ≡ (whole_told Γ fn (length fs) (length ws) (length out) (length told)).told

-- zeros in all that was lent
pub record AllZero (fs ws out : List ℕ) : Type 0 where
  pub forms : fs ≡ replicate (length fs) 0
  pub whats : ws ≡ replicate (length ws) 0
  pub blank : out ≡ replicate (length out) 0

-- the records pass, the arrays that the passes read are filled, and the store is large enough
pub record Clear (Γ fn : List ℕ) (nforms nwhats : ℕ) (offs points : List ℕ) : Type 0 where
  pub accepted : Accepted Γ offs fn
  pub shared : Shared fn points
  pub forms : most * join_points fn ≤ nforms
  pub whats : most * join_points fn ≤ nwhats

-- what is tested before the passes, of types that pass
pub record Checked (Γ fn : List ℕ) (nforms nwhats : ℕ) (points : List ℕ) (r : Result (Unit {0}) Refusal) : Type 0 where
  pub denied : (e : Refusal) → r ≡ Err e → ghost_statements Γ fn (cond (leb nforms nwhats) nforms nwhats) ≡ refused (number e)
  pub passed : r ≡ Ok tt → ghost_statements Γ fn (cond (leb nforms nwhats) nforms nwhats) ≡ passes Γ fn
  pub clear : r ≡ Ok tt → (offs : List ℕ) → Ready Γ offs → Clear Γ fn nforms nwhats offs points

-- what both passes leave, of records that pass
pub record Analysed (Γ fn fs ws out fs' ws' out' : List ℕ) (r : Result Out Refusal) : Type 0 where
  pub same_forms : length fs' ≡ length fs
  pub same_whats : length ws' ≡ length ws
  pub same_out : length out' ≡ length out
  pub denied : (n : ℕ) → passes Γ fn ≡ refused n → answered r ≡ refused n
  pub forms : (f : Found Forest At) → passes Γ fn ≡ done f → fs' ≡ lent (length fs) (shares Γ fn (λ s. s.forms) f.kept)
  pub whats : (f : Found Forest At) → passes Γ fn ≡ done f → ws' ≡ lent (length ws) (shares Γ fn (λ s. s.whats) f.kept)
  pub over : (f : Found Forest At) → passes Γ fn ≡ done f
      → (o : Out) × (r ≡ Ok o) × Counted out' o × Kept (length f.lines) (marked (entry_point fn) f.lines) out' o
