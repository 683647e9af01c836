-- What the call leaves, and its parts.
use Rattle.std.specs.Prelude.{◌≡◌, List, ℕ, ◌≤◌, length, take, drop, replicate, Result, Ok, Err}
use Rattle.model.specs.Words.{word}
use Rattle.model.specs.Crate.{records, spare, Verdict, passed, stopped, Outcome, stopped_at, from_first, crate_statements}
use Rattle.model.specs.Promised.{RefusedAt}
use Rattle.refusal.specs.Refusal.{number}
use Rattle.refusal.specs.declared.Refusal.{Refusal}
use Rattle.type_record.specs.Sizes.{Ready}
use Rattle.statements.specs.declared.Counts.{Counts}
use Rattle.fold_unfold.specs.Answers.{Whole}
use Rattle.whole_crate.specs.declared.CrateRefusal.{CrateRefusal}

-- the code's answer as a verdict
abbrev pub verdict_of : Result (Unit {0}) CrateRefusal → Verdict
verdict_of (Ok u) = passed
verdict_of (Err c) = stopped (number c.refusal) c.position

-- the answer and all that was lent, to the last word, by an outcome
pub record Leaves (o : Outcome) (fs' ws' out' : List ℕ) (r : Result (Unit {0}) CrateRefusal) : Type 0 where
  pub answer : verdict_of r ≡ o.verdict
  pub forms : fs' ≡ o.forms
  pub whats : ws' ≡ o.whats
  pub records_are : out' ≡ o.out

-- of the call
abbrev pub Called : (Γ words fs ws out fs' ws' out' : List ℕ) → Result (Unit {0}) CrateRefusal → Type 0
Called Γ words fs ws out = Leaves (crate_statements Γ (length fs) (length ws) (length out) words)

-- of the functions alone, in order
abbrev pub Goes : (Γ words fs ws out fs' ws' out' : List ℕ) → Result (Unit {0}) CrateRefusal → Type 0
Goes Γ words fs ws out = Leaves (from_first Γ (length fs) (length ws) (length out) (records (word words 0) (drop 1 words)))

-- a refusal's number, by its position
abbrev pub Numbered : List ℕ → Result (Unit {0}) CrateRefusal → Type 0
Numbered words r = (c : CrateRefusal) → r ≡ Err c → RefusedAt (word words 0) (number c.refusal) c.position

-- THE TESTS

-- there is a count, of at most 64
abbrev pub Counted : List ℕ → Type 0
Counted words = (1 ≤ length words) × (word words 0 ≤ 64)

-- the n records behind the count end at r
pub record Ended (words : List ℕ) (n r : ℕ) : Type 0 where
  pub within : r ≤ length words
  pub rest : drop r words ≡ spare n (drop 1 words)

-- what is tested before the first function
pub record Begun (Γ words offs : List ℕ) (r : Result (Unit {0}) Refusal) : Type 0 where
  pub denied : (e : Refusal) → r ≡ Err e → (nforms nwhats nout : ℕ) → crate_statements Γ nforms nwhats nout words ≡ stopped_at Γ nforms nwhats nout (number e) 0
  pub passed : r ≡ Ok tt → (nforms nwhats nout : ℕ)
      → crate_statements Γ nforms nwhats nout words ≡ from_first Γ nforms nwhats nout (records (word words 0) (drop 1 words))
  pub ready : r ≡ Ok tt → Ready Γ offs
  pub counted : r ≡ Ok tt → Counted words

-- ONE FUNCTION

-- the output has zeros from word `used` on
pub record BlankFrom (out : List ℕ) (used : ℕ) : Type 0 where
  pub within : used ≤ length out
  pub blank : drop used out ≡ replicate (length (drop used out)) 0

-- its call alone, with the output from word `used` on; the words before it stay
pub record Alone (Γ fn fs ws out : List ℕ) (used : ℕ) (fs' ws' out' : List ℕ) (r : Result Counts Refusal) : Type 0 where
  pub whole : Whole Γ fn fs ws (drop used out) fs' ws' (drop used out') r
  pub kept : take used out' ≡ take used out
