-- The exported calls' answers, by what the calls that they make ensure.
use mathlib.Core.Path.{◌≡◌, refl, ap, ◌∙◌}
use mathlib.Core.Bool.{false}
use mathlib.Core.List.{List, ◌∷◌}
use Prim.Native.Nat.{ℕ}
use lib.ListN.{length}
use lib.Dec.{eqb}
use Rattle.std.specs.Prelude.{Result, Ok, Err, OnOk}
use Rattle.model.specs.Answer.{Answer, refused, done, ◌>>=◌}
use Rattle.model.specs.Rounds.{elem}
use Rattle.model.specs.Record.{Entry}
use Rattle.model.specs.Merge.{merge_types}
use Rattle.model.specs.Assign.{statement_items}
use Rattle.model.specs.Promised.{OneOf}
use Rattle.base.specs.Tests.{split}
use Rattle.base.specs.Only.{one_apart}
use Rattle.refusal.specs.Refusal.{number as numbered, code, answered}
use Rattle.refusal.specs.declared.Refusal.{Refusal}
use Rattle.fold_unfold.specs.Answers.{answer_of, WholeTold}
use Rattle.assign.specs.Answers.{Gives}
use Rattle.merge.specs.Answers.{length_of, Gives as Merges}
use Rattle.exports.specs.Answers.{number, Exported, ExportedItems, ExportedMerged}

-- 0, OR THE REFUSAL'S NUMBER

-- as the answer that a result is has it
code_answered : {A : Type 0} (r : Result A Refusal) → code r ≡ number (answered r)
code_answered (Ok a) = refl
code_answered (Err e) = refl

code_counted : (r : _) → code r ≡ number (answer_of r)
code_counted (Ok k) = refl
code_counted (Err e) = refl

-- whatever the value is
number_map : {A B : Type 0} (a : Answer A) (f : A → B) → number (a >>= λ x. done (f x)) ≡ number a
number_map (refused n) f = refl
number_map (done x) f = refl

number_length : (a : Answer (List ℕ)) → number (length_of a) ≡ number a
number_length (refused n) = refl
number_length (done l) = refl

-- a refusal's number, among one number more
pub one_more : (ns : List ℕ) (n : ℕ) → OneOf ns n → OneOf (0 ∷ ns) n
unfolding elem
one_more ns n e = split (eqb n 0) (λ d. rw d refl) (λ d. rw d e)

module _ {A : Type 0} (ns : List ℕ) where
  -- so is that of a result, whose refusals have these numbers
  pub code_one : (r : Result A Refusal) → ((e : Refusal) → r ≡ Err e → OneOf ns (numbered e)) → OneOf (0 ∷ ns) (code r)
  unfolding elem
  code_one (Ok a) N = refl
  code_one (Err e) N = one_more ns (numbered e) (N e refl)

  -- and it is 0 only of a value
  pub code_ok : {P : Type 0} (r : Result A Refusal) → ((e : Refusal) → r ≡ Err e → OneOf ns (numbered e)) → elem 0 ns ≡ false → OnOk r P → code r ≡ 0 → P
  code_ok (Ok a) N d p z = p
  code_ok (Err e) N d p z = absurd (one_apart ns 0 (numbered e) (N e refl) d z)

-- THE CALLS

-- a function
pub exported : {Γ fn fs ws out told fs' ws' out' told' : List ℕ} {r : _} → WholeTold Γ fn fs ws out told fs' ws' out' told' r
    → Exported Γ fn fs ws out told fs' ws' out' told' (code r)
exported {r = r} W = record {
  answer = code_counted r ∙ ap (number {A = ℕ × ℕ}) W.answer;
  forms = W.forms;
  whats = W.whats;
  record_is = W.record_is;
  numbers_are = W.numbers_are;
}

-- the items of a list of statements
pub exported_items : {ws : List ℕ} {n : ℕ} {out' : List ℕ} {r : Result ℕ Refusal} → Gives ws n out' r → ExportedItems ws n out' (code r)
exported_items {ws} {n} {r = r} G = record { answer = code_answered r ∙ ap (number {A = ℕ}) G.answer ∙ number_map (statement_items ws n) (λ (es : List Entry). length es); left = G.left }

-- two type records
pub exported_merged : {Γ Δ : List ℕ} {n : ℕ} {out' : List ℕ} {r : Result ℕ Refusal} → Merges Γ Δ n out' r → ExportedMerged Γ Δ n out' (code r)
exported_merged {Γ} {Δ} {n} {r = r} G = record { answer = code_answered r ∙ ap (number {A = ℕ}) G.answer ∙ number_length (merge_types Γ Δ n); left = G.left }
