-- What is printed of the call's answer and of its buffer is model's text of what is found.
use mathlib.Core.Path.{◌≡◌, refl, ◌∙◌}
use mathlib.Core.Bool.{true}
use mathlib.Core.List.{List}
use Prim.Native.Nat.{ℕ, ◌+◌, ◌*◌, ◌^◌, ◌<◌, ◌≤◌}
use native.Mathlib.Omega.{arith}
use lib.Dec.{eqb, ltb, leb}
use lib.ListN.{length, take}
use borrow.Author.Tests.{eqb-true, ltb-true, leb-true, le-leb, lt-leb}
use Rattle.model.specs.Words.{word}
use Rattle.model.specs.Answer.{refused, done}
use Rattle.model.specs.Types.{types_length}
use Rattle.model.specs.Tree.{Forest}
use Rattle.model.specs.Place.{At}
use Rattle.model.specs.Block.{entry_point}
use Rattle.model.specs.Frame.{Line}
use Rattle.model.specs.Passes.{Found}
use Rattle.model.specs.Record.{entries, statement_record, writable, lent, numbers}
use Rattle.model.specs.Whole.{accepted, denied, result, found, whole, with_numbers, found_told, told_of, whole_told}
use Rattle.model.specs.Told.{number_ok}
use Rattle.model.specs.Function.{function_length}
use Rattle.model.specs.Ghosts.{function_words, analysed, answer_text, lines_text, fresh, close, printed, ghosts, ghosts_store, ghosts_buffer}
use Rattle.base.specs.Tests.{split, clash, and_left}
use Rattle.base.specs.Answer.{split_answer}
use Rattle.model.specs.Promised.{Answered}
use Rattle.records.specs.Recorded.{lines_few}
use Rattle.records.specs.Scanned.{scan_pieces, joined}
use Rattle.demand.specs.Whole.{found_passed}
use Rattle.demand.specs.Told.{needed, told_enough}
use Rattle.demand.specs.Refused.{ghosts_answered}
use Rattle.text.specs.declared.scan.Scan.{Scan}
use Rattle.text.specs.Reading.{Reads}
use Rattle.text.specs.Printing.{FewDigits}
use Rattle.answer.specs.Said.{Ended, Says}
use Rattle.std.specs.Prelude.{Option, Result, Ok, Err}
use Rattle.refusal.specs.declared.Refusal.{Refusal}
use Rattle.refusal.specs.Refusal.{number}
use Rattle.statements.specs.declared.Counts.{Counts}
use Rattle.fold_unfold.specs.Answers.{answer_of, WholeTold}

-- lines are recorded, with their numbers, and are what is found
pub record Recorded (Γ fn out told : List ℕ) : Type 0 where
  pub lines : List (Line At)
  pub is : out ≡ lent ghosts_buffer (statement_record (entry_point fn) lines)
  pub numbers_are : told ≡ lent 341 (numbers lines)
  pub text : answer_text (entry_point fn) (found Γ fn ghosts_store ghosts_store ghosts_buffer) ≡ lines_text (entry_point fn) lines

module _ (Γ fn : List ℕ) where
  -- there is room for the numbers
  numbers_fit : needed (found Γ fn ghosts_store ghosts_store ghosts_buffer) ≤ 341
  unfolding writable
  numbers_fit = split_answer (found Γ fn ghosts_store ghosts_store ghosts_buffer)
      (λ n e. rw e (omega arith))
      (λ f e.
      let (H, q, w) = found_passed Γ fn ghosts_store ghosts_store ghosts_buffer e in
      let es = entries (entry_point fn) f.lines in
      let few : 2 + 2 * length es ≤ ghosts_buffer = leb-true (2 + 2 * length es) ghosts_buffer (and_left (leb (2 + 2 * length es) ghosts_buffer) (ltb (length es) (2 ^ 32)) w) in
      rw e (omega (arith, few, lines_few (entry_point fn) f.lines)))

  -- and the call is as without them
  told_as : (whole_told Γ fn ghosts_store ghosts_store ghosts_buffer 341).result ≡ whole Γ fn ghosts_store ghosts_store ghosts_buffer
  told_as = told_enough Γ fn ghosts_store ghosts_store ghosts_buffer 341 numbers_fit

  numbers_as : {f : Found Forest At} → found Γ fn ghosts_store ghosts_store ghosts_buffer ≡ done f
      → (whole_told Γ fn ghosts_store ghosts_store ghosts_buffer 341).told ≡ lent 341 (numbers f.lines)
  unfolding whole_told found_told with_numbers told_of
  numbers_as {f} e =
      let l : length f.lines ≤ 341 = rw e at numbers_fit in
      rw (e, le-leb (length f.lines) 341 l) refl

module _ {Γ fn fs ws out told fs' ws' out' told' : List ℕ} {r : Result Counts Refusal} (W : WholeTold Γ fn fs ws out told fs' ws' out' told' r)
    (zf : length fs ≡ ghosts_store) (zw : length ws ≡ ghosts_store) (zo : length out ≡ ghosts_buffer) (zt : length told ≡ 341) where
  -- the answer and the buffer, by the lengths
  answer_is : answer_of r ≡ (whole Γ fn ghosts_store ghosts_store ghosts_buffer).answer
  answer_is = rw (zf, zw, zo, zt, told_as Γ fn) at W.answer

  out_is : out' ≡ (whole Γ fn ghosts_store ghosts_store ghosts_buffer).out
  out_is = rw (zf, zw, zo, zt, told_as Γ fn) at W.record_is

  told_is : told' ≡ (whole_told Γ fn ghosts_store ghosts_store ghosts_buffer 341).told
  told_is = rw (zf, zw, zo, zt) at W.numbers_are

  -- a refusal
  pub refused_text : {e : Refusal} → r ≡ Err e → answer_text (entry_point fn) (found Γ fn ghosts_store ghosts_store ghosts_buffer) ≡ answer_text 0 (refused (number e))
  unfolding whole result denied accepted answer_text
  refused_text {e} d =
      let a = rw d at answer_is in
      split_answer (found Γ fn ghosts_store ghosts_store ghosts_buffer) (λ k f. cc) (λ f g. cc)

  -- a record
  pub done_text : {k : Counts} → r ≡ Ok k → Recorded Γ fn out' told'
  unfolding whole result denied accepted answer_text
  done_text d =
      let a = rw d at answer_is in
      split_answer (found Γ fn ghosts_store ghosts_store ghosts_buffer)
      (λ k e. clash (cc))
      (λ f e. let a = out_is in record { lines = f.lines; is = cc; numbers_are = told_is ∙ numbers_as Γ fn e; text = cc })

-- a small number has three digits at the most
pub few_digits : (ns : List ℕ) → ((i : ℕ) → number_ok (word ns i) ≡ true) → FewDigits ns
few_digits ns h i = split (ltb (word ns i) 128)
    (λ e. omega (arith, ltb-true (word ns i) 128 e))
    (λ e. let s = h i in let d : eqb (word ns i) 255 ≡ true = cc in omega (arith, eqb-true (word ns i) 255 d))

-- TWO RECORDS IN THE WORDS

module _ (ws fw : List ℕ) (e : fw ≡ function_words ws) where
  -- words are left over
  pub spare_text : function_length fw < length fw → answer_text 0 (refused 2) ≡ printed (done ws)
  unfolding printed analysed answer_text
  spare_text l = let b = lt-leb (length fw) (function_length fw) l in cc

  -- none is
  pub records_text : length fw ≤ function_length fw
      → answer_text (entry_point fw) (found (take (types_length ws) ws) fw ghosts_store ghosts_store ghosts_buffer) ≡ printed (done ws)
  unfolding printed analysed
  records_text l = let b = le-leb (length fw) (function_length fw) l in cc

-- WHAT IS PRINTED of a text that has been read to its end is lines of statements, or `refused` and a number of the call's
pub answered : {s : Option Scan} {words t t' : List ℕ} {r : ℕ} → Ended s words
    → ((ps : List (List ℕ)) → Reads (close (scan_pieces ps fresh)) s words → Says t t' r (ghosts (joined ps))) → Answered (take r t')
answered E f = rw (f E.pieces E.reads).said (ghosts_answered (joined E.pieces))
