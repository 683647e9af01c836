-- The whole-function call, once the passes have left a record with its marks: the numbers are told or there is no room for them, and the marks
-- are taken out. And its demands: a record that is given is replayed, its numbers say where openings began, a refusal has one of its numbers.
use mathlib.Core.Path.{◌≡◌, refl, sym, ap, ap₂, ◌∙◌}
use mathlib.Core.Bool.{true, false}
use mathlib.Core.List.{List, [], map}
use Prim.Native.Nat.{ℕ, ◌≤◌, ◌<◌}
use Rattle.std.specs.Prelude.{Result, Ok, Err}
use native.Mathlib.Omega.{arith}
use lib.ListN.{length, replicate, length-map}
use lib.Seq.{sets, paste-zero}
use borrow.Author.Tests.{le-leb, lt-leb}
use Rattle.model.specs.Words.{word}
use Rattle.model.specs.Answer.{Answer, refused, done}
use Rattle.model.specs.Types.{types_ok}
use Rattle.model.specs.Tree.{Forest}
use Rattle.model.specs.Place.{At}
use Rattle.model.specs.State.{pairs}
use Rattle.model.specs.Block.{entry_point}
use Rattle.model.specs.Passes.{Found}
use Rattle.model.specs.Record.{entries, lent, numbers}
use Rattle.model.specs.Whole.{ghost_statements, accepted, denied, result, found, whole, with_numbers, found_told, told_of, whole_told}
use Rattle.model.specs.Replay.{Replayed}
use Rattle.model.specs.Told.{number_ok, Numbered}
use Rattle.model.specs.Promised.{OneOf, whole_numbers}
use Rattle.base.specs.Tests.{clash}
use Rattle.base.specs.Answer.{split_answer}
use Rattle.base.specs.Equal.{zero_word}
use Rattle.base.specs.Words.{sets_lent}
use Rattle.records.specs.Entries.{entries_of}
use Rattle.refusal.specs.Refusal.{number}
use Rattle.refusal.specs.declared.Refusal.{Refusal}
use Rattle.refusal.specs.declared.Refusal.TheVariants.{BadTypes, ShortStore}
use Rattle.demand.specs.Demand.{demand_3}
use Rattle.demand.specs.Refused.{whole_refuses}
use Rattle.demand.specs.Told.{numbers_right, told_demand, told_refuses}
use Rattle.demand.specs.Small.{numbers_small}
use Rattle.statements.specs.Marked.{marked_record, Held, told_in, unmarked, without_marks}
use Rattle.statements.proofs.Marks.{lent_held, lent_told, lent_unmarked}
use Rattle.statements.specs.declared.Counts.{Counts}
use Rattle.fold_unfold.specs.Answers.{answer_of, Whole, marks_left, Marked, WholeTold}

-- ZEROS are a record of no entries
zeros_unmarked : (n : ℕ) → without_marks (replicate n 0) ≡ replicate n 0
unfolding without_marks
zeros_unmarked n = rw (zero_word n 1) (sym (paste-zero (replicate n 0) 2 (map unmarked (entries_of (replicate n 0)))))

zeros_told : (n : ℕ) → told_in (entries_of (replicate n 0)) ≡ []
unfolding entries_of told_in pairs
zeros_told n = rw (zero_word n 1) refl

-- THE MARKS
module _ {Γ fn fs ws out fs' ws' out₂ : List ℕ} {r : Result Counts Refusal} (M : Marked Γ fn fs ws out fs' ws' out₂ r) where
  abbrev call : Answer (Found Forest At)
  call = found Γ fn (length fs) (length ws) (length out)

  -- after a refusal
  none_left : {n : ℕ} → call ≡ refused n → (answer_of r ≡ refused n) × (out₂ ≡ replicate (length out) 0)
  unfolding whole result denied marks_left
  none_left e = (M.answer ∙ rw e refl, M.marks ∙ rw e refl)

  -- of a record
  some_left : {f : Found Forest At} → call ≡ done f → (answer_of r ≡ done (length f.lines, length (entries (entry_point fn) f.lines))) × (out₂ ≡ lent (length out) (marked_record (entry_point fn) f.lines))
  unfolding whole result accepted marks_left
  some_left e = (M.answer ∙ rw e refl, M.marks ∙ rw e refl)

  -- they can be taken out
  pub marked_held : Held out₂
  marked_held = split_answer call
      (λ n e. rw ((none_left e).1, zero_word (length out) 1) (omega arith))
      (λ f e. rw (some_left e).1 (lent_held (entry_point fn) (length out) f.lines))

  -- and then the record is left
  out_left : {out' : List ℕ} → out' ≡ without_marks out₂ → out' ≡ (whole Γ fn (length fs) (length ws) (length out)).out
  unfolding whole result accepted denied
  out_left d = split_answer call
      (λ n e. d ∙ ap without_marks (none_left e).1 ∙ zeros_unmarked (length out) ∙ rw e refl)
      (λ f e. d ∙ ap without_marks (some_left e).1 ∙ lent_unmarked (entry_point fn) (length out) f.lines ∙ rw e refl)

  -- what a refusal leaves in the store
  whole_left : {n : ℕ} → call ≡ refused n → (fs' ≡ replicate (length fs) 0) × (ws' ≡ replicate (length ws) 0)
  unfolding whole result denied
  whole_left e = (M.forms ∙ rw e refl, M.whats ∙ rw e refl)

  -- a refusal has no marks
  pub refused_whole : {k : Refusal} → r ≡ Err k → Whole Γ fn fs ws out fs' ws' out₂ r
  unfolding whole result denied
  refused_whole d = record {
    answer = M.answer;
    forms = M.forms;
    whats = M.whats;
    record_is = split_answer call
        (λ n e. (none_left e).1 ∙ rw e refl)
        (λ f e. let q = (some_left e).0 in clash (cc));
  }

  -- without the numbers
  pub unmarked_whole : {out' : List ℕ} → out' ≡ without_marks out₂ → Whole Γ fn fs ws out fs' ws' out' r
  unmarked_whole d = record { answer = M.answer; forms = M.forms; whats = M.whats; record_is = out_left d }

-- with them
module _ {Γ fn fs ws out fs' ws' out₂ : List ℕ} (told : List ℕ) where
  -- a refusal has none
  pub told_none : {k : Refusal} {told' : List ℕ} (M : Marked Γ fn fs ws out fs' ws' out₂ (Err k)) → told' ≡ replicate (length told) 0
      → WholeTold Γ fn fs ws out told fs' ws' out₂ told' (Err k)
  unfolding whole_told told_of found_told with_numbers result denied
  told_none {k} M z = split_answer (call M)
      (λ n e.
      let (q, u) = none_left M e in
      let w = whole_left M e in
      record { answer = rw e q; forms = rw e w.0; whats = rw e w.1; record_is = rw e u; numbers_are = rw e z })
      (λ f e. let q = (some_left M e).0 in clash (cc))

  module _ {g : Counts} (M : Marked Γ fn fs ws out fs' ws' out₂ (Ok g)) where
    -- the record has so many statements
    has : {P : Type 0} → ((f : Found Forest At) → call M ≡ done f → g.statements ≡ length f.lines → P) → P
    has h = split_answer (call M)
        (λ n e. let q = (none_left M e).0 in clash (cc))
        (λ f e.
        let q = (some_left M e).0 in
        let z : (g.statements, g.entries) ≡ (length f.lines, length (entries (entry_point fn) f.lines)) = cc in
        h f e (ap (λ (c : ℕ × ℕ). c.0) z))

    -- there is no room for the numbers
    pub told_over : {fs₃ ws₃ out₃ told' : List ℕ} → length told < g.statements → fs₃ ≡ replicate (length fs) 0 → ws₃ ≡ replicate (length ws) 0
        → out₃ ≡ replicate (length out) 0 → told' ≡ replicate (length told) 0 → WholeTold Γ fn fs ws out told fs₃ ws₃ out₃ told' (Err ShortStore)
    unfolding whole_told told_of found_told with_numbers result denied
    told_over o zf zw zo zt = has (λ f e n.
        let l = lt-leb (length f.lines) (length told) (omega arith) in
        record { answer = rw (e, l) refl; forms = rw (e, l) zf; whats = rw (e, l) zw; record_is = rw (e, l) zo; numbers_are = rw (e, l) zt })

    -- there is room: they are told
    pub told_beside : {out' told₂ told' : List ℕ} → g.statements ≤ length told → out' ≡ without_marks out₂ → told₂ ≡ replicate (length told) 0
        → told' ≡ sets told₂ 0 (told_in (entries_of out₂)) → WholeTold Γ fn fs ws out told fs' ws' out' told' (Ok g)
    unfolding whole_told whole found_told with_numbers told_of numbers
    told_beside o d z t = has (λ f e n.
        let l = le-leb (length f.lines) (length told) (omega arith) in
        let few : length (numbers f.lines) ≤ length told = rw length-map (omega arith) in
        let y : found_told Γ fn (length fs) (length ws) (length out) (length told) ≡ call M = rw (e, l) refl in
        record {
          answer = rw y M.answer;
          forms = rw y M.forms;
          whats = rw y M.whats;
          record_is = rw y (out_left M d);
          numbers_are = rw (y, e) (t ∙ ap₂ (λ (l w : List ℕ). sets l 0 (told_in (entries_of w))) z (some_left M e).1
              ∙ ap (sets (replicate (length told) 0) 0) (lent_told (entry_point fn) (length out) f.lines) ∙ sets_lent (length told) (numbers f.lines) few);
        })

-- the types are refused
pub types_refuse : {Γ fn fs ws out told fs' ws' out' told' : List ℕ} → types_ok Γ ≡ false → fs' ≡ replicate (length fs) 0 → ws' ≡ replicate (length ws) 0
    → out' ≡ replicate (length out) 0 → told' ≡ replicate (length told) 0 → WholeTold Γ fn fs ws out told fs' ws' out' told' (Err BadTypes)
unfolding whole_told told_of result denied found_told found ghost_statements
types_refuse t zf zw zo zt = record { answer = rw t refl; forms = rw t zf; whats = rw t zw; record_is = rw t zo; numbers_are = rw t zt }

-- only the lengths of what was lent count
pub marked_same : {Γ fn fs ws out fs₀ ws₀ out₀ fs' ws' out' : List ℕ} {r : Result Counts Refusal} → length fs ≡ length fs₀ → length ws ≡ length ws₀ → length out ≡ length out₀
    → Marked Γ fn fs ws out fs' ws' out' r → Marked Γ fn fs₀ ws₀ out₀ fs' ws' out' r
marked_same lf lw lo W = record {
  answer = rw (lf, lw, lo) at W.answer;
  forms = rw (lf, lw, lo) at W.forms;
  whats = rw (lf, lw, lo) at W.whats;
  marks = rw (lf, lw, lo) at W.marks;
}

-- and of what is left without the numbers
pub whole_same : {Γ fn fs ws out fs₀ ws₀ out₀ fs' ws' out' : List ℕ} {r : Result Counts Refusal} → length fs ≡ length fs₀ → length ws ≡ length ws₀ → length out ≡ length out₀
    → Whole Γ fn fs ws out fs' ws' out' r → Whole Γ fn fs₀ ws₀ out₀ fs' ws' out' r
whole_same lf lw lo W = record {
  answer = rw (lf, lw, lo) at W.answer;
  forms = rw (lf, lw, lo) at W.forms;
  whats = rw (lf, lw, lo) at W.whats;
  record_is = rw (lf, lw, lo) at W.record_is;
}

-- DEMANDS 3 AND 1

-- of a call's answer: a record that is given is replayed
pub whole_replayed : {Γ fn fs ws out fs' ws' out' : List ℕ} {g : Counts} → Whole Γ fn fs ws out fs' ws' out' (Ok g) → Replayed Γ fn out'
whole_replayed {Γ} {fn} {fs} {ws} {out} W = rw W.record_is (demand_3 Γ fn (length fs) (length ws) (length out) _ (sym W.answer))

-- and a refusal has one of its numbers
pub whole_numbered : {Γ fn fs ws out fs' ws' out' : List ℕ} {k : Refusal} → Whole Γ fn fs ws out fs' ws' out' (Err k) → OneOf whole_numbers (number k)
whole_numbered {Γ} {fn} {fs} {ws} {out} W = whole_refuses Γ fn (length fs) (length ws) (length out) _ (sym W.answer)

module _ {Γ fn fs ws out told fs' ws' out' told' : List ℕ} where
  -- the same with the numbers
  pub told_replayed : {g : Counts} → WholeTold Γ fn fs ws out told fs' ws' out' told' (Ok g) → Replayed Γ fn out'
  told_replayed W = rw W.record_is (told_demand Γ fn (length fs) (length ws) (length out) (length told) (sym W.answer))

  pub told_numbered : {k : Refusal} → WholeTold Γ fn fs ws out told fs' ws' out' told' (Err k) → OneOf whole_numbers (number k)
  told_numbered W = told_refuses Γ fn (length fs) (length ws) (length out) (length told) _ (sym W.answer)

  -- which say where openings began
  pub told_began : {g : Counts} → WholeTold Γ fn fs ws out told fs' ws' out' told' (Ok g) → Numbered Γ fn out' told'
  told_began W = rw (W.record_is, W.numbers_are) (numbers_right Γ fn (length fs) (length ws) (length out) (length told) _ (sym W.answer))

  -- and are small
  pub told_small : {r : Result Counts Refusal} → WholeTold Γ fn fs ws out told fs' ws' out' told' r → (i : ℕ) → number_ok (word told' i) ≡ true
  told_small W i = rw W.numbers_are (numbers_small Γ fn (length fs) (length ws) (length out) (length told) i)
