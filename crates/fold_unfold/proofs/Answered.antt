-- The whole-function call's answer and all that was lent, by what its parts leave: a refusal of the tests, of the passes or of the
-- statement buffer, or a record.
use mathlib.Core.Path.{◌≡◌, refl, sym, ap, ◌∙◌, subst}
use mathlib.Core.Bool.{true, false, cond}
use mathlib.Core.List.{List, []}
use Prim.Native.Nat.{ℕ, ◌≤◌}
use Rattle.std.specs.Prelude.{Result, Ok, Err, is_err}
use native.Mathlib.Omega.{arith}
use lib.ListN.{length, replicate, length-replicate}
use Rattle.model.specs.Answer.{Answer, refused, done, ◌>>=◌}
use Rattle.model.specs.Tree.{Forest}
use Rattle.model.specs.Place.{At}
use Rattle.model.specs.Block.{entry_point}
use Rattle.model.specs.Frame.{Line}
use Rattle.model.specs.Passes.{Found}
use Rattle.model.specs.Record.{entries, writable, lent}
use Rattle.model.specs.Whole.{passes, with_buffer, shares, accepted, denied, result, shorter, found, whole}
use Rattle.base.specs.Tests.{clash, split}
use Rattle.base.specs.Answer.{split_answer}
use Rattle.records.specs.Recorded.{lines_few}
use Rattle.refusal.specs.Refusal.{number}
use Rattle.refusal.specs.declared.Refusal.{Refusal}
use Rattle.refusal.specs.declared.Refusal.TheVariants.{ShortStore}
use Rattle.statements.specs.Kept.{counts, Counted, Kept, Finishes}
use Rattle.statements.specs.Marked.{marked, marked_record}
use Rattle.statements.specs.declared.Counts.{Counts}
use Rattle.statements.specs.declared.Out.{Out}
use Rattle.statements.proofs.Marks.{length_marked}
use Rattle.fold_unfold.specs.Answers.{answer_of, marks_left, Marked, Checked, Analysed}

-- no more statements than entries
marked_few : (entry : ℕ) (ls : List (Line At)) → length ls ≤ length (marked entry ls)
marked_few entry ls = omega (arith, lines_few entry ls, length_marked entry ls)

-- an array of zeros, by its own length
pub own_zeros : {l : List ℕ} (m : List ℕ) → l ≡ replicate (length m) 0 → l ≡ replicate (length l) 0
own_zeros m e = e ∙ ap (λ (k : ℕ). replicate k 0) (sym (ap length e ∙ length-replicate {A = ℕ} (length m) 0))

-- marks need no room
writable_marked : (entry : ℕ) (ls : List (Line At)) {m n : ℕ} → m ≡ n → writable n (entries entry ls) ≡ writable m (marked entry ls)
unfolding writable
writable_marked entry ls e = rw (e, length_marked entry ls) refl

module _ (Γ fn : List ℕ) (nforms nwhats nout : ℕ) {points : List ℕ} where
  -- the tests refuse
  found_denied : {k : Refusal} → Checked Γ fn nforms nwhats points (Err k) → found Γ fn nforms nwhats nout ≡ refused (number k)
  unfolding found shorter
  found_denied C = ap (λ (a : Answer (Found Forest At)). a >>= with_buffer fn nout) (C.denied _ refl)

  -- they pass
  found_passed : Checked Γ fn nforms nwhats points (Ok tt) → found Γ fn nforms nwhats nout ≡ (passes Γ fn >>= with_buffer fn nout)
  unfolding found shorter
  found_passed C = ap (λ (a : Answer (Found Forest At)). a >>= with_buffer fn nout) (C.passed refl)

module _ {Γ fn fs ws out fs' ws' out' : List ℕ} where
  -- by what model's call leaves
  marked_found : (a : Answer (Found Forest At)) {r : Result Counts Refusal} → found Γ fn (length fs) (length ws) (length out) ≡ a
      → let R = result Γ fn (length fs) (length ws) (length out) a in
      answer_of r ≡ R.answer → fs' ≡ R.forms → ws' ≡ R.whats → out' ≡ marks_left fn (length out) a → Marked Γ fn fs ws out fs' ws' out' r
  unfolding whole
  marked_found a e z zf zw zo = record { answer = rw e z; forms = rw e zf; whats = rw e zw; marks = rw e zo }

  -- a refused call
  marked_refused : {k : Refusal} → found Γ fn (length fs) (length ws) (length out) ≡ refused (number k)
      → fs' ≡ replicate (length fs) 0 → ws' ≡ replicate (length ws) 0 → out' ≡ replicate (length out) 0 → Marked Γ fn fs ws out fs' ws' out' (Err k)
  unfolding result denied marks_left
  marked_refused {k} e zf zw zo = marked_found (refused (number k)) e refl zf zw zo

  -- an accepted call
  marked_accepted : (f : Found Forest At) → found Γ fn (length fs) (length ws) (length out) ≡ done f
      → fs' ≡ lent (length fs) (shares Γ fn (λ s. s.forms) f.kept) → ws' ≡ lent (length ws) (shares Γ fn (λ s. s.whats) f.kept)
      → out' ≡ lent (length out) (marked_record (entry_point fn) f.lines)
      → Marked Γ fn fs ws out fs' ws' out' (Ok (counts (length f.lines) (length (entries (entry_point fn) f.lines))))
  unfolding result accepted marks_left
  marked_accepted f e zf zw zo = marked_found (done f) e refl zf zw zo

module _ {Γ fn fs ws out points : List ℕ} where
  -- the tests refuse
  pub tests_refuse : {k : Refusal} {fs' ws' out' : List ℕ} → Checked Γ fn (length fs) (length ws) points (Err k)
      → fs' ≡ replicate (length fs) 0 → ws' ≡ replicate (length ws) 0 → out' ≡ replicate (length out) 0 → Marked Γ fn fs ws out fs' ws' out' (Err k)
  tests_refuse C zf zw zo = marked_refused (found_denied Γ fn (length fs) (length ws) (length out) C) zf zw zo

  module _ (C : Checked Γ fn (length fs) (length ws) points (Ok tt)) {fs₂ ws₂ out₂ : List ℕ} where
    -- the passes refuse
    pub passes_refuse : {k : Refusal} {fs' ws' out' : List ℕ} → Analysed Γ fn fs ws out fs₂ ws₂ out₂ (Err k)
        → fs' ≡ replicate (length fs₂) 0 → ws' ≡ replicate (length ws₂) 0 → out' ≡ replicate (length out₂) 0 → Marked Γ fn fs ws out fs' ws' out' (Err k)
    passes_refuse {k} A zf zw zo =
        let p = found_passed Γ fn (length fs) (length ws) (length out) C in
        split_answer (passes Γ fn)
        (λ n q. let s : n ≡ number k = cc (A.denied n q) in marked_refused (cc) (zf ∙ rw A.same_forms) (zw ∙ rw A.same_whats) (zo ∙ rw A.same_out))
        (λ f q. let o = (A.over f q).1 in clash (cc))

    module _ {o : Out} (A : Analysed Γ fn fs ws out fs₂ ws₂ out₂ (Ok o)) where
      -- the passes are accepted
      accepts : {P : Type 0} → ((f : Found Forest At) → passes Γ fn ≡ done f → Counted out₂ o
          → Kept (length f.lines) (marked (entry_point fn) f.lines) out₂ o → P) → P
      accepts g = split_answer (passes Γ fn)
          (λ k q. let d = A.denied k q in clash (cc))
          (λ f q. let O = A.over f q in let s : O.0 ≡ o = cc O.1 in
          g f q (subst (λ (x : Out). Counted out₂ x) s O.2) (subst (λ (x : Out). Kept (length f.lines) (marked (entry_point fn) f.lines) out₂ x) s O.3))

      -- what is recorded is counted
      pub accepts_counted : Counted out₂ o
      accepts_counted = accepts (λ f q c k. c)

      module _ {out' : List ℕ} {r : Result Counts Refusal} (F : Finishes out₂ o out' r) where
        -- model's call, by the record that is to be finished
        finds : {P : Type 0} → ((f : Found Forest At) → passes Γ fn ≡ done f → Kept (length f.lines) (marked (entry_point fn) f.lines) out₂ o
            → r ≡ cond (writable (length out) (entries (entry_point fn) f.lines)) (Ok (counts (length f.lines) (length (entries (entry_point fn) f.lines)))) (Err ShortStore)
            → P) → P
        finds g = accepts (λ f q c k.
            let a = (F (length f.lines) (marked (entry_point fn) f.lines)).answer k (marked_few (entry_point fn) f.lines) in
            g f q k (a ∙ rw (writable_marked (entry_point fn) f.lines A.same_out, length_marked (entry_point fn) f.lines)))

        -- the buffer refuses
        pub buffer_refuses : {fs' ws' : List ℕ} → is_err r ≡ true → fs' ≡ replicate (length fs₂) 0 → ws' ≡ replicate (length ws₂) 0
            → Marked Γ fn fs ws out fs' ws' out' r
        unfolding with_buffer
        buffer_refuses d zf zw = finds (λ f q h e.
            let p = found_passed Γ fn (length fs) (length ws) (length out) C in
            split (writable (length out) (entries (entry_point fn) f.lines))
            (λ w. clash (cc))
            (λ w.
            let z : r ≡ Err ShortStore = e ∙ rw w refl in
            rw z (marked_refused (cc) (zf ∙ rw A.same_forms) (zw ∙ rw A.same_whats) (((F 0 []).zeroed ShortStore z).1 ∙ rw A.same_out))))

        -- the record is written
        pub record_written : is_err r ≡ false → Marked Γ fn fs ws out fs₂ ws₂ out' r
        unfolding with_buffer
        record_written d = finds (λ f q h e.
            let p = found_passed Γ fn (length fs) (length ws) (length out) C in
            split (writable (length out) (entries (entry_point fn) f.lines))
            (λ w.
            let z : r ≡ Ok (counts (length f.lines) (length (entries (entry_point fn) f.lines))) = e ∙ rw w refl in
            let W = (F (length f.lines) (marked (entry_point fn) f.lines)).written h (marked_few (entry_point fn) f.lines) _ z in
            rw z (marked_accepted f (cc) (A.forms f q) (A.whats f q) (W ∙ rw A.same_out)))
            (λ w. clash (cc)))
