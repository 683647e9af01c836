-- "The result equals calling each alone, in order, with the output room that the earlier ones left": the whole-function calls, by what the
-- contract of `ghost_statements` says of each.
use Rattle.std.specs.Prelude.{◌≡◌, true, ◌&&◌, List, [], ◌∷◌, ◌++◌, ℕ, suc, ◌-◌, ◌≤◌, take, drop, replicate, eqb, leb, Result, Ok, Err}
use Rattle.std.proofs.Math.Path.{refl, sym}
use Rattle.std.proofs.Common.{ap, subst, arith, ◌∙◌, eqb-true}
use Rattle.std.proofs.Math.ListN.{length}
use Rattle.std.proofs.lemmas.List.{length-replicate}
use Rattle.model.specs.Words.{word}
use Rattle.model.specs.Answer.{refused}
use Rattle.model.specs.Types.{types_ok}
use Rattle.model.specs.Record.{record_length, lent}
use Rattle.model.specs.Whole.{found, whole, whole_told}
use Rattle.model.specs.Crate.{records, spare, passed, Outcome, stopped_at, calls, from_first, crate_statements}
use Rattle.base.specs.Tests.{clash, split}
use Rattle.base.specs.Each.{Each, each_more, each_none}
use Rattle.model.specs.Rounds.{elem}
use Rattle.model.specs.Promised.{OneOf, whole_numbers}
use Rattle.base.specs.Answer.{split_answer}
use Rattle.demand.specs.Told.{needed, told_enough}
use Rattle.demand.specs.Refused.{whole_refuses}
use Rattle.refusal.specs.Refusal.{number}
use Rattle.refusal.specs.declared.Refusal.{Refusal}
use Rattle.refusal.specs.declared.Refusal.TheVariants.{BadTypes, BadFunction, BadPlace, WrongStep, OtherVariant, NoSuchValue, StateFull, ShortStore}
use Rattle.statements.specs.declared.Counts.{Counts}
use Rattle.fold_unfold.specs.Answers.{answer_of, WholeTold}
use Rattle.whole_crate.specs.declared.CrateRefusal.{CrateRefusal}
use Rattle.whole_crate.specs.Called.{Leaves, Called}

-- a number is a refusal's
abbrev pub IsRefusal : ℕ → Type 0
IsRefusal n = (e : Refusal) × (number e ≡ n)

-- so is one of several that are
one_of_these : (ns : List ℕ) → Each IsRefusal ns → {n : ℕ} → OneOf ns n → IsRefusal n
unfolding elem
one_of_these [] a o = clash (cc)
one_of_these (m ∷ ms) (each_more p ps) {n} o = split (eqb n m)
    (λ q. (p.0, p.1 ∙ sym (eqb-true n m q)))
    (λ q. one_of_these ms ps (cc))

-- those of the whole-function call are
its_refusals : Each IsRefusal whole_numbers
its_refusals =
    each_more (BadTypes, refl) (each_more (BadFunction, refl) (each_more (BadPlace, refl) (each_more (WrongStep, refl)
    (each_more (OtherVariant, refl) (each_more (NoSuchValue, refl) (each_more (StateFull, refl) (each_more (ShortStore, refl) each_none)))))))

module _ (Γ : List ℕ) (nforms nwhats nout : ℕ) where
  -- a call of `ghost_statements`, by its contract: whatever words are lent, in a store of these lengths, an output as long as the room behind a
  -- front, and an array for the numbers (document 02, F-4) that is long enough. What it leaves, and its answer
  pub record GhostStatements (fn front fs' ws' out' : List ℕ) (r : Result Counts Refusal) : Type 0 where
    pub fs : List ℕ
    pub ws : List ℕ
    pub out : List ℕ
    pub forms : length fs ≡ nforms
    pub whats : length ws ≡ nwhats
    pub told : List ℕ
    pub told' : List ℕ
    pub room : length out ≡ nout - length front
    pub enough : needed (found Γ fn nforms nwhats (nout - length front)) ≤ length told
    pub ensures : WholeTold Γ fn fs ws out told fs' ws' out' told' r

  -- calls one after another from position p on, behind a front and with a store left by those before it: until there is no function left,
  -- or one is refused
  pub data EachAlone : (p : ℕ) (front fs ws : List ℕ) → List (List ℕ) → Outcome → Type 0 where
    alone_end : {p : ℕ} {front fs ws : List ℕ} → EachAlone p front fs ws [] (record { verdict = passed; forms = fs; whats = ws; out = lent nout front })
    alone_stops : {p : ℕ} {e : Refusal} {front fs ws fn fs' ws' out' : List ℕ} {fns : List (List ℕ)} → GhostStatements fn front fs' ws' out' (Err e)
        → EachAlone p front fs ws (fn ∷ fns) (stopped_at Γ nforms nwhats nout (number e) p)
    alone_on : {p : ℕ} {k : Counts} {front fs ws fn fs' ws' out' : List ℕ} {fns : List (List ℕ)} {o : Outcome} → GhostStatements fn front fs' ws' out' (Ok k)
        → EachAlone (suc p) (front ++ take (record_length k.entries) out') fs' ws' fns o → EachAlone p front fs ws (fn ∷ fns) o

  -- it leaves what model's call leaves without numbers
  alone_whole : {fn front fs' ws' out' : List ℕ} {r : Result Counts Refusal} (C : GhostStatements fn front fs' ws' out' r) → let R = whole Γ fn nforms nwhats (nout - length front) in
      (answer_of r ≡ R.answer) × (fs' ≡ R.forms) × (ws' ≡ R.whats) × (out' ≡ R.out)
  alone_whole {fn} {front} C =
      let q = told_enough Γ fn nforms nwhats (nout - length front) (length C.told) C.enough in
      let E = C.ensures in (
        rw (C.forms, C.whats, C.room, q) at E.answer,
        rw (C.forms, C.whats, C.room, q) at E.forms,
        rw (C.forms, C.whats, C.room, q) at E.whats,
        rw (C.forms, C.whats, C.room, q) at E.record_is,
      )

  -- they give what model's fold gives
  alone_calls : {p : ℕ} {front fs ws : List ℕ} {fns : List (List ℕ)} {o : Outcome} → EachAlone p front fs ws fns o → calls Γ nforms nwhats nout p front fs ws fns ≡ o
  unfolding calls
  alone_calls alone_end = refl
  alone_calls (alone_stops {p} {e} {front} {fn = fn} C) =
      let (a, f, w, u) = alone_whole C in
      rw (← a, calls) refl
  alone_calls (alone_on {p} {k} {front} {fn = fn} {fs' = fs'} {ws' = ws'} {out' = out'} {fns} {o} C A) =
      let (a, f, w, u) = alone_whole C in
      rw (← a, calls) (rw (← f, ← w, ← u) (alone_calls A))

  -- such a call can be made of any function, with zeros lent: it leaves what model's call leaves
  made : (fn front : List ℕ) {r : Result Counts Refusal} → let R = whole Γ fn nforms nwhats (nout - length front) in answer_of r ≡ R.answer
      → GhostStatements fn front R.forms R.whats R.out r
  made fn front e =
      let f = length-replicate {A = ℕ} nforms 0 in
      let w = length-replicate {A = ℕ} nwhats 0 in
      let o = length-replicate {A = ℕ} (nout - length front) 0 in
      let k = needed (found Γ fn nforms nwhats (nout - length front)) in
      let t = length-replicate {A = ℕ} k 0 in
      let q = told_enough Γ fn nforms nwhats (nout - length front) k (omega arith) in
      record {
        fs = replicate nforms 0;
        ws = replicate nwhats 0;
        out = replicate (nout - length front) 0;
        forms = f;
        whats = w;
        told = replicate k 0;
        told' = (whole_told Γ fn nforms nwhats (nout - length front) k).told;
        room = o;
        enough = omega arith;
        ensures = record {
          answer = rw (f, w, o, t, q) e;
          forms = rw (f, w, o, t, q) refl;
          whats = rw (f, w, o, t, q) refl;
          record_is = rw (f, w, o, t, q) refl;
          numbers_are = rw (f, w, o, t) refl;
        };
      }

  -- and so such calls of any functions
  pub alone_made : (p : ℕ) (front fs ws : List ℕ) (fns : List (List ℕ)) → (o : Outcome) × EachAlone p front fs ws fns o
  alone_made p front fs ws [] = (_, alone_end)
  alone_made p front fs ws (fn ∷ fns) =
      let R = whole Γ fn nforms nwhats (nout - length front) in
      split_answer R.answer
      (λ n q.
      let (e, d) = one_of_these whole_numbers its_refusals (whole_refuses Γ fn nforms nwhats (nout - length front) n q) in
      (stopped_at Γ nforms nwhats nout (number e) p, alone_stops (made fn front {r = Err e} (ap refused d ∙ sym q))))
      (λ c q.
      let (o, A) = alone_made (suc p) (front ++ take (record_length c.1) R.out) R.forms R.whats fns in
      (o, alone_on (made fn front {r = Ok (record { statements = c.0; entries = c.1 })} (sym q)) A))

-- so does the one call, where the count, the types and the words after the last record pass
pub crate_alone : (Γ words fs ws out : List ℕ) {fs' ws' out' : List ℕ} {r : Result (Unit {0}) CrateRefusal} {o : Outcome} → leb 1 (length words) && leb (word words 0) 64 ≡ true → types_ok Γ ≡ true
    → eqb (length (spare (word words 0) (drop 1 words))) 0 ≡ true
    → EachAlone Γ (length fs) (length ws) (length out) 1 [] (replicate (length fs) 0) (replicate (length ws) 0) (records (word words 0) (drop 1 words)) o
    → Called Γ words fs ws out fs' ws' out' r → Leaves o fs' ws' out' r
unfolding crate_statements from_first
crate_alone Γ words fs ws out {fs'} {ws'} {out'} {r} {o} a b c A L =
    let e : crate_statements Γ (length fs) (length ws) (length out) words ≡ o = rw (a, b, c) (alone_calls Γ (length fs) (length ws) (length out) A) in
    subst (λ (x : Outcome). Leaves x fs' ws' out' r) e L
