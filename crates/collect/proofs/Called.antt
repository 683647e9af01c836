-- The calls for users: their answers, by what their tests and the collectors find. Assumes nothing.
use mathlib.Core.Path.{◌≡◌, refl, sym, ◌∙◌, ap, ap₂}
use mathlib.Core.Bool.{Bool, true, false, cond}
use mathlib.Core.List.{List, [], ◌∷◌, ◌++◌, map}
use mathlib.Core.Option.{some}
use Prim.Native.Nat.{ℕ, suc, ◌≤◌, ◌<◌}
use native.Mathlib.Nat.{zero-add}
use native.Mathlib.Omega.{arith}
use lib.ListN.{length}
use borrow.Author.Tests.{lt-ltb, le-ltb}
use Rattle.std.specs.Prelude.{Result, Ok, Err}
use Rattle.model.specs.Answer.{Answer, refused, done, require}
use Rattle.model.specs.Tree.{Forest}
use Rattle.model.specs.State as Model
use Rattle.model.specs.Place.{At}
use Rattle.model.specs.Collect.{collects, unfoldss, folds_at_ret}
use Rattle.model.specs.Frame.{mark}
use Rattle.model.specs.Record.{Entry, point_entry, statement_record, writable}
use Rattle.model.specs.Calls.{written, call_collect, call_unfolds, call_folds}
use Rattle.base.specs.Tests.{split}
use Rattle.mir.specs.Parts.{is_some}
use Rattle.input.specs.Input.{Checked}
use Rattle.input.proofs.Tested.{typed_goes, typed_stops, taken_goes, taken_stops}
use Rattle.refusal.specs.declared.Refusal.{Refusal}
use Rattle.refusal.specs.declared.Refusal.TheVariants.{BadTypes, BadFunction, BadState, BadPlace, WrongStep, OtherVariant, BareVariant, NoSuchValue, StateFull, ShortStore, UnknownStatement, MergedTooLarge}
use Rattle.refusal.specs.Refusal.{number, answered}
use Rattle.statements.specs.declared.Out.{Out}
use Rattle.statements.specs.declared.Counts.{Counts}
use Rattle.statements.specs.Kept.{counts, point_of, Kept, Puts, Finished, Finishes}
use Rattle.statements.proofs.Puts.{kept_begun}
use Rattle.collectors.specs.Trail.{lines_of, root}
use Rattle.collectors.proofs.Lines.{lines_many, lines_mark}
use Rattle.collect.specs.Answers.{start, ReadyTo, refuses, finishes, writes, Writes, Collects}

-- THE RECORD IS FINISHED

-- written, or there is no room
finish_told : {k : ℕ} {es : List Entry} {out out' : List ℕ} {o : Out} {r : Result Counts Refusal} → Kept k es out o → k ≤ length es
    → Finished k es out o out' r → Writes (length out) (finishes (length out) k es) r out'
unfolding finishes
finish_told {k} {es} {out} {r} K l F =
    split (writable (length out) es)
    (λ w.
    let e : r ≡ Ok (counts k (length es)) = rw w at (F.answer K l) in
    rw w (record { answer = ap answered e; left = F.written K l _ e }))
    (λ w.
    let e : r ≡ Err ShortStore = rw w at (F.answer K l) in
    rw w (record { answer = ap answered e; left = (F.zeroed _ e).1 }))

-- a mark for each statement
mark_length : (i : ℕ) (a : List At) → length (mark i a) ≡ length a
unfolding mark
mark_length i [] = refl
mark_length i (t ∷ a) = ap suc (mark_length i a)

-- what is written of a collector's statements
written_is : (n : ℕ) (a : List At) → written [] [] n a ≡ finishes n (length a) (lines_of (14, 0) (root 0) a)
unfolding written statement_record finishes point_entry
written_is n a =
    ap₂ (λ (k : ℕ) (es : List Entry). require (writable n es) 10 (λ _. done (k ∷ length es ∷ (map (λ e. e.0) es ++ map (λ e. e.1) es)))) (mark_length 0 a) (lines_mark 0 0 a)

-- THE COLLECTORS END

-- statements are recorded
pub ended_puts : {before out out' : List ℕ} {q : Out} {r : Result Counts Refusal} (b : List At) → Puts (length b) before start out q (lines_of (14, 0) (root 0) b)
    → Finishes out q out' r → Writes (length out) (written [] [] (length out) b) r out'
ended_puts {before} {out} {q = q} b P f =
    let es : List Entry = lines_of (14, 0) (root 0) b in
    let K : Kept (length b) es out q = rw (zero-add (length b)) at (P.kept 0 [] (kept_begun before)) in
    rw (written_is (length out) b) (finish_told K (lines_many (14, 0) (root 0) b) (f (length b) es))

module _ {before out : List ℕ} {a : Answer (List At)} {c : Result Out Refusal} (C : Collects before start out a c) where
  -- it is not refused
  pub ended_done : {q : Out} {r : Result Counts Refusal} {out' : List ℕ} → c ≡ Ok q → Finishes out q out' r → Writes (length out) (writes (length out) a) r out'
  ended_done {q} e f =
      let D = C.recorded q e in
      rw D.1 (ended_puts D.0 D.2 f)

  -- its counts are in range
  pub ended_ready : ReadyTo out c
  ended_ready q e = (C.recorded q e).2.counted

-- a collecting call starts with nothing
module _ {o : Out} {out out' : List ℕ} (d : o ≡ start) where
  -- a collector's answer
  pub collects_from : {a : Answer (List At)} {c : Result Out Refusal} → Collects out o out' a c → Collects out start out' a c
  collects_from C = rw d at C

  -- statements
  pub puts_from : {q : Out} (b : List At) → Puts (length b) out o out' q (lines_of (point_of o) (root 0) b) → Puts (length b) out start out' q (lines_of (14, 0) (root 0) b)
  puts_from b P = rw d at P

-- the same answer, in a buffer of as many words
pub writes_same : {m n : ℕ} (a : Answer (List At)) {b : Answer (List ℕ)} {r : Result Counts Refusal} {out' : List ℕ} → n ≡ m → b ≡ writes m a → Writes n (writes n a) r out' → Writes m b r out'
writes_same a e d w = rw d (rw e at w)

-- a refusal
pub writes_refused : {m : ℕ} (x : Refusal) {b : Answer (List ℕ)} {r : Result Counts Refusal} {out' : List ℕ} → b ≡ refused (number x) → Writes m (refuses x) r out' → Writes m b r out'
writes_refused x e w = rw e w

-- THE CALLS

-- no refusal has number 0
nonzero : (x : Refusal) → number x ≡ 0 → ⊥
nonzero BadTypes e = absurd (omega arith)
nonzero BadFunction e = absurd (omega arith)
nonzero BadState e = absurd (omega arith)
nonzero BadPlace e = absurd (omega arith)
nonzero WrongStep e = absurd (omega arith)
nonzero OtherVariant e = absurd (omega arith)
nonzero BareVariant e = absurd (omega arith)
nonzero NoSuchValue e = absurd (omega arith)
nonzero StateFull e = absurd (omega arith)
nonzero ShortStore e = absurd (omega arith)
nonzero UnknownStatement e = absurd (omega arith)
nonzero MergedTooLarge e = absurd (omega arith)

-- the number with which a state is refused is 3
three : (b : Bool) (x : Refusal) → number x ≡ cond b 0 3 → 3 ≡ number x
three true x e = absurd (nonzero x e)
three false x e = sym e

module _ {Γ locals os : List ℕ} (n : ℕ) where
  -- the types or the local types do not pass
  module _ (x : Refusal) (c : Checked Γ locals os (number x)) where
    pub collect_untyped : (s e : Model.State) → call_collect Γ locals s e n ≡ refused (number x)
    unfolding call_collect
    collect_untyped s e = typed_stops c _ (nonzero x)

    pub unfolds_untyped : (s : Model.State) → call_unfolds Γ locals s n ≡ refused (number x)
    unfolding call_unfolds
    unfolds_untyped s = typed_stops c _ (nonzero x)

    pub folds_untyped : (a : ℕ) (s : Model.State) → call_folds Γ locals a s n ≡ refused (number x)
    unfolding call_folds
    folds_untyped a s = typed_stops c _ (nonzero x)

  -- they do
  module _ (c : Checked Γ locals os 0) where
    -- the first state does not
    pub collect_first : (x : Refusal) (s e : Model.State) → number x ≡ cond (is_some (Model.decode Γ locals s)) 0 3 → call_collect Γ locals s e n ≡ refused (number x)
    unfolding call_collect
    collect_first x s e g = typed_goes c _ refl ∙ taken_stops Γ locals s g (nonzero x) _ ∙ ap refused (three _ x g)

    -- the state does not
    pub unfolds_state : (x : Refusal) (s : Model.State) → number x ≡ cond (is_some (Model.decode Γ locals s)) 0 3 → call_unfolds Γ locals s n ≡ refused (number x)
    unfolding call_unfolds
    unfolds_state x s g = typed_goes c _ refl ∙ taken_stops Γ locals s g (nonzero x) _ ∙ ap refused (three _ x g)

    -- there are no such arguments
    pub folds_args : (a : ℕ) (s : Model.State) → length locals ≤ a → call_folds Γ locals a s n ≡ refused 3
    unfolding call_folds
    folds_args a s l = typed_goes c _ refl ∙ rw (le-ltb a (length locals) l)

    -- there are, and the state does not pass
    pub folds_state : (x : Refusal) (a : ℕ) (s : Model.State) → a < length locals → number x ≡ cond (is_some (Model.decode Γ locals s)) 0 3
        → call_folds Γ locals a s n ≡ refused (number x)
    unfolding call_folds
    folds_state x a s l g =
        typed_goes c _ refl ∙ rw (lt-ltb a (length locals) l) (taken_stops Γ locals s g (nonzero x) _ ∙ ap refused (three _ x g))

    -- the state passes
    module _ (s : Model.State) {S : Forest} (d : Model.decode Γ locals s ≡ some S) where
      -- and the second does not
      pub collect_second : (x : Refusal) (e : Model.State) → number x ≡ cond (is_some (Model.decode Γ locals e)) 0 3 → call_collect Γ locals s e n ≡ refused (number x)
      unfolding call_collect
      collect_second x e g = typed_goes c _ refl ∙ taken_goes Γ locals s _ d ∙ taken_stops Γ locals e g (nonzero x) _ ∙ ap refused (three _ x g)

      -- and the second does
      pub collect_goes : (e : Model.State) {E : Forest} → Model.decode Γ locals e ≡ some E → call_collect Γ locals s e n ≡ writes n (collects Γ S E)
      unfolding call_collect written
      collect_goes e f = typed_goes c _ refl ∙ taken_goes Γ locals s _ d ∙ taken_goes Γ locals e _ f

      -- the call goes on
      pub unfolds_goes : call_unfolds Γ locals s n ≡ writes n (unfoldss Γ S)
      unfolding call_unfolds written
      unfolds_goes = typed_goes c _ refl ∙ taken_goes Γ locals s _ d

      -- so does that at return
      pub folds_goes : (a : ℕ) → a < length locals → call_folds Γ locals a s n ≡ writes n (done (folds_at_ret Γ a S))
      unfolding call_folds written
      folds_goes a l = typed_goes c _ refl ∙ rw (lt-ltb a (length locals) l) (taken_goes Γ locals s _ d)
