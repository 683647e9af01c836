-- What the code leaves of a run of items: by its outcome, and of two runs, one after the other.
use mathlib.Core.Path.{◌≡◌, refl, ap, ◌∙◌, subst}
use mathlib.Core.List.{List, [], ◌++◌}
use Prim.Native.Nat.{ℕ}
use Rattle.std.specs.Prelude.{Result, Ok, Err}
use lib.ListN.{length, length-append}
use Rattle.model.specs.Answer.{Answer, refused, done, ◌>>=◌}
use Rattle.model.specs.Tree.{Forest}
use Rattle.model.specs.Place.{At}
use Rattle.model.specs.Function.{local_types}
use Rattle.model.specs.Block.{entry_point}
use Rattle.model.specs.Frame.{Line}
use Rattle.model.specs.Record.{Entry}
use Rattle.base.specs.Tests.{split, clash}
use Rattle.base.specs.Answer.{split_answer}
use Rattle.records.specs.Here.{Holds}
use Rattle.refusal.specs.Refusal.{number, answered}
use Rattle.refusal.specs.declared.Refusal.{Refusal}
use Rattle.state.specs.Value.{value}
use Rattle.state.specs.declared.nodes.State.{State}
use Rattle.statements.specs.Kept.{Alike, Counted}
use Rattle.statements.specs.Marked.{marked}
use Rattle.statements.specs.declared.Out.{Out}
use Rattle.statements.proofs.Puts.{alike_at, alike_then, counted_alike, puts_alike, puts_none, puts_then}
use Rattle.statements.proofs.Marks.{marked_append}
use Rattle.state.specs.Given.{Stated}
use Rattle.statements.specs.Points.{Says, Tells}
use Rattle.body.specs.Uses.{Gone, Passes}
use Rattle.body.proofs.Runs.{Run, behind}

-- WHAT IS RECORDED

-- no line
pub tells_none : (fn : List ℕ) {out : List ℕ} {o : Out} → Counted out o → Tells fn out o out o []
unfolding marked
tells_none fn {o = o} C = record { told = λ e. puts_none C; silent = λ e. (refl, alike_at o o.point) }

-- one line, of these entries
pub tells_one : {fn a b : List ℕ} {o p : Out} (ls : List (Line At)) {es : List Entry}
    → length ls ≡ 1 → marked (entry_point fn) ls ≡ es → Says a o b p es → Tells fn a o b p ls
tells_one ls k d S = record { told = λ e. rw (k, d) (S.told e); silent = S.silent }

module _ {fn a b : List ℕ} {o p : Out} {ls : List (Line At)} (T : Tells fn a o b p ls) where
  -- the same from another that is like the first
  pub tells_alike : {n : Out} → Alike n o → Tells fn a n b p ls
  tells_alike A = record {
    told = λ e. puts_alike A (T.told (A.recording ∙ e));
    silent = λ e. let (d, B) = T.silent (A.recording ∙ e) in (d, alike_then A B);
  }

  -- whether the pass records stays
  pub tells_recording : p.recording ≡ o.recording
  tells_recording = split o.recording (λ e. (T.told e).recording) (λ e. (T.silent e).1.recording)

  -- the buffer stays as long
  pub tells_same : length b ≡ length a
  tells_same = split o.recording (λ e. (T.told e).same) (λ e. ap length (T.silent e).0)

  -- the counts stay in range
  pub tells_counted : Counted a o → Counted b p
  tells_counted C = split o.recording (λ e. (T.told e).counted) (λ e. let (d, A) = T.silent e in rw d (counted_alike A C))

  -- lines, and more lines
  pub tells_then : {c : List ℕ} {q : Out} {ms : List (Line At)} → Tells fn b p c q ms → Tells fn a o c q (ls ++ ms)
  tells_then {ms = ms} U = record {
    told = λ e. rw (length-append, marked_append) (puts_then (T.told e) (U.told (tells_recording ∙ e)));
    silent = λ e. let (d, A) = T.silent e in let (f, B) = U.silent (tells_recording ∙ e) in (f ∙ d, alike_then A B);
  }

module _ {Γ fn : List ℕ} {out : List ℕ} {o : Out} where
  -- A RUN

  -- a run that is refused
  pub refused_passes : {out' : List ℕ} {a : Answer Run} {r : Result Out Refusal} {s : State} (n : ℕ) → a ≡ refused n → answered r ≡ refused n
      → length out' ≡ length out → Passes Γ fn out o out' a r s
  refused_passes n e d l = record { same = l; denied = λ k f. cc; gone = λ w f. clash (cc) }

  -- a run that is not
  pub done_passes : {out' : List ℕ} {a : Answer Run} {q : Out} {s : State} {w : Run} → a ≡ done w
      → Holds Γ (local_types fn) (value s) w.0 → Tells fn out o out' q w.1 → Passes Γ fn out o out' a (Ok q) s
  done_passes {out'} {a} {q} {s} {w} e h T = record {
    same = tells_same T;
    denied = λ k f. clash (cc);
    gone = λ v f. subst (λ (x : Run). Gone Γ fn out o out' x (Ok q) s) {x = w} {y = v} (cc) (record { told = q; fine = refl; state = h; lines = T });
  }

  module _ {out' : List ℕ} {a : Answer Run} {q : Out} {s : State} (P : Passes Γ fn out o out' a (Ok q) s) where
    -- the code says that it is not
    pub passes_done : (w : Run) × (a ≡ done w) × Holds Γ (local_types fn) (value s) w.0 × Tells fn out o out' q w.1
    passes_done = split_answer a
        (λ n e. clash (cc (P.denied n e)))
        (λ w e. let G = P.gone w e in let same : G.told ≡ q = cc G.fine in (w, e, G.state, rw same at G.lines))

    -- a state is left
    pub passes_stated : Stated Γ (local_types fn) s
    passes_stated = let (w, e, h, T) = passes_done in record { state = w.0; holds = h }

    -- and counts in range
    pub passes_counted : Counted out o → Counted out' q
    passes_counted C = let (w, e, h, T) = passes_done in tells_counted T C

  -- or that it is
  pub passes_refused : {out' : List ℕ} {a : Answer Run} {e : Refusal} {s : State} → Passes Γ fn out o out' a (Err e) s → a ≡ refused (number e)
  passes_refused {a = a} P = split_answer a
      (λ n d. cc (P.denied n d))
      (λ w d. clash (cc (P.gone w d).fine))

  -- the same from another record that is like it
  pub passes_alike : {out' : List ℕ} {a : Answer Run} {r : Result Out Refusal} {s : State} {n : Out} → Passes Γ fn out o out' a r s → Alike n o → Passes Γ fn out n out' a r s
  passes_alike P A = record {
    same = P.same;
    denied = P.denied;
    gone = λ w e. let G = P.gone w e in record { told = G.told; fine = G.fine; state = G.state; lines = tells_alike G.lines A };
  }

  -- TWO RUNS

  -- a first run, then another
  pub passes_then : {out₁ out₂ : List ℕ} {a : Answer Run} {f : Forest → Answer Run} {q : Out} {r : Result Out Refusal} {s₁ s₂ : State}
      → Passes Γ fn out o out₁ a (Ok q) s₁
      → ((D : Forest) → Holds Γ (local_types fn) (value s₁) D → Passes Γ fn out₁ q out₂ (f D) r s₂)
      → Passes Γ fn out o out₂ (a >>= λ x. behind x.1 (f x.0)) r s₂
  passes_then {a = a} {f} {q} {r} {s₂ = s₂} P h =
      let (w, e, k, T) = passes_done P in
      let Q = h w.0 k in
      let then : (a >>= λ x. behind x.1 (f x.0)) ≡ behind w.1 (f w.0) = ap (λ (b : Answer Run). b >>= λ x. behind x.1 (f x.0)) e in
      split_answer (f w.0)
      (λ n d. refused_passes n (then ∙ ap (behind w.1) d) (Q.denied n d) (Q.same ∙ P.same))
      (λ v d.
      let H = Q.gone v d in
      rw H.fine (done_passes {w = (v.0, w.1 ++ v.1)} (then ∙ ap (behind w.1) d) H.state (tells_then T H.lines)))

  -- a first run that is refused is all, whatever state is given back
  pub passes_stop : {out₁ : List ℕ} {a : Answer Run} {e : Refusal} {s s' : State} (f : Run → Answer Run)
      → Passes Γ fn out o out₁ a (Err e) s → Passes Γ fn out o out₁ (a >>= f) (Err e) s'
  passes_stop {e = e} f P = refused_passes (number e) (ap (λ (b : Answer Run). b >>= f) (passes_refused P)) refl P.same
