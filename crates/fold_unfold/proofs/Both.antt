-- Both passes, of records that pass, are model's: a first pass that is refused, and one that is followed by the second.
use mathlib.Core.Path.{◌≡◌, refl, sym, ap, ◌∙◌}
use mathlib.Core.Logic.{◌≢◌}
use mathlib.Core.Bool.{true, false}
use mathlib.Core.List.{List}
use mathlib.Core.Option.{Option}
use Prim.Native.Nat.{ℕ}
use Rattle.std.specs.Prelude.{Result, Ok, Err}
use lib.ListN.{length, replicate}
use Rattle.model.specs.Answer.{refused, done, ◌>>=◌}
use Rattle.model.specs.Tree.{Forest}
use Rattle.model.specs.Place.{At}
use Rattle.model.specs.Rounds.{elem}
use Rattle.model.specs.Passes.{infer, elaborate, Found, analyse}
use Rattle.model.specs.Body.{frame}
use Rattle.model.specs.Whole.{passes}
use Rattle.base.specs.Tests.{clash}
use Rattle.base.specs.Answer.{split_answer, then_done}
use Rattle.demand.specs.Whole.{Passed}
use Rattle.demand.specs.Refused.{passes_refuse}
use Rattle.refusal.specs.declared.Refusal.{Refusal}
use Rattle.blocks.specs.Accepted.{Accepted}
use Rattle.statements.specs.declared.Out.{Out}
use Rattle.queue.specs.Bits.{no_bits}
use Rattle.arrival.specs.Memory.{Memory, with_store, with_log}
use Rattle.arrival.specs.Shares.{arrays, Remembers}
use Rattle.fold_unfold.specs.Answers.{Analysed}
use Rattle.fold_unfold.specs.Runs.{pass, blank, again, Inferred, Begins, Ends}
use Rattle.fold_unfold.proofs.Passed.{uses, pass_first, pass_second}
use Rattle.fold_unfold.proofs.Begun.{again_remembered}
use Rattle.fold_unfold.proofs.Stocked.{stocked_forms, stocked_whats}

module _ (Γ fn : List ℕ) where
  -- a first pass that is refused
  first_refused : (n : ℕ) → pass Γ fn false blank ≡ refused n → passes Γ fn ≡ refused n
  unfolding passes analyse
  first_refused n e = split_answer (uses Γ fn)
      (λ k u. cc (pass_first Γ fn))
      (λ r u. split_answer (infer (frame Γ fn) r.0) (λ k i. cc (pass_first Γ fn)) (λ s i. clash (cc (pass_first Γ fn))))

  -- and one that is not
  first_done : (m : Memory) → pass Γ fn false blank ≡ done m → Inferred Γ fn m.kept
  first_done m e = split_answer (uses Γ fn)
      (λ k u. clash (cc (pass_first Γ fn)))
      (λ r u. split_answer (infer (frame Γ fn) r.0)
      (λ k i. clash (cc (pass_first Γ fn)))
      (λ s i. let d : with_store blank s ≡ m = cc (pass_first Γ fn) in
      record { entry = r; enters = u; store = s; infers = i; same = ap (λ (x : Memory). x.kept) d }))

  -- the second pass changes nothing that is stored
  second_kept : (kept : ℕ → Option Forest) (m : Memory) → pass Γ fn true (again kept) ≡ done m → m.kept ≡ kept
  second_kept kept m e =
      let (r, u, d) = then_done (uses Γ fn) (sym (pass_second Γ fn kept) ∙ e) in
      let (g, w, c) = then_done (elaborate (frame Γ fn) kept r.1 r.0) d in
      let z : with_log (again kept) g ≡ m = cc in
      sym (ap (λ (x : Memory). x.kept) z)

  -- the second pass then decides
  then_second : (kept : ℕ → Option Forest) → Inferred Γ fn kept
      → passes Γ fn ≡ (pass Γ fn true (again kept) >>= λ g. done (record { kept = kept; lines = g.lines }))
  unfolding passes analyse
  then_second kept I =
      split_answer (elaborate (frame Γ fn) kept I.entry.1 I.entry.0)
      (λ k e. cc (pass_second Γ fn kept, I.enters, I.infers, I.same))
      (λ g e. cc (pass_second Γ fn kept, I.enters, I.infers, I.same))

-- both records pass
pub records_pass : {Γ os fn : List ℕ} → Accepted Γ os fn → Passed Γ fn
records_pass A = record { types = A.ready.typed; function = A.function; places = A.places }

-- THE CASE THAT CANNOT ARISE

module _ {Γ fn : List ℕ} (H : Passed Γ fn) where
  -- the passes are not refused with 0
  never_0 : passes Γ fn ≢ refused 0
  unfolding elem
  never_0 e = let z = passes_refuse H 0 e in clash (cc)

  -- so neither is the first
  pub first_sound : pass Γ fn false blank ≢ refused 0
  first_sound e = never_0 (first_refused Γ fn 0 e)

  -- nor the second
  pub second_sound : {kept : ℕ → Option Forest} → Inferred Γ fn kept → pass Γ fn true (again kept) ≢ refused 0
  second_sound {kept} I e = never_0 (then_second Γ fn kept I ∙ rw e refl)

-- between the passes
pub record Half (Γ fn kept fs ws : List ℕ) : Type 0 where
  pub memory : Memory
  pub inferred : Inferred Γ fn memory.kept
  pub remembers : Remembers Γ fn (again memory.kept) (arrays kept (replicate 256 0) no_bits fs ws)

module _ {Γ fn kept fs ws out kept' fs' ws' out' : List ℕ} where
  -- the first pass is refused
  pub first_stops : {k : Refusal} → Ends Γ fn false kept fs ws out (pass Γ fn false blank) kept' fs' ws' out' (Err k) → Analysed Γ fn fs ws out fs' ws' out' (Err k)
  first_stops E = split_answer (pass Γ fn false blank)
      (λ k p. let q = first_refused Γ fn k p in record {
        same_forms = E.same_forms;
        same_whats = E.same_whats;
        same_out = E.same_out;
        denied = λ n d. cc (E.denied k p);
        forms = λ f d. clash (cc);
        whats = λ f d. clash (cc);
        over = λ f d. clash (cc);
      })
      (λ m p. let o = (E.over m p).3 in clash (cc))

  -- it is not
  pub first_goes : {o : Out} → Ends Γ fn false kept fs ws out (pass Γ fn false blank) kept' fs' ws' out' (Ok o) → Half Γ fn kept' fs' ws'
  first_goes E = split_answer (pass Γ fn false blank)
      (λ k p. let d = E.denied k p in clash (cc))
      (λ m p. record { memory = m; inferred = first_done Γ fn m p; remembers = again_remembered (E.over m p).4 })

module _ {Γ fn kept fs ws : List ℕ} (H : Half Γ fn kept fs ws) where
  -- the second pass begins
  pub second_begins : Passed Γ fn → Begins Γ fn true (arrays kept (replicate 256 0) no_bits fs ws)
  second_begins P = record { memory = again H.memory.kept; is = H.remembers; starts = (H.memory.kept, refl, H.inferred); goes = second_sound P H.inferred }

  -- and ends
  pub second_ends : {out kept' fs' ws' out' fs₀ ws₀ out₀ : List ℕ} {v : Result Out Refusal}
      → Ends Γ fn true kept fs ws out (pass Γ fn true (again H.memory.kept)) kept' fs' ws' out' v
      → length fs ≡ length fs₀ → length ws ≡ length ws₀ → length out ≡ length out₀ → Analysed Γ fn fs₀ ws₀ out₀ fs' ws' out' v
  second_ends E lf lw lo =
      let k = H.memory.kept in
      let t = then_second Γ fn k H.inferred in
      split_answer (pass Γ fn true (again k))
      (λ n p. let d = E.denied n p in record {
        same_forms = E.same_forms ∙ lf;
        same_whats = E.same_whats ∙ lw;
        same_out = E.same_out ∙ lo;
        denied = λ j q. cc;
        forms = λ f q. clash (cc);
        whats = λ f q. clash (cc);
        over = λ f q. clash (cc);
      })
      (λ m p. let O = E.over m p in
      let same : (f : Found Forest At) → passes Γ fn ≡ done f → (f.kept ≡ m.kept) × (f.lines ≡ m.lines) =
      λ f q. let g : ◌≡◌ {A = Found Forest At} (record { kept = k; lines = m.lines }) f = cc in
      (sym (ap (λ (x : Found Forest At). x.kept) g) ∙ sym (second_kept Γ fn k m p), sym (ap (λ (x : Found Forest At). x.lines) g)) in
      record {
        same_forms = E.same_forms ∙ lf;
        same_whats = E.same_whats ∙ lw;
        same_out = E.same_out ∙ lo;
        denied = λ j q. clash (cc);
        forms = λ f q. stocked_forms O.4 ∙ rw (E.same_forms, lf, (same f q).0);
        whats = λ f q. stocked_whats O.4 ∙ rw (E.same_whats, lw, (same f q).0);
        over = λ f q. (O.0, O.3, O.5.counted, rw (same f q).1 (O.5.kept refl));
      })
