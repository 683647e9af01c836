-- The calls for users: their answers, by what the tests and the calls within a run find.
use mathlib.Core.Path.{◌≡◌, refl, sym, ◌∙◌, ap}
use mathlib.Core.Logic.{◌≢◌}
use mathlib.Core.Bool.{Bool, true}
use mathlib.Core.List.{List}
use mathlib.Core.Option.{some}
use Prim.Native.Nat.{ℕ}
use native.Mathlib.Omega.{arith}
use lib.ListN.{length}
use Rattle.std.specs.Prelude.{Err}
use Rattle.refusal.specs.Refusal.{number, answered}
use Rattle.refusal.specs.declared.Refusal.{Refusal}
use Rattle.model.specs.Answer.{Answer, refused, done, ◌>>=◌}
use Rattle.model.specs.Types.{types_ok}
use Rattle.model.specs.Tree.{Forest}
use Rattle.model.specs.State as Model
use Rattle.model.specs.State.{decode, locals_ok, encode}
use Rattle.model.specs.Place.{Spot, At, used_ok}
use Rattle.model.specs.Walk.{pick, passed, projection}
use Rattle.model.specs.Calls.{typed, taken, placed, spot_of, Recorded, nothing, fold, unfold_at, recorded_as, call_projection}
use Rattle.base.specs.Tests.{split, split_option, clash}
use Rattle.base.specs.Answer.{split_answer, good_at}
use Rattle.base.specs.Only.{Only, only_at}
use Rattle.calls.specs.Numbers.{projection_refuses}
use Rattle.calls.proofs.Used.{call_used}
use Rattle.records.specs.Encode.{decode_holds}
use Rattle.records.specs.Holds.{holds_encode}
use Rattle.state.specs.Value.{value}
use Rattle.state.specs.declared.nodes.State.{State}
use Rattle.env.specs.declared.project.Use.{Use}
use Rattle.env.specs.declared.project.Usage.{Usage}
use Rattle.env.specs.declared.project.Moved.{Moved}
use Rattle.env.specs.Answers.{usage, moved, recorded, use_of, granted, Projects, Moves, Records, Gives, Uses, Refuses}
use Rattle.env.specs.There.{Wherever, ProjectsThere}
use Rattle.env.specs.Given.{Asked}
use Rattle.env.specs.Tested.{Tested}
use Rattle.env.proofs.Testing.{number_some}

module _ {Γ locals os : List ℕ} {s : Model.State} {ops args : List ℕ} {ok : Spot → Bool} {r : ℕ} (t : Tested Γ locals os s ops args ok r) where
  -- the types and the local types pass
  tested_types : r ≡ 0 → (types_ok Γ ≡ true) × (locals_ok Γ locals ≡ true)
  tested_types z =
      split (types_ok Γ)
      (λ a. split (locals_ok Γ locals) (λ b. (a, b)) (λ b. let no : ◌≡◌ {A = ℕ} 0 3 = cc t.answer in absurd (omega arith)))
      (λ a. let no : ◌≡◌ {A = ℕ} 0 1 = cc t.answer in absurd (omega arith))

  -- the state is read, and the items are a place that passes
  tested_both : r ≡ 0 → (E : Forest) × (q : Spot) × (decode Γ locals s ≡ some E) × (spot_of ops args ≡ some q) × (ok q ≡ true)
  tested_both z =
      let (a, b) = tested_types z in
      split_option (decode Γ locals s)
      (λ d. let no : ◌≡◌ {A = ℕ} 0 3 = cc t.answer in absurd (omega arith))
      (λ E d. split_option (spot_of ops args)
      (λ p. let no : ◌≡◌ {A = ℕ} 0 4 = cc t.answer in absurd (omega arith))
      (λ q p. split (ok q) (λ k. (E, q, d, p, k)) (λ k. let no : ◌≡◌ {A = ℕ} 0 4 = cc t.answer in absurd (omega arith))))

  module _ {A : Type 0} (f : Forest → Spot → Answer A) where
    -- a test stops the call
    call_stops : r ≢ 0 → typed Γ locals (λ _. taken Γ locals s (λ E. placed ok ops args (f E))) ≡ refused r
    unfolding typed taken placed
    call_stops n =
        split (types_ok Γ)
        (λ a. split (locals_ok Γ locals)
        (λ b. split_option (decode Γ locals s)
        (λ d. rw (a, b, d, taken) (ap refused (sym (cc t.answer))))
        (λ E d. split_option (spot_of ops args)
        (λ p. rw (a, b, d, taken, p, placed) (ap refused (sym (cc t.answer))))
        (λ q p. split (ok q)
        (λ k. absurd (n (cc t.answer)))
        (λ k. rw (a, b, d, taken, p, placed, k) (ap refused (sym (cc t.answer)))))))
        (λ b. rw (a, b) (ap refused (sym (cc t.answer)))))
        (λ a. rw a (ap refused (sym (cc t.answer))))

    -- it goes on with the state and the place
    call_goes : r ≡ 0 → {E : Forest} {q : Spot} → decode Γ locals s ≡ some E → spot_of ops args ≡ some q → ok q ≡ true
        → typed Γ locals (λ _. taken Γ locals s (λ E. placed ok ops args (f E))) ≡ f E q
    unfolding typed taken placed
    call_goes z d p k = let (a, b) = tested_types z in rw (a, b, d, taken, p, placed, k)

-- what the calls within a run ask of the input
pub tested_input : {Γ locals os : List ℕ} {s : State} {ops args : List ℕ} {ok : Spot → Bool} → Tested Γ locals os (value s) ops args ok 0 → Asked Γ os locals s ops args ok
tested_input {Γ} {locals} {s = s} t =
    let (E, q, d, p, k) = tested_both t refl in
    (t.ready refl, ((tested_types t refl).1, record { state = E; holds = decode_holds Γ locals (value s) E d; spot = q; is = p; passes = k }))

-- THE ANSWERS

-- what a projection gives, told with the number m, as the call does
abbrev shown : List ℕ → ℕ → Forest × List At → Answer (Recorded × ℕ × Model.State)
shown Γ m r = done (recorded_as r.1, m, encode Γ r.0)

-- a state, as the call gives it
abbrev given_back : List ℕ → Forest → Answer Model.State
given_back Γ D = done (encode Γ D)

module _ {Γ locals : List ℕ} {s : State} where
  -- a projection of a state that is held is the call's
  records_of : {m : ℕ} {a : Answer (Forest × List At)} {b : Answer (Recorded × ℕ × Model.State)} {u : Usage} → b ≡ a >>= shown Γ m → Projects Γ locals s m a u → Records s b u
  records_of {m} {a} {b} {u} e P =
      split_answer a
      (λ n d. let k : b ≡ refused n = e ∙ rw d in record {
        answer = P.answer ∙ rw (d, k);
        moved = λ w c. clash (cc);
        kept = λ j c. P.kept n d;
      })
      (λ w d. let k : b ≡ shown Γ m w = e ∙ rw d in record {
        answer = P.answer ∙ rw (d, k);
        moved = λ v c. let same : (recorded_as w.1, m, encode Γ w.0) ≡ v = cc in sym (holds_encode (P.moved w d)) ∙ ap (λ (x : Recorded × ℕ × Model.State). x.2) same;
        kept = λ j c. clash (cc);
      })

  -- and so of the other calls
  gives_of : {a : Answer Forest} {b : Answer Model.State} {m : Moved} → b ≡ a >>= given_back Γ → Moves Γ locals s a m → Gives s b m
  gives_of {a} {b} {m} e P =
      split_answer a
      (λ n d. let k : b ≡ refused n = e ∙ rw d in record {
        answer = P.answer ∙ rw (d, k);
        moved = λ w c. clash (cc);
        kept = λ j c. P.kept n d;
      })
      (λ D d. let k : b ≡ given_back Γ D = e ∙ rw d in record {
        answer = P.answer ∙ rw (d, k);
        moved = λ v c. let same : encode Γ D ≡ v = cc in sym (holds_encode (P.moved D d)) ∙ same;
        kept = λ j c. clash (cc);
      })

-- A PROJECTION

-- what is recorded is told by the answer
recorded_one : (v w : Recorded) → recorded v ≡ recorded w → v ≡ w
recorded_one nothing nothing e = refl
recorded_one nothing fold e = clash (cc)
recorded_one nothing (unfold_at n) e = clash (cc)
recorded_one fold nothing e = clash (cc)
recorded_one fold fold e = refl
recorded_one fold (unfold_at n) e = clash (cc)
recorded_one (unfold_at m) nothing e = clash (cc)
recorded_one (unfold_at m) fold e = clash (cc)
recorded_one (unfold_at m) (unfold_at n) e = cc

-- so is the number beside it
use_one : {m n : ℕ} {v w : Recorded} → use_of m v ≡ use_of n w → (v ≡ w) × (m ≡ n)
use_one {v = v} {w} e = (recorded_one v w (ap (λ (u : Use). u.recorded) e), ap (λ (u : Use). u.passed) e)

-- the call's answer, as the code has it
abbrev as_use : Answer (Recorded × ℕ × Model.State) → Answer Use
as_use a = a >>= λ w. done (use_of w.1 w.0)

module _ (Γ locals : List ℕ) (s : State) (ops args : List ℕ) where
  -- what is promised of a projection follows
  abbrev Promised : Usage → Type 0
  Promised u = Records s (call_projection Γ locals (value s) ops args) u × Uses Γ locals s ops args u

  projection_promised : {u : Usage} → Records s (call_projection Γ locals (value s) ops args) u → Promised u
  projection_promised {u} R =
      let a = call_projection Γ locals (value s) ops args in (
        R,
        record {
          numbered = λ n h. let e : refused (number n) ≡ as_use a = ap answered (sym h) ∙ R.answer in split_answer a
              (λ k d. only_at (projection_refuses Γ locals (value s) ops args) (cc))
              (λ w d. clash (cc));
          used = λ v m h. let e : done (use_of m v) ≡ as_use a = ap answered (sym h) ∙ R.answer in split_answer a
              (λ k d. clash (cc))
              (λ w d. let g : use_of m v ≡ use_of w.1 w.0 = cc in let (f, t) = use_one {v = v} {w = w.0} g in rw (f, t, R.moved w d) (good_at (call_used Γ locals (value s) ops args) d));
        },
      )

  module _ {os : List ℕ} where
    -- a test stops the projection
    pub projection_stops : {n : Refusal} → Tested Γ locals os (value s) ops args (used_ok (length locals)) (number n) → Promised (usage (Err n) s)
    unfolding call_projection
    projection_stops {n} t =
        let e = call_stops t (λ E q. projection Γ q E >>= shown Γ (passed Γ q.place (pick q.local E))) (number_some n) in
        projection_promised (record { answer = ap as_use (sym e); moved = λ w d. clash (cc); kept = λ n d. refl })

    -- it is done
    pub projection_goes : Tested Γ locals os (value s) ops args (used_ok (length locals)) 0 → {u : Usage} → ProjectsThere Γ locals s ops args u → Promised u
    unfolding call_projection
    projection_goes t P =
        let (E, q, d, p, k) = tested_both t refl in
        projection_promised (records_of (call_goes t (λ E q. projection Γ q E >>= shown Γ (passed Γ q.place (pick q.local E))) refl d p k) (P E q (decode_holds Γ locals (value s) E d) p))

-- THE OTHER CALLS

module _ (Γ locals : List ℕ) (s : State) (ops args : List ℕ) (ok : Spot → Bool) (a : Spot → Forest → Answer Forest) where
  -- a call that gives a state alone, by its test of the place and by what it does with a state
  abbrev pub call : Answer Model.State
  call = typed Γ locals (λ _. taken Γ locals (value s) (λ E. placed ok ops args (λ q. a q E >>= given_back Γ)))

  module _ {ns : List ℕ} (o : Only ns call) where
    -- the numbers with which it refuses
    gives_promised : {m : Moved} → Gives s call m → Gives s call m × Refuses ns m
    gives_promised G =
        (G, λ n h. let e : refused (number n) ≡ granted call = ap answered (sym h) ∙ G.answer in split_answer call (λ k d. only_at o (cc)) (λ w d. clash (cc)))

    module _ {os : List ℕ} where
      -- a test stops it
      pub gives_stops : {n : Refusal} → Tested Γ locals os (value s) ops args ok (number n) → Gives s call (moved (Err n) s) × Refuses ns (moved (Err n) s)
      gives_stops {n} t =
          let c = call_stops t (λ E q. a q E >>= given_back Γ) (number_some n) in
          gives_promised (record { answer = ap granted (sym c); moved = λ w d. clash (cc); kept = λ n d. refl })

      -- it is done
      pub gives_goes : Tested Γ locals os (value s) ops args ok 0 → {m : Moved} → Wherever Γ locals s ops args (λ E q. Moves Γ locals s (a q E) m)
          → Gives s call m × Refuses ns m
      gives_goes t P =
          let (E, q, d, p, k) = tested_both t refl in
          gives_promised (gives_of (call_goes t (λ E q. a q E >>= given_back Γ) refl d p k) (P E q (decode_holds Γ locals (value s) E d) p))
