-- Used, continued from specs/Used: theorems that rest on others.
use Rattle.std.specs.Prelude.{◌≡◌, true, false, List, [], take}
use Rattle.std.proofs.Common.{◌∙◌}
use Rattle.std.proofs.Math.Path.{ap}
use Rattle.std.proofs.Math.Option.{some}
use Prim.Native.Nat.{ℕ, zero, suc, ◌≤◌}
use Rattle.std.proofs.Math.ListN.{length}
use borrow.Author.Tests.{le-leb}
use Rattle.model.specs.Answer.{done}
use Rattle.model.specs.Tree.{Forest, nil, more, sizes, unfolded}
use Rattle.model.specs.State.{State, most, encode, decode}
use Rattle.model.specs.Place.{Place, Spot, Fold, Unfold, At, walked, base, used_ok}
use Rattle.model.specs.Walk.{nth, walk, pick, changed, reached, passed, project_at, fitting, projection}
use Rattle.model.specs.Calls.{typed, taken, placed, spot_of, nothing, recorded_verb, recorded_as, statement_ok, statement_at, call_projection}
use Rattle.model.specs.Replay.{Quiet}
use Rattle.model.specs.Promised.{UsePromise}
use Rattle.base.specs.Tests.{split, clash}
use Rattle.base.specs.Answer.{Good, good_done, good_bind, good_self, good_at, then_done}
use Rattle.laws.specs.Places.{used_limits, used_fold, used_unfold, base_first}
use Rattle.laws.proofs.Projection.{projection_quiet}
use Rattle.laws.specs.Passed.{began, passed_all}
use Rattle.records.specs.Encode.{encode_decode}
use Rattle.records.specs.Spots.{spot_front}
use Rattle.calls.specs.Tested.{Passing, good_typed, good_taken, good_placed, valid_decode}
use Rattle.calls.specs.Used.{Promise, after, are, carried, carry_one, kept, led, led_kept, project_rests}

-- A QUIET PLACE

module _ (Γ : List ℕ) where
  -- of one of several
  project_at_rests : (i : ℕ) (p : Place) (E : Forest) → nth i (walk Γ done p) E ≡ done E → changed Γ p (pick i E) ≡ false
      → unfolded (reached Γ p (pick i E)) ≡ false → project_at Γ i p E ≡ done (E, [])
  unfolding project_at
  project_at_rests i p nil w c f = clash (cc)
  project_at_rests zero p (more s ss) w c f =
      let (u, a, b) = then_done (walk Γ done p s) w in
      cc (project_rests Γ p s (cc) c f)
  project_at_rests (suc i) p (more s ss) w c f =
      let (us, a, b) = then_done (nth i (walk Γ done p) ss) w in
      cc (project_at_rests i p ss (cc) c f)

  -- and of a state
  projection_rests : (q : Spot) (E : Forest) → Quiet Γ q E → sizes E ≤ most → projection Γ q E ≡ done (E, [])
  unfolding projection fitting
  projection_rests q E k l = cc (project_at_rests q.local q.place E k.walks k.unchanged k.folded, le-leb (sizes E) most l)

-- THE CALL

module _ (Γ locals : List ℕ) (p : Passing Γ locals) (s : State) (ops args : List ℕ) {E : Forest} {q : Spot} {r : Forest × List At}
    (sd : decode Γ locals s ≡ some E) (qd : spot_of ops args ≡ some q) (ok : used_ok (length locals) q ≡ true) (e : projection Γ q E ≡ done r) where
  -- the same use once more
  used_again : call_projection Γ locals (encode Γ r.0) ops args ≡ done (nothing, length (walked q.place), encode Γ r.0)
  unfolding call_projection typed taken placed recorded_as
  used_again =
      let Q = good_at (projection_quiet Γ q E (used_limits (length locals) q ok).plain) e in
      cc (
        p.types,
        p.typed,
        valid_decode Γ locals p.types (after Γ locals p s ops args sd qd ok e),
        qd,
        ok,
        projection_rests Γ q r.0 Q (after Γ locals p s ops args sd qd ok e).small,
        passed_all Γ q.place (pick q.local r.0) Q.unchanged,
      )

  -- what is recorded
  pub used : UsePromise Γ locals s ops args (recorded_as r.1) (passed Γ q.place (pick q.local E)) (encode Γ r.0)
  unfolding recorded_as recorded_verb statement_ok statement_at
  used =
      let x = changed Γ q.place (pick q.local E) in
      let y = unfolded (reached Γ q.place (pick q.local E)) in
      record {
        again = λ t d. let z : q ≡ t = cc in rw (← z) used_again;
        unchanged = λ h. split x (λ a. clash (cc (are Γ locals p s ops args sd qd ok e))) (λ a. split y (λ b. clash (cc (are Γ locals p s ops args sd qd ok e)))
            (λ b. let d : E ≡ r.0 = cc (are Γ locals p s ops args sd qd ok e, led Γ locals p s ops args sd qd ok e) in rw (← d) (encode_decode Γ locals s E sd)));
        folds = λ h. split x (λ a. clash (cc (are Γ locals p s ops args sd qd ok e))) (λ a. split y
            (λ b. carried Γ locals p s ops args sd qd ok e Fold ops args q qd (used_fold (length locals) q ok) (carry_one Γ (statement_at Γ locals Fold q) E r.0 (cc (kept Γ locals p s ops args sd qd ok e, led_kept Γ locals p s ops args sd qd ok e))))
            (λ b. clash (cc (are Γ locals p s ops args sd qd ok e))));
        unfolds = λ n h. split x
            (λ a.
            let t : Spot = record { local = q.local; place = base q.place } in
            let l : n ≡ length (base q.place) = cc (are Γ locals p s ops args sd qd ok e) in
            carried Γ locals p s ops args sd qd ok e Unfold (take (suc n) ops) (take (suc n) args) t
            (rw l (spot_front ops args q (length (base q.place)) qd ∙ ap (λ (z : Place). some (record { local = q.local; place = z })) (base_first q.place)))
            (used_unfold (length locals) q ok) (carry_one Γ (statement_at Γ locals Unfold t) E r.0 (cc (kept Γ locals p s ops args sd qd ok e, led_kept Γ locals p s ops args sd qd ok e))))
            (λ a. split y (λ b. clash (cc (are Γ locals p s ops args sd qd ok e))) (λ b. clash (cc (are Γ locals p s ops args sd qd ok e))));
        began = λ t D n d f h. split x
            (λ a. let z : q ≡ t = cc in let u : E ≡ D = cc in rw (← z, ← u) (began Γ q.place (pick q.local E) a))
            (λ a. split y (λ b. clash (cc (are Γ locals p s ops args sd qd ok e))) (λ b. clash (cc (are Γ locals p s ops args sd qd ok e))));
      }

module _ (Γ locals : List ℕ) (s : State) (ops args : List ℕ) where
  -- what the call `projection` promises of what it records and of the state that it gives
  pub call_used : Good (Promise Γ locals s ops args) (call_projection Γ locals s ops args)
  unfolding call_projection
  call_used = good_typed (Promise Γ locals s ops args) Γ locals _ (λ p. good_taken (Promise Γ locals s ops args) Γ locals s _ (λ E sd. good_placed (Promise Γ locals s ops args) Γ locals (used_ok (length locals)) ops args _ (λ q qd ok.
      good_bind (good_self (projection Γ q E)) (λ r e. good_done (used Γ locals p s ops args sd qd ok e)))))
