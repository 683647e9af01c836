-- The place before an item, used: what its projection asks, and that the code leaves what the item's run says.
use mathlib.Core.Path.{◌≡◌, refl, ap, ◌∙◌}
use mathlib.Core.Bool.{Bool, true}
use mathlib.Core.List.{List, ◌∷◌, append-nil}
use mathlib.Core.Option.{some}
use Prim.Native.Nat.{ℕ, suc, ◌+◌, ◌≤◌, ◌<◌}
use Rattle.std.specs.Prelude.{Ok, Err}
use native.Mathlib.Omega.{arith}
use lib.ListN.{length, take}
use Rattle.model.specs.Answer.{Answer, done, ◌>>=◌}
use Rattle.model.specs.State.{pairs}
use Rattle.model.specs.Tree.{Forest}
use Rattle.model.specs.Place.{At}
use Rattle.model.specs.Walk.{pick, projection}
use Rattle.model.specs.Function.{nlocals, nitems, local_types}
use Rattle.model.specs.Block.{root_before, spot_before, uses_place, entry_point}
use Rattle.model.specs.Frame.{Line, mark}
use Rattle.model.specs.Record.{Entry, point_entry}
use Rattle.model.specs.Calls.{spot_of}
use Rattle.base.specs.Answer.{bind_same}
use Rattle.base.specs.Function.{FunctionFacts, function_facts}
use Rattle.laws.specs.Places.{used_limits}
use Rattle.laws.specs.Passed.{passed_most}
use Rattle.records.specs.Here.{Holds}
use Rattle.graph.specs.Used.{place_used}
use Rattle.mir.specs.Parts.{ops_part, args_part}
use Rattle.refusal.specs.Refusal as refusals
use Rattle.refusal.specs.declared.Refusal.{Refusal}
use Rattle.state.specs.Value.{value}
use Rattle.state.specs.declared.nodes.State.{State}
use Rattle.statements.specs.Kept.{Counted}
use Rattle.statements.specs.declared.Out.{Out}
use Rattle.env.specs.Answers.{usage, Projects}
use Rattle.env.specs.There.{ProjectsThere}
use Rattle.env.specs.declared.project.Projected.TheVariants.{Nothing, Fold, Unfold}
use Rattle.env.specs.declared.project.Use.{Use}
use Rattle.env.specs.declared.project.Usage.{Usage}
use Rattle.blocks.specs.Accepted.{Accepted}
use Rattle.statements.specs.Points.{point, Says, Tells}
use Rattle.body.specs.Uses.{uses, Passes}
use Rattle.body.proofs.Places.{place_spot, place_there}
use Rattle.body.proofs.Runs.{Run, behind, uses_pass, uses_none}
use Rattle.body.proofs.Answered.{same_refused}
use Rattle.body.proofs.Told.{number, answer_told, answer_nothing, answer_fold, answer_unfold, fold_entries, unfold_entries, unfold_short}
use Rattle.body.proofs.Passing.{tells_none, tells_one, refused_passes, done_passes}

module _ {Γ os fn : List ℕ} (A : Accepted Γ os fn) (i : ℕ) (l : i < nitems fn) (u : uses_place fn i ≡ true) where
  -- the laws of crate graph hold
  abbrev F : FunctionFacts fn
  F = function_facts Γ fn A.function

  -- statements, at the item's point
  abbrev at_point : Bool → Answer (Forest × List At) → Answer Run
  at_point entry a = a >>= λ r. done (r.0, mark (point fn entry i) r.1)

  -- the item's run is its place's projection
  one_run : (entry : Bool) (E : Forest) → uses Γ fn entry 1 i E ≡ at_point entry (projection Γ (spot_before fn i) E)
  one_run entry E = uses_pass Γ fn entry i u 0 E ∙ bind_same (projection Γ (spot_before fn i) E) (λ r.
      ap (behind (mark (point fn entry i) r.1)) (uses_none Γ fn entry (suc i) r.0) ∙ ap (λ (ls : List (Line At)). done (r.0, ls)) (append-nil _))

  module _ {r : ℕ} (root : r ≡ root_before fn i) (locals ops args : List ℕ) (t : locals ≡ local_types fn) (p : ops ≡ ops_part fn r i) (q : args ≡ args_part fn r i) where
    -- the items are the place
    here : spot_of ops args ≡ some (spot_before fn i)
    here = place_spot A l u root locals ops args t p q

    module _ {s : State} {E : Forest} (h : Holds Γ (local_types fn) (value s) E) where
      -- what a projection ensures
      projects : {r : Usage} → ProjectsThere Γ locals s ops args r → Projects Γ locals s (number Γ (spot_before fn i) E) (projection Γ (spot_before fn i) E) r
      projects H = place_there A l u root locals ops args t p q H E h

      -- a refusal, whatever state it leaves
      pub placed_refused : {e : Refusal} {s' : State} → ProjectsThere Γ locals s ops args (usage (Err e) s') → (entry : Bool) {out : List ℕ} {o : Out}
          → Passes Γ fn out o out (uses Γ fn entry 1 i E) (Err e) s'
      placed_refused {e} H entry =
          let d = same_refused (projection Γ (spot_before fn i) E) _ (projects H).answer in
          refused_passes (refusals.number e) (one_run entry E ∙ ap (at_point entry) d) refl refl

      module _ {y : Use} {s' : State} (H : ProjectsThere Γ locals s ops args (usage (Ok y) s')) where
        -- an unfold's items are among the place's
        pub placed_short : {n : ℕ} → y.recorded ≡ Unfold n → (n + 1 ≤ length ops) × (n + 1 ≤ length args)
        placed_short e =
            let (w, d, (k, m)) = answer_unfold Γ (spot_before fn i) E (projects H).answer e in
            unfold_short ops args (spot_before fn i) here m

        -- its number is model's, and small: the place has 128 elements at the most
        number_small : number Γ (spot_before fn i) E < 255
        number_small = omega (arith, passed_most Γ (spot_before fn i).place (pick (spot_before fn i).local E), (used_limits (nlocals fn) (spot_before fn i) (place_used F A.places l u)).short)

        pub placed_small : y.passed < 255
        placed_small = omega (arith, answer_told Γ (spot_before fn i) E (projects H).answer, number_small)

        module _ (entry : Bool) {out : List ℕ} {o : Out} where
          -- a state, and lines
          placed_done : {out' : List ℕ} {o' : Out} {w : Forest × List At} → projection Γ (spot_before fn i) E ≡ done w
              → Tells fn out o out' o' (mark (point fn entry i) w.1) → Passes Γ fn out o out' (uses Γ fn entry 1 i E) (Ok o') s'
          placed_done {w = w} d T = done_passes (one_run entry E ∙ ap (at_point entry) d) (rw t at ((projects H).moved w d)) T

          -- nothing to record
          pub placed_nothing : y.recorded ≡ Nothing → Counted out o → Passes Γ fn out o out (uses Γ fn entry 1 i E) (Ok o) s'
          unfolding mark
          placed_nothing e C =
              let (w, d, k) = answer_nothing Γ (spot_before fn i) E (projects H).answer e in
              placed_done d (rw k (tells_none fn C))

          module _ {out' : List ℕ} {o' : Out} {at : Entry} (a : at ≡ point_entry (entry_point fn) (point fn entry i)) where
            -- a fold
            pub placed_fold : y.recorded ≡ Fold
                → Says out o out' o' (at ∷ (15, 1) ∷ pairs (take (length ops) ops) (take (length ops) args))
                → Passes Γ fn out o out' (uses Γ fn entry 1 i E) (Ok o') s'
            placed_fold e S =
                let (w, d, k) = answer_fold Γ (spot_before fn i) E (projects H).answer e in
                let (m, n) = fold_entries ops args (spot_before fn i) here (entry_point fn) (point fn entry i) k in
                placed_done d (tells_one (mark (point fn entry i) w.1) m (n ∙ rw a) S)

            -- an unfold
            pub placed_unfold : {n : ℕ} → y.recorded ≡ Unfold n
                → Says out o out' o' (at ∷ (16, suc y.passed) ∷ pairs (take (n + 1) ops) (take (n + 1) args))
                → Passes Γ fn out o out' (uses Γ fn entry 1 i E) (Ok o') s'
            placed_unfold e S =
                let (w, d, (k, b)) = answer_unfold Γ (spot_before fn i) E (projects H).answer e in
                let (m, n) = unfold_entries ops args (spot_before fn i) here (entry_point fn) (point fn entry i) k number_small b in
                placed_done d (tells_one (mark (point fn entry i) w.1) m (n ∙ rw (a, answer_told Γ (spot_before fn i) E (projects H).answer)) S)
