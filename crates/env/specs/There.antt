-- What the calls within a run give, in every state that is held, or that their arrays hold, and at the place that the items are.
use Rattle.std.specs.Prelude.{◌≡◌, List, ℕ, length, Option, Result}
use Rattle.std.proofs.Math.Bool.{true}
use Rattle.std.proofs.Math.Option.{some}
use Rattle.model.specs.Answer.{done, ◌>>=◌}
use Rattle.model.specs.Tree.{Forest, sizes}
use Rattle.model.specs.Place.{Verb, Spot, fold_ok, unfold_ok}
use Rattle.model.specs.Walk.{pick, passed, projection, downcasting, subject_at}
use Rattle.model.specs.Collect.{firsts}
use Rattle.model.specs.Calls.{spot_of}
use Rattle.records.specs.Here.{Holds}
use Rattle.refusal.specs.Refusal.{answered}
use Rattle.refusal.specs.declared.Refusal.{Refusal}
use Rattle.state.specs.Value.{value, state_in}
use Rattle.state.specs.declared.nodes.State.{State}
use Rattle.walk.specs.Fresh.{distance}
use Rattle.walk.specs.Applied.{element}
use Rattle.walk.specs.Site.{Walks}
use Rattle.walk.specs.declared.step.More.{More}
use Rattle.walk.specs.declared.along.Walk.{Walk}
use Rattle.env.specs.declared.project.Usage.{Usage}
use Rattle.env.specs.declared.project.Moved.{Moved}
use Rattle.env.specs.declared.project.On.{On}
use Rattle.env.specs.Given.{Sited}
use Rattle.env.specs.Answers.{Projects, last_step, carrying, granted, Moves, Lasts, on_of}

-- one step more stays at its node
abbrev pub Staying : More → Type 0
Staying m = distance (element m) ≡ 0

module _ (Γ locals : List ℕ) (s : State) (ops args : List ℕ) where
  -- X of every state that s holds and the place that the items are
  abbrev pub Wherever : (Forest → Spot → Type 0) → Type 0
  Wherever X = (E : Forest) (q : Spot) → Holds Γ locals (value s) E → spot_of ops args ≡ some q → X E q

  -- the place is used: what is recorded, the number told with it, and the state after
  abbrev pub ProjectsThere : Usage → Type 0
  ProjectsThere r = Wherever (λ E q. Projects Γ locals s (passed Γ q.place (pick q.local E)) (projection Γ q E) r)

  -- a fold or an unfold of the place is carried out
  abbrev pub CarriesThere : Verb → Moved → Type 0
  CarriesThere v r = Wherever (λ E q. Moves Γ locals s (carrying Γ locals v q E) r)

  -- a downcast to the variant v at the place
  abbrev pub CastsThere : ℕ → Moved → Type 0
  CastsThere v r = Wherever (λ E q. Moves Γ locals s (downcasting Γ q v E) r)

  -- whether that would be refused
  abbrev pub CastableThere : ℕ → Result (Unit {0}) Refusal → Type 0
  CastableThere v r = Wherever (λ E q. answered r ≡ granted (downcasting Γ q v E))

  -- one step more at the place is carried out
  abbrev pub StepsThere : More → Moved → Type 0
  StepsThere m r = Wherever (λ E q. Moves Γ locals s (last_step Γ (element m) q E) r)

  -- what that step does
  abbrev pub LastsThere : More → Result (Option Walk) Refusal → Type 0
  LastsThere m r = Wherever (λ E q. Lasts Γ locals ops args s m (last_step Γ (element m) q E) r)

-- THE WALK ALONE, in arrays whose number of nodes is not told

module _ (Γ locals fs ws ops args : List ℕ) where
  -- where the walk of the place leads
  abbrev pub WalksThere : Result Walk Refusal → Type 0
  WalksThere r = (n : ℕ) → Wherever Γ locals (state_in fs ws n) ops args (λ E q. Walks Γ fs ws ops args (sizes (firsts q.local E)) q.place (pick q.local E) r)

  -- what a match on the place is on
  abbrev pub SubjectThere : Result On Refusal → Type 0
  SubjectThere r = (n : ℕ) → Wherever Γ locals (state_in fs ws n) ops args (λ E q. answered r ≡ subject_at Γ q E >>= λ o. done (on_of o))

-- WHERE THE WALK HAS ENDED, at w

-- the place is used there: it may be one of a fold
abbrev pub ProjectsAt : (Γ : List ℕ) (s : State) (ops args : List ℕ) → Walk → Usage → Type 0
ProjectsAt Γ s ops args w r =
    (d : Sited Γ s ops args w) → fold_ok (length d.locals) d.spot ≡ true
    → Projects Γ d.locals s (passed Γ d.spot.place (pick d.spot.local d.state)) (projection Γ d.spot d.state) r

module _ (Γ : List ℕ) (s : State) (w : Walk) where
  -- it is the walk of some place
  abbrev pub Arrived : Type 0
  Arrived = (ops args : List ℕ) × Sited Γ s ops args w

  -- what one step more does there: the place may be one of an unfold
  abbrev pub LastsAt : More → Result (Option Walk) Refusal → Type 0
  LastsAt m r =
      (ops args : List ℕ) (d : Sited Γ s ops args w) → unfold_ok (length d.locals) d.spot ≡ true
      → Lasts Γ d.locals ops args s m (last_step Γ (element m) d.spot d.state) r
