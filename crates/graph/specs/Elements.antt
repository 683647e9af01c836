-- Document 02, F-1, said of the definitions: a match whose place read holds an index; and one whose place holds none, of which all is
-- as document 01 has it.
use Rattle.std.specs.Prelude.{◌≡◌, true, false, List, [], ◌∷◌, ℕ}
use Rattle.std.proofs.Math.Option.{some}
use Rattle.model.specs.Answer.{refused, done, ◌>>=◌}
use Rattle.model.specs.Tree.{Forest}
use Rattle.model.specs.Place.{Spot, no_index}
use Rattle.model.specs.Walk.{walk_at, enum_at, subject_at}
use Rattle.model.specs.Frame.{Exit}
use Rattle.model.specs.Body.{variants, match_targets, unopened, match_exits, exits_of}
use Rattle.model.specs.Replay.{opens_at, cast_maybe, own}
use Rattle.base.specs.Answer.{split_answer}
use Rattle.base.specs.Each.{Each, each_none, each_more}

-- what holds of every exit in the state as it is
pub unopened_each : (P : Exit Forest → Type 0) (E : Forest) → ((t : ℕ × ℕ) → P (record { item = t.0; block = t.1; state = E })) → (ts : List (ℕ × ℕ)) → Each P (unopened ts E)
unfolding unopened
unopened_each P E f [] = each_none
unopened_each P E f (t ∷ ts) = each_more (f t) (unopened_each P E f ts)

module _ (Γ fn : List ℕ) (q : Spot) (ts : List (ℕ × ℕ)) (E : Forest) where
  -- AN INDEX
  module _ (h : no_index q.place ≡ false) where
    -- "its arms and its otherwise target leave the state unchanged, and arm values aren't looked up"
    pub element_exits : {D : Forest} → walk_at Γ q E ≡ done D → exits_of Γ fn (some q) ts E ≡ done (unopened ts E)
    unfolding exits_of subject_at match_exits
    element_exits e = rw (h, subject_at, e)

    -- "an index that the walk accepts": a refusal of the walk stands
    pub element_refused : {n : ℕ} → walk_at Γ q E ≡ refused n → exits_of Γ fn (some q) ts E ≡ refused n
    unfolding exits_of subject_at
    element_refused e = rw (h, subject_at, e)

    -- "the replay rule reads a target's own unfolding as nothing in that case"
    pub element_own : (i : ℕ) → own Γ fn i ts (some q) E ≡ done E
    unfolding own
    element_own i = rw (h, own)

  -- NONE
  module _ (h : no_index q.place ≡ true) where
    -- the type first, then the targets in order, each by its variant
    pub enum_exits : exits_of Γ fn (some q) ts E ≡ (enum_at Γ q E >>= λ t. match_targets Γ fn q E ts (variants Γ t))
    unfolding exits_of subject_at match_exits
    enum_exits = split_answer (enum_at Γ q E) (λ n e. rw (h, subject_at, e)) (λ t e. rw (h, subject_at, e))

    -- and the same of the replay
    pub enum_own : (i : ℕ) → own Γ fn i ts (some q) E ≡ (enum_at Γ q E >>= λ t. opens_at Γ fn i ts (variants Γ t) >>= λ o. cast_maybe Γ q o E)
    unfolding own
    enum_own i = rw (h, own)
