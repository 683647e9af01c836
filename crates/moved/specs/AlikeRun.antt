-- Function records that differ in their local types alone run alike: a block's own run, the frame, the shares of the join points.
use Rattle.std.specs.Prelude.{◌≡◌, ℕ, ◌-◌, ltb}
use Rattle.std.proofs.Math.Path.{refl, fun_ext}
use Rattle.std.proofs.Math.Bool.{true, false}
use mathlib.Core.List.{List, [], ◌∷◌, ◌++◌}
use Rattle.std.proofs.Math.Option.{Option, none, some}
use Rattle.model.specs.Answer.{refused, done, ◌>>=◌}
use Rattle.model.specs.Tree.{Forest}
use Rattle.model.specs.State.{State}
use Rattle.model.specs.Place.{Spot}
use Rattle.model.specs.Frame.{mark}
use Rattle.model.specs.Collect.{folds_at_ret}
use Rattle.model.specs.Body.{Left, pass_stations, variant_of, without, only, variants, choice, open_variant, match_targets, match_exits, exits_of, ret_lines, body, frame}
use Rattle.model.specs.Whole.{shares}
use Rattle.moved.specs.Alike.{Alike, rank_alike, stop_alike, stations_alike, targets_alike, is_join_point_alike, returns_alike, matched_alike, is_arm_alike, arm_value_alike}

module _ {fn gn : List ℕ} (a : Alike fn gn) where
  -- what a match's target opens, and what it leaves
  choice_alike : choice gn ≡ choice fn
  unfolding choice
  choice_alike = λ k i ds. elim (is_arm_alike a k i) [
    | true ↦ elim (variant_of (arm_value_alike a k i) ds) [
      | none ↦ refused 8
      | some v ↦ done (record { opens = some v; remain = without (arm_value_alike a k i) ds })
    ]
    | false ↦ done (record { opens = only ds; remain = ds })
  ]

  module _ (Γ : List ℕ) where
    -- the variant opened
    open_variant_alike : (q : Spot) (o : Option ℕ) (E : Forest) → open_variant Γ gn q o E ≡ open_variant Γ fn q o E
    unfolding open_variant
    open_variant_alike q none E = refl
    open_variant_alike q (some v) E = refl

    -- what a match's targets do to the state
    match_targets_alike : (q : Spot) (E : Forest) (ts : List (ℕ × ℕ)) (ds : Left) → match_targets Γ gn q E ts ds ≡ match_targets Γ fn q E ts ds
    unfolding match_targets
    match_targets_alike q E [] ds = refl
    match_targets_alike q E (t ∷ ts) ds = λ k. choice_alike k t.0 ds >>= λ c. open_variant_alike q c.opens E k >>= λ D.
        match_targets_alike q E ts c.remain k >>= λ xs. done (record { item = t.0; block = t.1; state = D } ∷ xs)

    -- the exits of a match
    match_exits_alike : (q : Spot) (ts : List (ℕ × ℕ)) (E : Forest) (o : Option ℕ) → match_exits Γ gn q ts E o ≡ match_exits Γ fn q ts E o
    unfolding match_exits
    match_exits_alike q ts E none = refl
    match_exits_alike q ts E (some t) = match_targets_alike q E ts (variants Γ t)

    -- the exits of a block
    exits_of_alike : (o : Option Spot) (ts : List (ℕ × ℕ)) (E : Forest) → exits_of Γ gn o ts E ≡ exits_of Γ fn o ts E
    unfolding exits_of
    exits_of_alike none ts E = refl
    exits_of_alike (some q) ts E = rw (fun_ext (match_exits_alike q ts E))

    -- what a return records
    ret_lines_alike : (b : ℕ) (E : Forest) → ret_lines Γ gn b E ≡ ret_lines Γ fn b E
    unfolding ret_lines
    ret_lines_alike b E = λ k. elim (returns_alike a k b) [ true ↦ mark (stop_alike a k b - 1) (folds_at_ret Γ (a.args k) E) | false ↦ [] ]

    -- a block's own run
    body_alike : (b : ℕ) (E : Forest) → body Γ gn b E ≡ body Γ fn b E
    unfolding body
    body_alike b E = λ k. pass_stations Γ (stations_alike a k b) E >>= λ r. exits_of_alike (matched_alike a k b) (targets_alike a k b) r.0 k >>= λ xs.
        done (record { lines = r.1 ++ ret_lines_alike b r.0 k; exits = xs })

    -- the frame
    pub frame_alike : frame Γ gn ≡ frame Γ fn
    unfolding frame
    frame_alike = λ k. record {
      blocks = a.blocks k;
      join_point = is_join_point_alike a k;
      rank = rank_alike a k;
      targets = targets_alike a k;
      entry = a.items k;
      body = λ b E. elim (ltb b (a.blocks k)) [ true ↦ body_alike b E k | false ↦ refused 0 ];
      join = (frame Γ fn).join;
      changed = (frame Γ fn).changed;
      room = (frame Γ fn).room;
      cost = (frame Γ fn).cost;
      top = (frame Γ fn).top;
      collect = (frame Γ fn).collect;
      carry = (frame Γ fn).carry;
    }

    -- the shares of all join points
    pub shares_alike : (part : State → List ℕ) (kept : ℕ → Option Forest) → shares Γ gn part kept ≡ shares Γ fn part kept
    unfolding shares
    shares_alike part kept = rw (is_join_point_alike a, a.blocks)
