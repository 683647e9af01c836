-- One block's own run goes along with moved types (`body_moved`), and so the frame of a function (`frame_along`).
use Rattle.std.specs.Prelude.{◌≡◌, ltb}
use Rattle.std.proofs.Math.Path.{refl}
use Rattle.std.proofs.Common.{ap, arith}
use Rattle.std.proofs.Math.Bool.{false}
use mathlib.Core.List.{List, [], ◌∷◌, map}
use Rattle.std.proofs.Math.Option
use Rattle.std.proofs.Math.Option.{Option, none, some}
use Prim.Native.Nat.{ℕ, zero, suc, ◌+◌, ◌≤◌}
use Rattle.model.specs.Types.{kind, count}
use Rattle.model.specs.Tree.{Forest}
use Rattle.model.specs.Place.{Spot}
use Rattle.model.specs.Walk.{projection, subject_at}
use Rattle.model.specs.Function.{nargs, nblocks}
use Rattle.model.specs.Block.{Station, stations, targets, returns, matched}
use Rattle.model.specs.Body.{enter_uses, use_at, pass_stations, Left, variants_from, variants, choice, unopened, open_variant, match_targets, match_exits, exits_of, ret_lines, body, frame}
use Rattle.base.specs.Tests.{split}
use Rattle.base.specs.Answer.{split_answer, good_at, answer_map}
use Rattle.solver.specs.Along.{exit_map, work_map, Along}
use Rattle.moved.specs.Moves.{Moves}
use Rattle.moved.specs.Retyped.{retypes, sizes_moved, joins_moved, flagss_moved, measure_moved}
use Rattle.moved.specs.Collected.{collects_moved, folds_at_ret_moved}
use Rattle.moved.specs.Walked.{carry_at_moved}
use Rattle.moved.specs.Projected.{first_map, projection_moved, downcasting_moved, subject_at_moved, subject_at_kind}

-- targets that leave the state as it is
unopened_moved : (f : ℕ → ℕ) (ts : List (ℕ × ℕ)) (E : Forest) → unopened ts (retypes f E) ≡ map (exit_map (retypes f)) (unopened ts E)
unfolding unopened
unopened_moved f [] E = refl
unopened_moved f (t ∷ ts) E = ap (λ xs. record { item = t.0; block = t.1; state = retypes f E } ∷ xs) (unopened_moved f ts E)

module _ {f : ℕ → ℕ} {Γ Δ : List ℕ} (h : Moves f Γ Δ) where
  -- THE STATEMENTS

  -- places used at one point
  pub enter_uses_moved : (qs : List Spot) (E : Forest) → enter_uses Δ qs (retypes f E) ≡ answer_map (first_map (retypes f)) (enter_uses Γ qs E)
  unfolding enter_uses
  enter_uses_moved [] E = refl
  enter_uses_moved (q ∷ qs) E =
      let w = projection_moved h q E in
      split_answer (projection Γ q E)
      (λ r e. cc)
      (λ x e. split_answer (enter_uses Γ qs x.0) (λ r d. cc (enter_uses_moved qs x.0)) (λ y d. cc (enter_uses_moved qs x.0)))

  -- the place used at a point
  use_at_moved : (i : ℕ) (o : Option Spot) (E : Forest) → use_at Δ i o (retypes f E) ≡ answer_map (first_map (retypes f)) (use_at Γ i o E)
  unfolding use_at
  use_at_moved i none E = refl
  use_at_moved i (some q) E = split_answer (projection Γ q E) (λ r e. cc (projection_moved h q E)) (λ x e. cc (projection_moved h q E))

  -- a block's points
  pass_stations_moved : (ss : List Station) (E : Forest)
      → pass_stations Δ ss (retypes f E) ≡ answer_map (first_map (retypes f)) (pass_stations Γ ss E)
  unfolding pass_stations
  pass_stations_moved [] E = refl
  pass_stations_moved (s ∷ ss) E =
      let w = use_at_moved s.point s.used E in
      split_answer (use_at Γ s.point s.used E)
      (λ r e. cc)
      (λ x e. split_answer (pass_stations Γ ss x.0) (λ r d. cc (pass_stations_moved ss x.0)) (λ y d. cc (pass_stations_moved ss x.0)))

  -- THE MATCH

  -- the variants of an enum
  module _ (t : ℕ) (k : kind Γ t ≡ 7) where
    -- from v on
    variants_from_moved : (n v : ℕ) → n + v ≤ count Γ t → variants_from Δ (f t) n v ≡ variants_from Γ t n v
    unfolding variants_from
    variants_from_moved zero v l = refl
    variants_from_moved (suc n) v l = cc (h.discriminants t v k (omega arith), variants_from_moved n (suc v) (omega arith))

    -- all of them
    variants_moved : variants Δ (f t) ≡ variants Γ t
    unfolding variants
    variants_moved = cc (h.counts t k, variants_from_moved (count Γ t) 0 (omega arith))

  module _ (fn : List ℕ) where
    -- what a target opens
    open_variant_moved : (q : Spot) (o : Option ℕ) (E : Forest)
        → open_variant Δ fn q o (retypes f E) ≡ answer_map (retypes f) (open_variant Γ fn q o E)
    unfolding open_variant
    open_variant_moved q none E = refl
    open_variant_moved q (some v) E = downcasting_moved h q v E

    -- what the targets of a match do to the state
    match_targets_moved : (q : Spot) (E : Forest) (ts : List (ℕ × ℕ)) (ds : Left)
        → match_targets Δ fn q (retypes f E) ts ds ≡ answer_map (map (exit_map (retypes f))) (match_targets Γ fn q E ts ds)
    unfolding match_targets
    match_targets_moved q E [] ds = refl
    match_targets_moved q E (t ∷ ts) ds = split_answer (choice fn t.0 ds)
        (λ r e. cc)
        (λ c e.
        let w = open_variant_moved q c.opens E in
        let z = match_targets_moved q E ts c.remain in
        split_answer (open_variant Γ fn q c.opens E)
        (λ r d. cc)
        (λ D d. split_answer (match_targets Γ fn q E ts c.remain) (λ r b. cc) (λ xs b. cc)))

    -- the exits of a match, on an enum if on a type at all
    match_exits_moved : (q : Spot) (ts : List (ℕ × ℕ)) (E : Forest) (o : Option ℕ) → ((t : ℕ) → o ≡ some t → kind Γ t ≡ 7)
        → match_exits Δ fn q ts (retypes f E) (Option.map f o) ≡ answer_map (map (exit_map (retypes f))) (match_exits Γ fn q ts E o)
    unfolding match_exits
    match_exits_moved q ts E none k = cc (unopened_moved f ts E)
    match_exits_moved q ts E (some t) k = cc (variants_moved t (k t refl), match_targets_moved q E ts (variants Γ t))

    -- the exits of a block
    exits_of_moved : (o : Option Spot) (ts : List (ℕ × ℕ)) (E : Forest)
        → exits_of Δ fn o ts (retypes f E) ≡ answer_map (map (exit_map (retypes f))) (exits_of Γ fn o ts E)
    unfolding exits_of
    exits_of_moved none ts E = cc (unopened_moved f ts E)
    exits_of_moved (some q) ts E =
        let w = subject_at_moved h q E in
        split_answer (subject_at Γ q E)
        (λ r e. cc)
        (λ o e. cc (match_exits_moved q ts E o (good_at (subject_at_kind Γ q E) e)))

    -- what a return records
    ret_lines_moved : (b : ℕ) (E : Forest) → ret_lines Δ fn b (retypes f E) ≡ ret_lines Γ fn b E
    unfolding ret_lines
    ret_lines_moved b E = split (returns fn b) (λ e. cc (folds_at_ret_moved h (nargs fn) E)) (λ e. cc)

    -- ONE BLOCK, from its start to its exits
    pub body_moved : (b : ℕ) (E : Forest) → body Δ fn b (retypes f E) ≡ answer_map (work_map (retypes f)) (body Γ fn b E)
    unfolding body
    body_moved b E =
        let w = pass_stations_moved (stations fn b) E in
        split_answer (pass_stations Γ (stations fn b) E)
        (λ r e. cc)
        (λ x e.
        let z = exits_of_moved (matched fn b) (targets fn b) x.0 in
        split_answer (exits_of Γ fn (matched fn b) (targets fn b) x.0)
        (λ r d. cc)
        (λ xs d. cc (ret_lines_moved b x.0)))

    -- THE FRAME OF A FUNCTION: moving types goes along with it
    pub frame_along : Along (frame Γ fn) (frame Δ fn) (retypes f)
    unfolding frame
    frame_along = record {
      blocks = refl;
      join_points = λ b. refl;
      ranks = λ b. refl;
      entry = refl;
      bodies = λ b E. split (ltb b (nblocks fn)) (λ e. cc (body_moved b E)) (λ e. cc);
      joins = joins_moved h false;
      changes = λ S E. cc (flagss_moved h false S E);
      rooms = λ E. cc (sizes_moved f E);
      costs = measure_moved h;
      tops = refl;
      collects = collects_moved h;
      carrying = carry_at_moved h;
    }
