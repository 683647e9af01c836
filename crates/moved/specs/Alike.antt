-- Two function records that differ in their local types alone say the same: every word behind those types, refusals 2 and 4, the
-- points, targets and matches of the blocks. Laws over a : Alike fn gn, in the order of model's Function and Block.
use Rattle.std.specs.Prelude.{◌≡◌, ◌&&◌, ◌||◌, length, ltb}
use Rattle.std.proofs.Math.Path.{refl, fun_ext}
use Rattle.std.proofs.Common.{subst, arith}
use Rattle.std.proofs.Math.Bool.{true, false}
use mathlib.Core.List.{List, [], ◌∷◌}
use Rattle.std.proofs.Math.Option.{none, some}
use Prim.Native.Nat.{ℕ, zero, suc, ◌+◌, ◌-◌, ◌≤◌}
use Rattle.std.proofs.Math.Dec.{eqb}
use Rattle.model.specs.Words.{word, collect_from}
use Rattle.model.specs.State.{locals_ok}
use Rattle.model.specs.Place.{Spot, used_ok, same_spot}
use Rattle.model.specs.Function.{nlocals, nargs, nblocks, nitems, local_types, start, rank, op, arg, stop, may_follow, after, arg_ok, function_sizes, starts_ok, ranks_ok, items_from, items_ok, function_ok}
use Rattle.model.specs.Block.{root_before, elems, spot_before, uses_place, place_ok, places_ok, is_station, station, stations, entry_uses, targets, incoming, is_join_point, join_points, returns, latest_note, place_read, match_at, matched, is_arm, arm_value}

-- the sizes are the same, and so is every word behind the local types
pub record Alike (fn gn : List ℕ) : Type 0 where
  pub locals : nlocals gn ≡ nlocals fn
  pub args : nargs gn ≡ nargs fn
  pub blocks : nblocks gn ≡ nblocks fn
  pub items : nitems gn ≡ nitems fn  -- and so is the entry's point
  pub long : length gn ≡ length fn
  pub behind : (i : ℕ) → word gn (4 + nlocals fn + i) ≡ word fn (4 + nlocals fn + i)

module _ {fn gn : List ℕ} (a : Alike fn gn) where
  -- THE WORDS

  -- a word at k, behind the local types
  word_alike : (k : ℕ) → 4 + nlocals fn ≤ k → word gn k ≡ word fn k
  word_alike k h = subst (λ (j : ℕ). word gn j ≡ word fn j) (omega arith) (a.behind (k - (4 + nlocals fn)))

  -- the starts
  start_alike : start gn ≡ start fn
  unfolding start
  start_alike = fun_ext (λ b. rw a.locals (a.behind b))

  -- the ranks
  pub rank_alike : rank gn ≡ rank fn
  unfolding rank
  rank_alike = fun_ext (λ b. rw (a.locals, a.blocks) (word_alike _ (omega arith)))

  -- the codes of the items
  op_alike : op gn ≡ op fn
  unfolding op
  op_alike = fun_ext (λ i. rw (a.locals, a.blocks) (word_alike _ (omega arith)))

  -- their args
  arg_alike : arg gn ≡ arg fn
  unfolding arg
  arg_alike = fun_ext (λ i. rw (a.locals, a.blocks, a.items) (word_alike _ (omega arith)))

  -- the ends of the blocks
  pub stop_alike : stop gn ≡ stop fn
  unfolding stop
  stop_alike = fun_ext (λ b. rw (a.blocks, a.items, start_alike))

  -- REFUSAL 2

  -- an arg passes
  arg_ok_alike : arg_ok gn ≡ arg_ok fn
  unfolding arg_ok
  arg_ok_alike = fun_ext (λ i. rw (a.blocks, op_alike, arg_alike))

  -- the sizes pass
  function_sizes_alike : function_sizes gn ≡ function_sizes fn
  unfolding function_sizes
  function_sizes_alike = rw (a.locals, a.args, a.blocks, a.items, a.long)

  -- the starts pass
  starts_ok_alike : starts_ok gn ≡ starts_ok fn
  unfolding starts_ok
  starts_ok_alike = rw (start_alike, stop_alike, a.items, a.blocks)

  -- the ranks pass
  ranks_ok_alike : ranks_ok gn ≡ ranks_ok fn
  unfolding ranks_ok
  ranks_ok_alike = rw (rank_alike, a.blocks)

  -- the items from i on pass
  items_from_alike : (n i b before : ℕ) → items_from gn n i b before ≡ items_from fn n i b before
  unfolding items_from
  items_from_alike zero i b before = refl
  items_from_alike (suc n) i b before = λ k. elim (ltb b (a.blocks k) && eqb i (start_alike k b)) [
    | true ↦ elim ((eqb before 0 || eqb before 8) && may_follow 2 (op_alike k i) && arg_ok_alike k i) [
      | true ↦ items_from_alike n (suc i) (suc b) (after 2 (op_alike k i)) k
      | false ↦ false
    ]
    | false ↦ elim (may_follow before (op_alike k i) && arg_ok_alike k i) [
      | true ↦ items_from_alike n (suc i) b (after before (op_alike k i)) k
      | false ↦ false
    ]
  ]

  -- all items pass
  items_ok_alike : items_ok gn ≡ items_ok fn
  unfolding items_ok
  items_ok_alike = rw a.items (items_from_alike (nitems fn) 0 0 0)

  -- the record passes, where its local types do
  pub function_ok_alike : (Γ Δ : List ℕ) → locals_ok Γ (local_types gn) ≡ locals_ok Δ (local_types fn) → function_ok Γ gn ≡ function_ok Δ fn
  unfolding function_ok
  function_ok_alike Γ Δ e = rw (function_sizes_alike, e, starts_ok_alike, ranks_ok_alike, items_ok_alike)

  -- PLACES, AND REFUSAL 4

  -- the last root before an item
  root_here : (i : ℕ) → root_before gn i ≡ root_before fn i
  unfolding root_before
  root_here zero = refl
  root_here (suc j) = λ k. elim (eqb (op_alike k j) 0) [ true ↦ j | false ↦ root_here j k ]

  -- as a function
  root_before_alike : root_before gn ≡ root_before fn
  root_before_alike = fun_ext root_here

  -- the elements of a place
  elems_alike : (n i : ℕ) → elems gn n i ≡ elems fn n i
  unfolding elems
  elems_alike zero i = refl
  elems_alike (suc n) i = rw (op_alike, arg_alike, elems_alike n (suc i))

  -- the place that ends before an item
  spot_before_alike : spot_before gn ≡ spot_before fn
  unfolding spot_before
  spot_before_alike = fun_ext (λ i. rw (arg_alike, root_before_alike, elems_alike _ _))

  -- an item uses its place
  uses_place_alike : uses_place gn ≡ uses_place fn
  unfolding uses_place
  uses_place_alike = fun_ext (λ i. rw op_alike)

  -- its place passes
  place_ok_alike : place_ok gn ≡ place_ok fn
  unfolding place_ok
  place_ok_alike = λ k i. elim (uses_place_alike k i) [ true ↦ used_ok (a.locals k) (spot_before_alike k i) | false ↦ true ]

  -- all places pass
  pub places_ok_alike : places_ok gn ≡ places_ok fn
  unfolding places_ok
  places_ok_alike = rw (place_ok_alike, a.items)

  -- THE POINTS OF A BLOCK

  -- an item is a point
  is_station_alike : is_station gn ≡ is_station fn
  unfolding is_station
  is_station_alike = fun_ext (λ i. rw op_alike)

  -- the point, with its place
  station_alike : station gn ≡ station fn
  unfolding station
  station_alike = λ k i. record { point = i; used = elim (uses_place_alike k i) [ true ↦ some (spot_before_alike k i) | false ↦ none ] }

  -- a block's points
  pub stations_alike : stations gn ≡ stations fn
  unfolding stations
  stations_alike = fun_ext (λ b. rw (is_station_alike, station_alike, stop_alike, start_alike))

  -- the places used at the entry
  pub entry_uses_alike : entry_uses gn ≡ entry_uses fn
  unfolding entry_uses
  entry_uses_alike = rw (uses_place_alike, spot_before_alike, start_alike)

  -- TARGETS AND JOIN POINTS

  -- a block's targets
  pub targets_alike : targets gn ≡ targets fn
  unfolding targets
  targets_alike = λ k b. elim (ltb b (a.blocks k)) [
    | true ↦ collect_from (λ i. eqb (op_alike k i) 10) (λ i. (i, arg_alike k i)) (stop_alike k b - start_alike k b) (start_alike k b)
    | false ↦ []
  ]

  -- how many targets name a block
  incoming_alike : incoming gn ≡ incoming fn
  unfolding incoming
  incoming_alike = fun_ext (λ c. rw (op_alike, arg_alike, a.items))

  -- a block is a join point
  pub is_join_point_alike : is_join_point gn ≡ is_join_point fn
  unfolding is_join_point
  is_join_point_alike = fun_ext (λ c. rw incoming_alike)

  -- how many are
  pub join_points_alike : join_points gn ≡ join_points fn
  unfolding join_points
  join_points_alike = rw (is_join_point_alike, a.blocks)

  -- a block returns
  pub returns_alike : returns gn ≡ returns fn
  unfolding returns
  returns_alike = fun_ext (λ b. rw (op_alike, stop_alike))

  -- THE MATCH

  -- the latest note of a place
  latest_note_alike : (q : Spot) (i n : ℕ) → latest_note gn q i n ≡ latest_note fn q i n
  unfolding latest_note
  latest_note_alike q i zero = refl
  latest_note_alike q i (suc n) = λ k. elim (eqb (op_alike k (i + n)) 7 && same_spot (spot_before_alike k (i + n)) q) [
    | true ↦ some (i + n)
    | false ↦ latest_note_alike q i n k
  ]

  -- the place read before a note
  place_read_alike : place_read gn ≡ place_read fn
  unfolding place_read
  place_read_alike = fun_ext (λ j. rw (spot_before_alike, root_before_alike))

  -- the place that a switch matches on
  match_at_alike : match_at gn ≡ match_at fn
  unfolding match_at
  match_at_alike = λ k b s. elim (uses_place_alike k s) [
    | true ↦ elim (latest_note_alike (spot_before_alike k s) (start_alike k b) (s - start_alike k b) k) [
      | none ↦ none
      | some j ↦ some (place_read_alike k j)
    ]
    | false ↦ none
  ]

  -- the place that a block matches on
  pub matched_alike : matched gn ≡ matched fn
  unfolding matched
  matched_alike = λ k b. elim (collect_from (λ i. eqb (op_alike k i) 8) (λ i. i) (stop_alike k b - start_alike k b) (start_alike k b)) [
    | [] ↦ none
    | s ∷ (l → m) ↦ match_at_alike k b s
  ]

  -- a target is an arm's
  pub is_arm_alike : is_arm gn ≡ is_arm fn
  unfolding is_arm
  is_arm_alike = fun_ext (λ i. rw op_alike)

  -- the value of its arm
  pub arm_value_alike : arm_value gn ≡ arm_value fn
  unfolding arm_value
  arm_value_alike = fun_ext (λ i. rw arg_alike)
