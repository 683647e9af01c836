-- With which numbers the passes refuse: 5, 6, 8 and 9. So neither 7, nor the number 0 that the definitions give where nothing else
-- could stand. And so demand 1 of the whole-function call (`whole_refuses`) and of the program (`ghosts_answered`).
use Rattle.std.specs.Prelude.{◌≡◌, true, ℕ, ◌<◌, ◌*◌, length, take, leb}
use Rattle.std.proofs.Math.Path.{refl}
use mathlib.Core.List.{List, [], ◌∷◌}
use Rattle.std.proofs.Math.Option.{Option, none, some}
use Rattle.std.proofs.Common.{lt-ltb}
use Rattle.model.specs.Answer.{Answer, refused, done}
use Rattle.model.specs.Types.{types_length, types_ok}
use Rattle.model.specs.Tree.{Forest, leaves}
use Rattle.model.specs.State.{most}
use Rattle.model.specs.Place.{Spot, At, used_ok}
use Rattle.model.specs.Walk.{projection}
use Rattle.model.specs.Function.{nlocals, nblocks, local_types, function_ok, function_length}
use Rattle.model.specs.Block.{Station, targets, matched, is_arm, arm_value, places_ok, entry_point, join_points}
use Rattle.model.specs.Rounds.{elem}
use Rattle.model.specs.Passes.{Found}
use Rattle.model.specs.Body.{enter_uses, use_at, pass_stations, Left, variants, variant_of, choice, open_variant, match_targets, match_exits, exits_of, body, frame}
use Rattle.model.specs.Record.{entries, writable}
use Rattle.model.specs.Whole.{passes, ghost_statements, with_buffer, accepted, denied, result, shorter, found, whole}
use Rattle.model.specs.Ghosts.{fresh, close, scan, backwards, words_of, function_words, ghosts_store, ghosts_buffer, analysed, answer_text, printed, ghosts}
use Rattle.model.specs.Promised.{OneOf, whole_numbers, function_numbers, Answered, in_lines, in_a_refusal}
use Rattle.base.specs.Tests.{split, split_option, clash}
use Rattle.base.specs.Each.{Each, each_none, each_more}
use Rattle.base.specs.Function.{length_local_types}
use Rattle.base.specs.Only.{Only, only_refused, only_done, only_then, only_bind, only_require, only_more, only_at, only_of}
use Rattle.laws.specs.Places.{used_limits}
use Rattle.laws.specs.Refusals.{projection_refusals, downcasting_refusals, subject_refusals}
use Rattle.solver.specs.Laws.{Good}
use Rattle.solver.proofs.Refusals.{analyse_refused}
use Rattle.graph.proofs.Targets.{frame_edges}
use Rattle.graph.specs.Used.{Allowed, stations_used, entry_used}
use Rattle.graph.specs.Trees.{small_good}
use Rattle.graph.specs.Through.{use_good}
use Rattle.graph.proofs.Lawful.{frame_bodies}
use Rattle.demand.specs.States.{Ok, frame_lattice, folded_good, frame_collects}
use Rattle.demand.specs.Whole.{Passed, facts, trees, entered}

-- the numbers with which a run refuses
abbrev pub run_numbers : List ℕ
run_numbers = 5 ∷ 6 ∷ 8 ∷ 9 ∷ []

module _ {Γ fn : List ℕ} (H : Passed Γ fn) where
  -- a state of the run
  abbrev Fair : Forest → Type 0
  Fair E = Good (frame Γ fn) (Ok Γ fn) E

  -- A PLACE USED

  -- by an item, or at the entry
  projection_refuses : (q : Spot) (E : Forest) → used_ok (nlocals fn) q ≡ true → Fair E → Only run_numbers (projection Γ q E)
  unfolding elem
  projection_refuses q E u g =
      only_more refl (projection_refusals Γ q g.ok.fits (rw (length_local_types (facts H)) (used_limits (nlocals fn) q u).known))

  -- a point that may use a place
  use_refuses : (i : ℕ) (u : Option Spot) → ((q : Spot) → u ≡ some q → used_ok (nlocals fn) q ≡ true) → (E : Forest) → Fair E → Only run_numbers (use_at Γ i u E)
  unfolding use_at
  use_refuses i none a E g = only_done
  use_refuses i (some q) a E g = only_bind (projection_refuses q E (a q refl) g) (λ r. only_done)

  -- all of a block's
  pass_refuses : {ss : List Station} → Each (Allowed fn) ss → (E : Forest) → Fair E → Only run_numbers (pass_stations Γ ss E)
  unfolding pass_stations
  pass_refuses each_none E g = only_done
  pass_refuses (each_more {a = s} {l = ss} a as') E g = only_then (use_refuses s.point s.used a E g)
      (λ r p. only_bind (pass_refuses as' r.0 (use_good Γ fn (trees H) s.point s.used a E g p)) (λ w. only_done))

  -- all of the entry's
  enter_refuses : {qs : List Spot} → Each (λ q. used_ok (nlocals fn) q ≡ true) qs → (E : Forest) → Fair E → Only run_numbers (enter_uses Γ qs E)
  unfolding enter_uses
  enter_refuses each_none E g = only_done
  enter_refuses (each_more {a = q} {l = qs} u us) E g = only_then (projection_refuses q E u g)
      (λ r p. only_bind (enter_refuses us r.0 (let J = (trees H).projects q E u g p in small_good Γ fn J.ok J.small)) (λ w. only_done))

  -- A MATCH

  -- the choice of a target's variant
  choice_refuses : (i : ℕ) (ds : Left) → Only run_numbers (choice fn i ds)
  unfolding choice elem
  choice_refuses i ds = only_of (choice fn i ds) (λ k e. split (is_arm fn i)
      (λ a. split_option (variant_of (arm_value fn i) ds) (λ d. let z : 8 ≡ k = cc in rw (← z) refl) (λ v d. clash (cc)))
      (λ a. clash (cc)))

  -- its opening
  variant_refuses : (q : Spot) (o : Option ℕ) (E : Forest) → Only run_numbers (open_variant Γ fn q o E)
  unfolding open_variant elem
  variant_refuses q none E = only_done
  variant_refuses q (some v) E = only_more refl (downcasting_refusals Γ q v E)

  -- all targets of a match
  match_refuses : (q : Spot) (E : Forest) (ts : List (ℕ × ℕ)) (ds : Left) → Only run_numbers (match_targets Γ fn q E ts ds)
  unfolding match_targets
  match_refuses q E [] ds = only_done
  match_refuses q E (t ∷ ts) ds = only_bind (choice_refuses t.0 ds)
      (λ c. only_bind (variant_refuses q c.opens E) (λ D. only_bind (match_refuses q E ts c.remain) (λ xs. only_done)))

  match_exits_refuse : (q : Spot) (ts : List (ℕ × ℕ)) (E : Forest) (o : Option ℕ) → Only run_numbers (match_exits Γ fn q ts E o)
  unfolding match_exits
  match_exits_refuse q ts E none = only_done
  match_exits_refuse q ts E (some t) = match_refuses q E ts (variants Γ t)

  -- the exits of a block
  exits_refuse : (m : Option Spot) (ts : List (ℕ × ℕ)) (E : Forest) → Only run_numbers (exits_of Γ fn m ts E)
  unfolding exits_of elem
  exits_refuse none ts E = only_done
  exits_refuse (some q) ts E = only_bind (only_more refl (subject_refusals Γ q E)) (match_exits_refuse q ts E)

  -- THE RUN

  -- one block's
  body_refuses : (b : ℕ) (E : Forest) (k : ℕ) → b < nblocks fn → Fair E → (frame Γ fn).body b E ≡ refused k → OneOf run_numbers k
  unfolding frame body
  body_refuses b E k l g e =
      let d : body Γ fn b E ≡ refused k = cc (lt-ltb b (nblocks fn) l) in
      only_at (only_bind (pass_refuses (stations_used (facts H) H.places l) E g)
      (λ r. only_bind (exits_refuse (matched fn b) (targets fn b) r.0) (λ xs. only_done))) d

  -- the passes refuse with 5, 6, 8 or 9
  pub passes_refuse : (k : ℕ) → passes Γ fn ≡ refused k → OneOf run_numbers k
  unfolding passes frame elem
  passes_refuse k = only_at (only_then
      (enter_refuses (entry_used (facts H) H.places) (leaves (local_types fn)) (folded_good Γ fn (facts H)))
      (λ r p. only_of _ (λ k e. analyse_refused (frame Γ fn) (frame_bodies (facts H) H.places (trees H)) (frame_edges (facts H) Γ) (λ k. OneOf run_numbers k) refl body_refuses
      (frame_lattice Γ fn) (frame_collects Γ fn H.types) r.1 (entered H p).1 e)))

-- THE WHOLE-FUNCTION CALL

module _ (Γ fn : List ℕ) where
  -- the passes, of records that pass
  passes_numbers : types_ok Γ ≡ true → function_ok Γ fn ≡ true → places_ok fn ≡ true → Only function_numbers (passes Γ fn)
  unfolding elem
  passes_numbers t f p = only_more {ms = run_numbers} refl (only_of (passes Γ fn) (passes_refuse (record { types = t; function = f; places = p })))

  -- the tests of types that pass, then the passes
  typed_refuse : types_ok Γ ≡ true → (store : ℕ) → Only function_numbers (ghost_statements Γ fn store)
  unfolding ghost_statements elem
  typed_refuse t store =
      rw t (only_require function_numbers (function_ok Γ fn) 2 _ refl (λ f. only_require function_numbers (places_ok fn) 4 _ refl (λ p.
      only_require function_numbers (leb (most * join_points fn) store) 10 _ refl (λ r. passes_numbers t f p))))

  -- of any types
  tests_refuse : (store : ℕ) → Only whole_numbers (ghost_statements Γ fn store)
  unfolding ghost_statements elem
  tests_refuse store = split (types_ok Γ) (λ t. only_more {ms = function_numbers} refl (typed_refuse t store)) (λ t. rw t (only_refused refl))

  module _ (nforms nwhats nout : ℕ) where
    -- with the statement buffer
    buffered : {ns : List ℕ} → OneOf ns 10 → Only ns (ghost_statements Γ fn (shorter Γ fn nforms nwhats nout)) → Only ns (found Γ fn nforms nwhats nout)
    unfolding found with_buffer
    buffered {ns} h o = only_bind o (λ f. only_require ns (writable nout (entries (entry_point fn) f.lines)) 10 _ h (λ w. only_done))

    pub found_refuses : Only whole_numbers (found Γ fn nforms nwhats nout)
    unfolding elem
    found_refuses = buffered refl (tests_refuse (shorter Γ fn nforms nwhats nout))

    -- what is given of it
    pub result_refuses : {ns : List ℕ} {a : Answer (Found Forest At)} → Only ns a → Only ns (result Γ fn nforms nwhats nout a).answer
    unfolding result denied accepted
    result_refuses (only_refused e) = only_refused e
    result_refuses only_done = only_done

    -- the whole-function call refuses with 1, 2, 4, 5, 6, 8, 9 or 10; and not with 1 where the types pass
    pub whole_refuses : (n : ℕ) → (whole Γ fn nforms nwhats nout).answer ≡ refused n → OneOf whole_numbers n
    unfolding whole
    whole_refuses n e = only_at (result_refuses found_refuses) e

    pub function_refuses : types_ok Γ ≡ true → (n : ℕ) → (whole Γ fn nforms nwhats nout).answer ≡ refused n → OneOf function_numbers n
    unfolding whole elem
    function_refuses t n e = only_at (result_refuses (buffered refl (typed_refuse t (shorter Γ fn nforms nwhats nout)))) e

-- THE PROGRAM

-- the text of an answer
text_answered : (entry : ℕ) {a : Answer (Found Forest At)} → Only whole_numbers a → Answered (answer_text entry a)
unfolding answer_text
text_answered entry (only_refused {n} e) = in_a_refusal n e refl
text_answered entry (only_done {a}) = in_lines entry a.lines refl

-- of words that were read
words_answered : {a : Answer (List ℕ)} → Only whole_numbers a → Answered (printed a)
unfolding printed analysed answer_text elem
words_answered (only_refused {n} e) = in_a_refusal n e refl
words_answered (only_done {a = ws}) = text_answered (entry_point (function_words ws))
    (only_require whole_numbers (leb (length (function_words ws)) (function_length (function_words ws))) 2 _ refl
    (λ l. found_refuses (take (types_length ws) ws) (function_words ws) ghosts_store ghosts_store ghosts_buffer))

-- whatever the text, `ghosts` prints lines of statements or `refused` and one of those numbers
pub ghosts_answered : (bytes : List ℕ) → Answered (ghosts bytes)
unfolding ghosts words_of elem
ghosts_answered bytes =
    let s = close (scan bytes fresh) in
    words_answered (only_require whole_numbers s.fine 2 (λ _. done (backwards s.words [])) refl (λ f. only_done))
