-- The theorems on a function that passes refusals 1, 2 and 4: after an accepted first pass the second is accepted; what is stored is
-- a state record's; a stored state changes at most 262,656 times; and demand 3.
use Rattle.std.specs.Prelude.{◌≡◌, true, List, ◌++◌, ℕ, ◌+◌, ◌*◌, ◌^◌, ◌≤◌, ◌<◌, ltb, leb}
use Rattle.std.proofs.Math.Path.{refl, ap, subst}
use Rattle.std.proofs.Common.{sym, ◌∙◌, arith}
use Rattle.std.proofs.Math.Option.{some}
use Rattle.std.proofs.Math.ListN.{length}
use borrow.Author.Tests.{leb-true}
use Rattle.model.specs.Answer.{Answer, refused, done}
use Rattle.model.specs.Types.{types_ok}
use Rattle.model.specs.Tree.{Forest, leaves}
use Rattle.model.specs.Place.{At}
use Rattle.model.specs.Function.{nblocks, local_types, function_ok}
use Rattle.model.specs.Block.{places_ok, entry_uses, entry_point, is_join_point, join_points}
use Rattle.model.specs.State.{most}
use Rattle.model.specs.Frame.{Line, carries}
use Rattle.model.specs.Passes.{Store, infer, Found}
use Rattle.model.specs.Measure.{ceiling}
use Rattle.model.specs.Body.{enter_uses, frame}
use Rattle.model.specs.Record.{entries, statement_record, lent, numbers, writable}
use Rattle.model.specs.Whole.{passes, ghost_statements, with_buffer, accepted, denied, result, shorter, found, whole}
use Rattle.model.specs.Replay.{Replayed}
use Rattle.model.specs.Told.{Numbered}
use Rattle.base.specs.Tests.{split, clash, and_left}
use Rattle.base.specs.Answer.{then_done}
use Rattle.base.specs.Forgotten.{told_front}
use Rattle.base.specs.Function.{FunctionFacts, function_facts}
use Rattle.laws.specs.Valid.{Valid}
use Rattle.records.specs.Recorded.{recorded_front, length_record}
use Rattle.solver.specs.Laws.{Good, Lawful}
use Rattle.solver.specs.Changes.{changes}
use Rattle.solver.proofs.Changes.{changes_ceiling}
use Rattle.solver.proofs.Whole as W
use Rattle.graph.specs.Ranges.{owner}
use Rattle.graph.proofs.Targets.{frame_edges}
use Rattle.graph.specs.Used.{entry_used}
use Rattle.graph.specs.Trees.{Trees}
use Rattle.graph.specs.Bridge.{player}
use Rattle.graph.specs.Lawful.{entry_enters}
use Rattle.graph.proofs.Lawful.{frame_bodies, frame_lawful}
use Rattle.graph.proofs.Demand.{passes_replayed}
use Rattle.graph.proofs.Told.{passes_numbered}
use Rattle.demand.specs.States.{Ok, good_valid, frame_lattice, folded_good, frame_collects, frame_trees}

-- refusals 1, 2 and 4 are passed
pub record Passed (Γ fn : List ℕ) : Type 0 where
  pub types : types_ok Γ ≡ true
  pub function : function_ok Γ fn ≡ true
  pub places : places_ok fn ≡ true

-- where a state is stored, and what it is
pub record Stored (Γ fn : List ℕ) (b : ℕ) (S : Forest) : Type 0 where
  pub below : b < nblocks fn
  pub joins : is_join_point fn b ≡ true
  pub valid : Valid Γ (local_types fn) S

module _ {Γ fn : List ℕ} (H : Passed Γ fn) where
  -- what the function record says
  pub facts : FunctionFacts fn
  facts = function_facts Γ fn H.function

  -- the trees do as asked
  pub trees : Trees Γ fn (Ok Γ fn)
  trees = frame_trees Γ fn H.types

  -- all that the passes ask
  pub lawful : Lawful (frame Γ fn) (Ok Γ fn) (owner fn) (player Γ fn)
  lawful = frame_lawful facts H.places trees (frame_lattice Γ fn) (frame_collects Γ fn H.types)

  -- the state that the entry's uses leave: the entry's statements lead to it
  pub entered : {E : Forest} {ts : List At} → enter_uses Γ (entry_uses fn) (leaves (local_types fn)) ≡ done (E, ts)
      → (carries (frame Γ fn) ts (leaves (local_types fn)) ≡ done E) × Good (frame Γ fn) (Ok Γ fn) E
  entered e = entry_enters facts H.places trees (entry_used facts H.places) (leaves (local_types fn)) (folded_good Γ fn facts) e

  -- after an accepted first pass the second is accepted, and the stored states are the first pass's
  pub second_accepted : {E : Forest} {ts : List At} {s : Store Forest} → enter_uses Γ (entry_uses fn) (leaves (local_types fn)) ≡ done (E, ts)
      → infer (frame Γ fn) E ≡ done s → (r : Found Forest At) × (passes Γ fn ≡ done r) × (r.kept ≡ s.kept)
  unfolding passes
  second_accepted {E} {ts} u e =
      let (r, a, k, M) = W.second_accepted (frame Γ fn) (Ok Γ fn) (owner fn) (player Γ fn) lawful ts E (entered u).1 e in
      (r, cc, k)

  -- what is stored
  pub kept_stored : {r : Found Forest At} → passes Γ fn ≡ done r → (b : ℕ) (S : Forest) → r.kept b ≡ some S → Stored Γ fn b S
  unfolding passes frame
  kept_stored {r} e b S k =
      let (s, u, a) = then_done (enter_uses Γ (entry_uses fn) (leaves (local_types fn))) e in
      let M = W.accepted_made (frame Γ fn) (Ok Γ fn) (owner fn) (player Γ fn) lawful s.1 s.0 (entered u).1 a in
      let P = M.solution.placed b S k in
      let g = M.solution.fine b S k in
      record { below = P.below; joins = P.joins; valid = good_valid Γ fn g }

  -- THE CEILING: how often a stored state changes after its first arrival
  pub changes_most : (b : ℕ) {E : Forest} {ts : List At} → enter_uses Γ (entry_uses fn) (leaves (local_types fn)) ≡ done (E, ts)
      → changes (frame Γ fn) b E ≤ ceiling
  unfolding frame
  changes_most b u = changes_ceiling (frame Γ fn) (Ok Γ fn) (frame_lattice Γ fn) b (frame_bodies facts H.places trees) (frame_edges facts Γ) (entered u).1

  -- DEMAND 3, of the statement record, whatever words stand behind it
  pub front_demand : {r : Found Forest At} (rest : List ℕ) → passes Γ fn ≡ done r → Replayed Γ fn (statement_record (entry_point fn) r.lines ++ rest)
  front_demand {r} rest e = passes_replayed facts H.places trees (frame_lattice Γ fn) (frame_collects Γ fn H.types) (folded_good Γ fn facts)
      (statement_record (entry_point fn) r.lines ++ rest) (recorded_front (entry_point fn) r.lines rest) e

  -- and the numbers beside it say where openings began, whatever words stand behind them
  pub front_numbered : {r : Found Forest At} (rest more : List ℕ) → passes Γ fn ≡ done r
      → Numbered Γ fn (statement_record (entry_point fn) r.lines ++ rest) (numbers r.lines ++ more)
  front_numbered {r} rest more e = passes_numbered facts H.places trees (frame_lattice Γ fn) (frame_collects Γ fn H.types) (folded_good Γ fn facts)
      (statement_record (entry_point fn) r.lines ++ rest) (numbers r.lines ++ more) (recorded_front (entry_point fn) r.lines rest) (told_front r.lines more) e

-- AN ACCEPTED CALL

-- it has passed refusals 1, 2 and 4
pub ghost_passed : (Γ fn : List ℕ) (store : ℕ) {r : Found Forest At} → ghost_statements Γ fn store ≡ done r → Passed Γ fn × (passes Γ fn ≡ done r)
unfolding ghost_statements
ghost_passed Γ fn store {r} e = split (types_ok Γ)
    (λ a. split (function_ok Γ fn)
    (λ b. split (places_ok fn)
    (λ c. split (leb (most * join_points fn) store)
    (λ d. (record { types = a; function = b; places = c }, cc))
    (λ d. clash (cc)))
    (λ c. clash (cc)))
    (λ b. clash (cc)))
    (λ a. clash (cc))

-- the statement buffer is large enough, or the call is refused
buffer_same : (fn : List ℕ) (n : ℕ) (s : Found Forest At) {r : Found Forest At} → with_buffer fn n s ≡ done r
    → (s ≡ r) × (writable n (entries (entry_point fn) r.lines) ≡ true)
unfolding with_buffer
buffer_same fn n s e = split (writable n (entries (entry_point fn) s.lines)) (λ d. (cc, cc)) (λ d. clash (cc))

module _ (Γ fn : List ℕ) (nforms nwhats nout : ℕ) where
  -- the same with the statement buffer
  pub found_passed : {r : Found Forest At} → found Γ fn nforms nwhats nout ≡ done r
      → Passed Γ fn × (passes Γ fn ≡ done r) × (writable nout (entries (entry_point fn) r.lines) ≡ true)
  unfolding found
  found_passed {r} e =
      let (s, u, d) = then_done (ghost_statements Γ fn (shorter Γ fn nforms nwhats nout)) e in
      let (H, p) = ghost_passed Γ fn (shorter Γ fn nforms nwhats nout) u in
      let (q, w) = buffer_same fn nout s d in
      (H, p ∙ ap done q, w)

  -- what an accepted call leaves in the buffer: its record, which is replayed whatever words stand behind it
  pub record Leaves (out : List ℕ) (c : ℕ × ℕ) : Type 0 where
    pub lines : List (Line At)
    pub counted : c.1 ≡ length (entries (entry_point fn) lines)
    pub room : length (statement_record (entry_point fn) lines) ≤ nout
    pub written : out ≡ lent nout (statement_record (entry_point fn) lines)
    pub replayed : (rest : List ℕ) → Replayed Γ fn (statement_record (entry_point fn) lines ++ rest)

  result_leaves : (a : Answer (Found Forest At)) → found Γ fn nforms nwhats nout ≡ a → {c : ℕ × ℕ} → (result Γ fn nforms nwhats nout a).answer ≡ done c
      → Leaves (result Γ fn nforms nwhats nout a).out c
  unfolding result accepted denied writable
  result_leaves (refused k) p e = clash (cc)
  result_leaves (done r) p e =
      let (H, q, w) = found_passed p in
      let es = entries (entry_point fn) r.lines in
      let few : 2 + 2 * length es ≤ nout = leb-true (2 + 2 * length es) nout (and_left (leb (2 + 2 * length es) nout) (ltb (length es) (2 ^ 32)) w) in
      record {
        lines = r.lines;
        counted = cc;
        room = omega (arith, length_record (entry_point fn) r.lines);
        written = refl;
        replayed = λ rest. front_demand H rest q;
      }

  pub whole_leaves : {c : ℕ × ℕ} → (whole Γ fn nforms nwhats nout).answer ≡ done c → Leaves (whole Γ fn nforms nwhats nout).out c
  unfolding whole
  whole_leaves e = result_leaves (found Γ fn nforms nwhats nout) refl e

  -- DEMAND 3, of the whole-function call: a function is accepted when its call gives a statement record; the replay is fed that record
  pub whole_demand : {c : ℕ × ℕ} → (whole Γ fn nforms nwhats nout).answer ≡ done c → Replayed Γ fn (whole Γ fn nforms nwhats nout).out
  unfolding lent
  whole_demand e = let L = whole_leaves e in subst (Replayed Γ fn) (sym L.written) (L.replayed _)
