-- A place that is used: its items, as the code takes them from the record, are a place that passes.
use mathlib.Core.Path.{◌≡◌}
use mathlib.Core.Bool.{true}
use mathlib.Core.List.{List}
use mathlib.Core.Option.{some}
use Prim.Native.Nat.{ℕ, ◌≤◌, ◌<◌}
use native.Mathlib.Omega.{arith}
use lib.ListN.{length}
use Rattle.model.specs.Tree.{Forest}
use Rattle.model.specs.State.{locals_ok}
use Rattle.model.specs.Place.{Spot, used_ok}
use Rattle.model.specs.Function.{nlocals, nitems, local_types}
use Rattle.model.specs.Block.{root_before, spot_before, uses_place}
use Rattle.model.specs.Calls.{spot_of}
use Rattle.base.specs.Function.{function_facts, length_local_types, locals_pass}
use Rattle.graph.specs.Used.{place_used}
use Rattle.mir.specs.Parts.{ops_part, args_part}
use Rattle.state.specs.declared.nodes.State.{State}
use Rattle.blocks.proofs.Spots.{used_in, used_read}
use Rattle.env.specs.Given.{Asked}
use Rattle.env.specs.There.{Wherever}
use Rattle.blocks.specs.Accepted.{Accepted}
use Rattle.state.specs.Given.{Stated, InEach}

module _ {Γ os fn : List ℕ} (A : Accepted Γ os fn) {read : ℕ} (l : read < nitems fn) (u : uses_place fn read ≡ true) {r : ℕ} (e : r ≡ root_before fn read) where
  -- its items
  pub place_range : (r ≤ read) × (read ≤ nitems fn)
  place_range = (omega (arith, (used_in A.formed l u).high), omega arith)

  module _ (locals ops args : List ℕ) (el : locals ≡ local_types fn) (eo : ops ≡ ops_part fn r read) (ea : args ≡ args_part fn r read) where
    -- are the place
    pub place_spot : spot_of ops args ≡ some (spot_before fn read)
    place_spot = rw (eo, ea, e) (used_read A.formed l u)

    pub place_locals : locals_ok Γ locals ≡ true
    place_locals = rw el (locals_pass Γ fn A.function)

    -- with a state of the function's locals they are what a call within a run asks
    pub place_asked : {s : State} → Stated Γ (local_types fn) s → Asked Γ os locals s ops args (used_ok (length locals))
    place_asked S =
        let n : length locals ≡ nlocals fn = rw el (length_local_types (function_facts Γ fn A.function)) in (
          A.ready,
          (
            place_locals,
            record {
              state = S.state;
              holds = rw el S.holds;
              spot = spot_before fn read;
              is = place_spot;
              passes = rw n (place_used (function_facts Γ fn A.function) A.places l u);
            },
          ),
        )

    -- what such a call gives wherever it is, it gives at that place
    pub place_there : {s : State} {X : Forest → Spot → Type 0} → Wherever Γ locals s ops args X → InEach Γ fn s (λ E. X E (spot_before fn read))
    place_there H E h = H E (spot_before fn read) (rw el h) place_spot
