-- `env::project::ensure_unfolded` meets its contract: the tree of the place's local stands where `local_at` says. Assumes nothing.
use mathlib.Core.Path.{◌≡◌, sym, ap, subst, ◌∙◌}
use mathlib.Core.List.{List}
use mathlib.Core.Option.{some}
use Prim.Native.Nat.{ℕ}
use native.Mathlib.Omega.{arith}
use lib.ListN.{length, get_or}
use Rattle.model.specs.Tree.{Forest, sizes}
use Rattle.model.specs.Place.{Spot, spot_ok}
use Rattle.model.specs.Walk.{pick}
use Rattle.model.specs.Calls.{spot_of}
use Rattle.model.specs.Collect.{firsts}
use Rattle.base.specs.Typed.{locals_typed}
use Rattle.records.specs.Here.{Coded, CodedAll}
use Rattle.state.proofs.Locals.{local_coded}
use Rattle.state.specs.Value.{state_in}
use Rattle.walk.specs.Site.{Walks}
use Rattle.walk.proofs.Places.{length_args, word_local}
use Rattle.env.specs.Given.{Given}
use Rattle.env.proofs.Limits.{Limited, spot_limited, given_passes}
use Rattle.env.proofs.project.ensure_unfolded.Goals as goal

-- what is asked of the state and the place is named by its parts
module _ {Γ locals fs ws ops args : List ℕ} {n : ℕ} (g : Given Γ locals (state_in fs ws n) ops args (spot_ok 64 (length locals))) where
  -- a place that the items are is within its limits
  limited : {q : Spot} → spot_of ops args ≡ some q → Limited 64 (length locals) q
  limited {q} is = spot_limited (length locals) q 64 (given_passes g is)

  -- the first item has its local
  local_is : {q : Spot} → spot_of ops args ≡ some q → get_or args 0 0 ≡ q.local
  local_is is = word_local ops args is

  -- its tree stands where the local's starts
  coded_here : {i : ℕ} → ((E : Forest) → CodedAll Γ fs ws 0 locals E → i ≡ sizes (firsts (get_or args 0 0) E))
      → (E : Forest) (q : Spot) → CodedAll Γ fs ws 0 locals E → spot_of ops args ≡ some q → Coded Γ fs ws i (get_or locals (get_or args 0 0) 0) (pick q.local E)
  coded_here {i} ei E q h is =
      let k = local_is is in
      subst (λ (k : ℕ). Coded Γ fs ws i k (pick q.local E)) (sym (ap (λ (k : ℕ). get_or locals k 0) k))
      (local_coded h q.local i (limited is).known (ei E h ∙ ap (λ (k : ℕ). sizes (firsts k E)) k))

pub bounds-args-0 : goal.bounds-args-0
bounds-args-0 c = omega (arith, length_args c.args.ops.now c.args.args.now c.requires.1.1.1.is)

pub local_at-i-requires : goal.local_at-i-requires
local_at-i-requires c =
    let g = c.requires.1.1.1 in
    record { locals_value = c.requires.1.0; l_in_bounds = omega (arith, local_is g g.is, (limited g g.is).known); heres = record { trees = g.state; coded = g.holds.trees } }

pub bounds-locals-l : goal.bounds-locals-l
bounds-locals-l c = let g = c.requires.1.1.1 in omega (arith, local_is g g.is, (limited g g.is).known)

pub walk_along-requires : goal.walk_along-requires
walk_along-requires c =
    let g = c.requires.1.1.1 in
    let T = locals_typed c.args.types.now.words.now c.args.locals.now c.requires.1.0 in record {
      typ_bound = T.below _ (omega (arith, local_is g g.is, (limited g g.is).known));
      here = record { tree = pick g.spot.local g.state; coded = coded_here g c.local_at-i.ensures g.state g.spot g.holds.trees g.is };
      short = record { spot = g.spot; is = g.is; short = (limited g g.is).short };
    }

pub returns : goal.returns
returns c =
    let a = c.args in
    λ n E q h is.
    subst (λ (i : ℕ). Walks a.types.now.words.now a.forms.now a.whats.now a.ops.now a.args.now i q.place (pick q.local E) c.walk_along.result)
    (c.local_at-i.ensures E h.trees ∙ ap (λ (k : ℕ). sizes (firsts k E)) (word_local a.ops.now a.args.now is))
    (c.walk_along.ensures (pick q.local E) q (coded_here c.requires.1.1.1 c.local_at-i.ensures E q h.trees is) is)
