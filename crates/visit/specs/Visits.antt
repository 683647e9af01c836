-- What a jump, a block that is entered and one that is left leave in the arrays and in the buffer, as `Visiting` (arrival) says it.
use Rattle.std.specs.Prelude.{Bool, true, List, ℕ, suc, Result}
use Rattle.moments.specs.Lent.{Lent}
use Rattle.model.specs.Answer.{Answer}
use Rattle.model.specs.Tree.{Forest}
use Rattle.model.specs.Collect.{folds_at_ret}
use Rattle.model.specs.Function.{nargs, nblocks, local_types}
use Rattle.model.specs.Frame.{mark}
use Rattle.records.specs.Here.{Holds}
use Rattle.refusal.specs.declared.Refusal.{Refusal}
use Rattle.state.specs.Value.{value}
use Rattle.state.specs.declared.nodes.State.{State}
use Rattle.statements.specs.Points.{Tells}
use Rattle.statements.specs.declared.Out.{Out}
use Rattle.arrival.specs.Memory.{Memory, enters, jumps, departs}
use Rattle.arrival.specs.Shares.{Change}
use Rattle.arrival.specs.Visits.{exit, Visiting}
use Rattle.arrival.specs.declared.jump.Jump.{Jump}
use Rattle.visit.specs.declared.block.Way.{Way}

-- WHAT IS ASKED OF MODEL

module _ (Γ fn : List ℕ) where
  -- the jump j is taken
  abbrev pub jumping : Jump → Bool → Forest → Memory → Answer Memory
  jumping j b E m = jumps Γ fn b j.left (exit fn j.entry j.item j.block E) m

  -- a block is entered
  abbrev pub entering : Way → Bool → Forest → Memory → Answer Memory
  entering w b E m = enters Γ fn b (suc w.left) w.block E m

  -- it is left by its targets, in the state that its items leave
  abbrev pub departing : Way → Bool → Forest → Memory → Answer Memory
  departing w b E m = departs Γ fn b w.left w.block E m

-- the jump from the entry
abbrev pub start_jump : List ℕ → Jump
start_jump fn = record { item = 0; entry = true; block = 0; left = nblocks fn }

-- A RETURN

-- what a return at the item i owes of whatever state s is, is recorded if the pass records
abbrev pub Returns : (Γ fn : List ℕ) → ℕ → State → List ℕ → Out → List ℕ → Out → Type 0
Returns Γ fn i s out o out' r = (E : Forest) → Holds Γ (local_types fn) (value s) E
    → Tells fn out o out' r (mark i (folds_at_ret Γ (nargs fn) E))

-- A VISIT

module _ (Γ fn : List ℕ) (x : Change) (out : Lent) where
  -- the jump j is taken
  abbrev pub Jumps : Jump → State → Out → Result Out Refusal → Type 0
  Jumps j s o r = Visiting Γ fn x out s o (jumping Γ fn j) r

  -- a block is entered
  abbrev pub Enters : Way → State → Out → Result Out Refusal → Type 0
  Enters w s o r = Visiting Γ fn x out s o (entering Γ fn w) r

  -- it is left by its targets, in the state s that its items leave
  abbrev pub Departs : Way → State → Out → Result Out Refusal → Type 0
  Departs w s o r = Visiting Γ fn x out s o (departing Γ fn w) r
