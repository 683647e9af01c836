-- What a visit, or an arrival in it, leaves in the arrays and in the buffer: model's answer, from whatever memory and state they have.
use Rattle.std.specs.Prelude.{◌≡◌, ◌≢◌, Bool, true, List, ℕ, ◌<◌, length, Result, Ok}
use Rattle.moments.specs.Lent.{Lent, was, after}
use Rattle.model.specs.Answer.{Answer, refused, done}
use Rattle.model.specs.Tree.{Forest}
use Rattle.model.specs.Place.{At}
use Rattle.model.specs.Function.{local_types, nitems, nblocks}
use Rattle.model.specs.Block.{entry_point}
use Rattle.model.specs.Frame.{Line, Exit}
use Rattle.records.specs.Here.{Holds}
use Rattle.refusal.specs.Refusal.{answered}
use Rattle.refusal.specs.declared.Refusal.{Refusal}
use Rattle.state.specs.Value.{value}
use Rattle.state.specs.declared.nodes.State.{State}
use Rattle.statements.specs.Marked.{marked}
use Rattle.statements.specs.Kept.{Counted, Kept}
use Rattle.statements.specs.Points.{point}
use Rattle.statements.specs.declared.Out.{Out}
use Rattle.arrival.specs.Memory.{Memory, arrives}
use Rattle.arrival.specs.Shares.{Arrays, Change, Remembers, Alike}
use Rattle.arrival.specs.declared.jump.Jump.{Jump}

-- the jump is from an item to a block
abbrev pub JumpIn : List ℕ → Jump → Type 0
JumpIn fn j = (j.item < nitems fn) × (j.block < nblocks fn)

-- THE BUFFER

-- the lines so far stand in the buffer, with their marks, if the pass records
pub record Spoken (fn : List ℕ) (recording : Bool) (ls : List (Line At)) (out : List ℕ) (o : Out) : Type 0 where
  pub pen : o.recording ≡ recording
  pub counted : Counted out o
  pub kept : recording ≡ true → Kept (length ls) (marked (entry_point fn) ls) out o

-- WHAT IS ASKED OF MODEL

-- the jump to the block c by the item i, or from the entry
abbrev pub exit : List ℕ → Bool → ℕ → ℕ → Forest → Exit Forest
exit fn entry i c E = record { item = point fn entry i; block = c; state = E }

module _ (Γ fn : List ℕ) where
  -- a state arrives by the jump j
  abbrev pub meeting : Jump → Bool → Forest → Memory → Answer Memory
  meeting j b E m = arrives Γ fn b (exit fn j.entry j.item j.block E) m

-- some memory and some state are as the arrays, the buffer and s say, and model's answer to them is not 0, which stands for a case
-- that cannot arise
pub record Ongoing (Γ fn : List ℕ) (a : Arrays) (out : List ℕ) (o : Out) (s : State) (answer : Bool → Forest → Memory → Answer Memory) : Type 0 where
  pub memory : Memory
  pub is : Remembers Γ fn memory a
  pub spoken : Spoken fn o.recording memory.lines out o
  pub state : Forest
  pub holds : Holds Γ (local_types fn) (value s) state
  pub goes : answer o.recording state memory ≢ refused 0

-- WHAT IS LEFT

-- model's answer a, in the arrays and the buffer
pub record Visits (Γ fn : List ℕ) (recording : Bool) (x : Arrays) (out : List ℕ) (a : Answer Memory) (x' : Arrays) (out' : List ℕ) (r : Result Out Refusal) : Type 0 where
  pub alike : Alike x x'
  pub same : length out' ≡ length out
  pub denied : (n : ℕ) → a ≡ refused n → answered r ≡ refused n
  pub over : (m : Memory) → a ≡ done m → (o : Out) × (r ≡ Ok o) × Remembers Γ fn m x' × Spoken fn recording m.lines out' o

module _ (Γ fn : List ℕ) (x : Change) (out : Lent) where
  -- it is so from whatever memory and state the arrays, the buffer and s have
  abbrev pub Visiting : State → Out → (Bool → Forest → Memory → Answer Memory) → Result Out Refusal → Type 0
  Visiting s o answer r = (m : Memory) (E : Forest) → Remembers Γ fn m x.before → Spoken fn o.recording m.lines (was out) o
      → Holds Γ (local_types fn) (value s) E
      → Visits Γ fn o.recording x.before (was out) (answer o.recording E m) x.behind (after out) r

  -- a state arrives by the jump j
  abbrev pub Meets : Jump → State → Out → Result Out Refusal → Type 0
  Meets j s o r = Visiting s o (meeting Γ fn j) r
