-- The two passes over the memory that both share: the opening of a pass, one popped block, the rounds that are left.
use Rattle.std.specs.Prelude.{◌≡◌, ◌≢◌, Bool, true, false, List, [], ◌∷◌, ◌++◌, ℕ, ◌<◌, ◌*◌, ◌≤◌, length, replicate, Result, Ok}
use Rattle.std.proofs.Math.Option.{Option, none, some}
use Rattle.moments.specs.Lent.{Lent, was, after}
use Rattle.model.specs.Answer.{Answer, refused, done, ◌>>=◌}
use Rattle.model.specs.Tree.{Forest, leaves}
use Rattle.model.specs.State.{most}
use Rattle.model.specs.Place.{At}
use Rattle.model.specs.Function.{nblocks, rank, local_types}
use Rattle.model.specs.Block.{entry_uses, entry_point, join_points}
use Rattle.model.specs.Frame.{mark, opening_exit}
use Rattle.model.specs.Rounds.{run_rounds}
use Rattle.model.specs.Passes.{Store, solve, infer, round_two, unvisited}
use Rattle.model.specs.Body.{enter_uses, frame}
use Rattle.refusal.specs.Refusal.{answered}
use Rattle.refusal.specs.declared.Refusal.{Refusal}
use Rattle.statements.specs.declared.Out.{Out}
use Rattle.queue.specs.Bits.{no_bits}
use Rattle.queue.specs.Waiting.{Inverse}
use Rattle.arrival.specs.Shares.{Arrays, arrays, kept_in, Change, Remembers}
use Rattle.arrival.specs.Visits.{Spoken, Visits}
use Rattle.arrival.specs.Memory.{Memory, store_of, with_store, log_of, with_log, enters, jumps}

-- the store is all zeros
abbrev pub Wiped : List ℕ → List ℕ → Type 0
Wiped fs ws = (fs ≡ replicate (length fs) 0) × (ws ≡ replicate (length ws) 0)

-- it has a share for each join point
abbrev pub StoreLong : List ℕ → List ℕ → List ℕ → Type 0
StoreLong fn fs ws = (most * join_points fn ≤ length fs) × (most * join_points fn ≤ length ws)

-- the block b is visited
abbrev pub visiting : ℕ → Memory → Memory
visiting b m = record { kept = m.kept; waits = m.waits; visited = b ∷ m.visited; lines = m.lines }

module _ (Γ fn : List ℕ) where
  -- the entry's own lines, if the pass records
  abbrev pub entered : Bool → List At → Memory → Memory
  entered false ts m = m
  entered true ts m = record { kept = m.kept; waits = m.waits; visited = m.visited; lines = m.lines ++ mark (entry_point fn) ts }

  -- the opening of a pass: the entry's uses, and the jump to the start block
  unfoldable pub opens : Bool → Memory → Answer Memory
  opens recording m = enter_uses Γ (entry_uses fn) (leaves (local_types fn))
      >>= λ r. jumps Γ fn recording (nblocks fn) (opening_exit (frame Γ fn) r.0) (entered recording r.1 m)

  -- the rounds that are left
  abbrev pub rest : Bool → Memory → Answer Memory
  rest false m = solve (frame Γ fn) (store_of m) >>= λ s. done (with_store m s)
  rest true m = run_rounds (round_two (frame Γ fn) m.kept) (unvisited (frame Γ fn) m.kept) (log_of m) >>= λ g. done (with_log m g)

  -- a whole pass
  unfoldable pub pass : Bool → Memory → Answer Memory
  pass recording m = opens recording m >>= rest recording

-- nothing is stored, nothing waits
abbrev pub blank : Memory
blank = record { kept = λ b. none; waits = λ b. false; visited = []; lines = [] }

-- where the second pass begins: what the first has stored
abbrev pub again : (ℕ → Option Forest) → Memory
again kept = record { kept = kept; waits = λ b. false; visited = []; lines = [] }

-- a state is stored for the block b, and model's answer to its turn is not 0, which stands for a case that cannot arise
pub record Stored (Γ fn : List ℕ) (b : ℕ) (a : Arrays) (out : List ℕ) (o : Out) : Type 0 where
  pub below : b < nblocks fn
  pub memory : Memory
  pub is : Remembers Γ fn memory a
  pub spoken : Spoken fn o.recording memory.lines out o
  pub state : Forest
  pub there : memory.kept b ≡ some state
  pub goes : enters Γ fn o.recording (nblocks fn) b state (visiting b memory) ≢ refused 0

-- a first pass that is not refused, and what it has stored
pub record Inferred (Γ fn : List ℕ) (kept : ℕ → Option Forest) : Type 0 where
  pub entry : Forest × List At
  pub enters : enter_uses Γ (entry_uses fn) (leaves (local_types fn)) ≡ done entry
  pub store : Store Forest
  pub infers : infer (frame Γ fn) entry.0 ≡ done store
  pub same : store.kept ≡ kept

-- the memory with which a pass begins
abbrev pub Starts : (Γ fn : List ℕ) → Bool → Memory → Type 0
Starts Γ fn false m = m ≡ blank
Starts Γ fn true m = (kept : ℕ → Option Forest) × (m ≡ again kept) × Inferred Γ fn kept

-- the block of each rank
abbrev pub Inverted : (fn blocks : List ℕ) → Type 0
Inverted fn blocks = Inverse (rank fn) (nblocks fn) blocks

-- a pass begins, and model's answer to it is not 0
pub record Begins (Γ fn : List ℕ) (recording : Bool) (a : Arrays) : Type 0 where
  pub memory : Memory
  pub is : Remembers Γ fn memory a
  pub starts : Starts Γ fn recording memory
  pub goes : pass Γ fn recording memory ≢ refused 0

-- nor to its opening
pub record Opening (Γ fn : List ℕ) (recording : Bool) (a : Arrays) : Type 0 where
  pub memory : Memory
  pub is : Remembers Γ fn memory a
  pub lines : memory.lines ≡ []
  pub goes : opens Γ fn recording memory ≢ refused 0

-- the arrays with which it does: no block was visited, none waits
abbrev pub fresh : List ℕ → List ℕ → List ℕ → Arrays
fresh memo fs ws = arrays (kept_in memo) (replicate 256 0) no_bits fs ws

-- model's answer a to a pass, in what outlives it
pub record Ends (Γ fn : List ℕ) (recording : Bool) (kept fs ws out : List ℕ) (a : Answer Memory) (kept' fs' ws' out' : List ℕ) (r : Result Out Refusal) : Type 0 where
  pub same_kept : length kept' ≡ length kept
  pub same_forms : length fs' ≡ length fs
  pub same_whats : length ws' ≡ length ws
  pub same_out : length out' ≡ length out
  pub denied : (n : ℕ) → a ≡ refused n → answered r ≡ refused n
  pub over : (m : Memory) → a ≡ done m
      → (o : Out) × (v : List ℕ) × (w : List ℕ) × (r ≡ Ok o) × Remembers Γ fn m (arrays kept' v w fs' ws') × Spoken fn recording m.lines out' o

-- WHAT THE CODE DOES, from whatever memory the arrays and the buffer have

-- the opening of a pass
abbrev pub Opens : (Γ fn : List ℕ) → Bool → Change → Lent → Result Out Refusal → Type 0
Opens Γ fn recording x out r = (m : Memory) → m.lines ≡ [] → Remembers Γ fn m x.before
    → Visits Γ fn recording x.before (was out) (opens Γ fn recording m) x.behind (after out) r

-- one popped block, from the state stored for it
abbrev pub Turns : (Γ fn : List ℕ) → Change → Lent → ℕ → Out → Result Out Refusal → Type 0
Turns Γ fn x out b o r = (m : Memory) (S : Forest) → Remembers Γ fn m x.before → m.kept b ≡ some S
    → Spoken fn o.recording m.lines (was out) o
    → Visits Γ fn o.recording x.before (was out) (enters Γ fn o.recording (nblocks fn) b S (visiting b m)) x.behind (after out) r

-- a whole pass
abbrev pub Runs : (Γ fn : List ℕ) → Bool → (memo fs ws out : Lent) → Result Out Refusal → Type 0
Runs Γ fn recording memo fs ws out r = (m : Memory) → Starts Γ fn recording m → Remembers Γ fn m (fresh (was memo) (was fs) (was ws))
    → Ends Γ fn recording (kept_in (was memo)) (was fs) (was ws) (was out) (pass Γ fn recording m) (kept_in (after memo)) (after fs) (after ws) (after out) r
