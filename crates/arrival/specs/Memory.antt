-- What both passes hold, in one: the stored states, the waiting blocks, the blocks visited, the lines recorded. A pass that records
-- is model's second (Log), one that does not its first (Store).
use Rattle.std.specs.Prelude.{Bool, true, false, List, ◌∷◌, ℕ}
use Rattle.std.proofs.Math.Option.{Option}
use Rattle.model.specs.Answer.{Answer, done, ◌>>=◌}
use Rattle.model.specs.Tree.{Forest}
use Rattle.model.specs.Place.{At}
use Rattle.model.specs.Rounds.{put}
use Rattle.model.specs.Frame.{Line, Exit}
use Rattle.model.specs.Passes.{Store, arrive, Log, hear, arrive_at}
use Rattle.model.specs.Block.{matched, targets}
use Rattle.model.specs.Body.{exits_of, frame}
use Rattle.solver.specs.Direct as Direct

pub record Memory : Type 0 where
  pub kept : ℕ → Option Forest
  pub waits : ℕ → Bool
  pub visited : List ℕ
  pub lines : List (Line At)

-- the first pass's part of it, and back
abbrev pub store_of : Memory → Store Forest
store_of m = record { kept = m.kept; waits = m.waits }

abbrev pub with_store : Memory → Store Forest → Memory
with_store m s = record { kept = s.kept; waits = s.waits; visited = m.visited; lines = m.lines }

-- the second pass's, and back
abbrev pub log_of : Memory → Log At
log_of m = record { visited = m.visited; waits = m.waits; lines = m.lines }

abbrev pub with_log : Memory → Log At → Memory
with_log m g = record { kept = m.kept; waits = g.waits; visited = g.visited; lines = g.lines }

-- the block b is popped
abbrev pub popped : ℕ → Memory → Memory
popped b m = record { kept = m.kept; waits = put m.waits b false; visited = b ∷ m.visited; lines = m.lines }

module _ (Γ fn : List ℕ) where
  -- a line is recorded, if the pass records
  abbrev pub hears : Bool → Line At → Memory → Memory
  hears false l m = m
  hears true l m = with_log m (hear (frame Γ fn) m.kept l (log_of m))

  -- a state arrives at a join point
  abbrev pub arrives : Bool → Exit Forest → Memory → Answer Memory
  arrives false x m = arrive (frame Γ fn) x (store_of m) >>= λ s. done (with_store m s)
  arrives true x m = arrive_at (frame Γ fn) m.kept x (log_of m) >>= λ g. done (with_log m g)

  -- a block is entered, with at most n blocks on the way
  abbrev pub enters : Bool → ℕ → ℕ → Forest → Memory → Answer Memory
  enters recording n b E m = Direct.do_enter (frame Γ fn) (hears recording) (arrives recording) n b E m

  -- a jump
  abbrev pub jumps : Bool → ℕ → Exit Forest → Memory → Answer Memory
  jumps recording n x m = Direct.do_goto (frame Γ fn) (hears recording) (arrives recording) (λ c D t. enters recording n c D t) x m

  -- a block is left by its targets, in the state E that its items leave
  abbrev pub departs : Bool → ℕ → ℕ → Forest → Memory → Answer Memory
  departs recording n b E m = exits_of Γ fn (matched fn b) (targets fn b) E
      >>= λ xs. Direct.do_leave (frame Γ fn) (hears recording) (arrives recording) (λ c D t. enters recording n c D t) xs m
