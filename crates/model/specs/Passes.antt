-- The two passes (`run` with `Infer`, and with `Elaboration`), over any states.
use Rattle.std.specs.Prelude.{Bool, true, false, cond, List, [], ◌∷◌, ◌++◌, ℕ, suc, ◌+◌}
use Rattle.std.proofs.Math.Option.{Option, none, some}
use Rattle.model.specs.Words.{sum}
use Rattle.model.specs.Answer.{Answer, refused, done, ◌>>=◌}
use Rattle.model.specs.Rounds.{Round, idle, broke, turn, run_rounds, lowest, put, elem, left}
use Rattle.model.specs.Frame.{Line, mark, Exit, Frame, Outcome, over, stop, into, say, meet, visit, opening}

-- an outcome is taken in: statements by `hear`, arrivals by `arrive`, which may refuse
unfoldable pub absorb : {Env Stmt S : Type 0} → (Line Stmt → S → S) → (Exit Env → S → Answer S) → Outcome Env Stmt → S → Answer S
absorb hear arrive over s = done s
absorb hear arrive (stop r) s = refused r
absorb hear arrive (into b E o) s = absorb hear arrive o s
absorb hear arrive (say l o) s = absorb hear arrive o (hear l s)
absorb hear arrive (meet x o) s = arrive x s >>= (λ t. absorb hear arrive o t)

-- the stored states (`bb_envs`) and the waiting blocks (`queue`)
pub record Store (Env : Type 0) : Type 0 where
  pub kept : ℕ → Option Env
  pub waits : ℕ → Bool

module _ {Env : Type 0} where
  abbrev pub empty : Store Env
  empty = record { kept = λ b. none; waits = λ b. false }

  abbrev pub keep : ℕ → Env → Store Env → Store Env
  keep b E s = record { kept = put s.kept b (some E); waits = put s.waits b true }

  abbrev pub unwait : ℕ → Store Env → Store Env
  unwait b s = record { kept = s.kept; waits = put s.waits b false }

module _ {Env Stmt : Type 0} (F : Frame Env Stmt) where
  -- one round: the waiting block of lowest rank is popped, and visited from its stored state. (What waits is stored)
  abbrev pub popped : {S : Type 0} → (ℕ → Bool) → (ℕ → Option Env) → (ℕ → Env → Answer S) → Round S
  popped waits kept f = elim (lowest F.rank waits F.blocks) [
    | none ↦ idle
    | some b ↦ elim (kept b) [ none ↦ broke 0 | some S ↦ turn (f b S) ]
  ]

  -- THE FIRST PASS
  -- an arrival at a stored state: it is joined in, and waits exactly if that changed it. 9 if the join has no room
  unfoldable pub merge : Exit Env → Env → Store Env → Answer (Store Env)
  merge x S s = elim (F.room (F.join S x.state)) [
    | true ↦ elim (F.changed S x.state) [ true ↦ done (keep x.block (F.join S x.state) s) | false ↦ done s ]
    | false ↦ refused 9
  ]

  -- `Infer::goto_join_point`
  unfoldable pub arrive : Exit Env → Store Env → Answer (Store Env)
  arrive x s = elim (s.kept x.block) [ none ↦ done (keep x.block x.state s) | some S ↦ merge x S s ]

  -- the first pass records nothing
  unfoldable pub take_in : Outcome Env Stmt → Store Env → Answer (Store Env)
  take_in o s = absorb (λ l s. s) arrive o s

  unfoldable pub round : Store Env → Round (Store Env)
  round s = popped s.waits s.kept (λ b S. take_in (visit F b S) (unwait b s))

  -- a number that falls with every round: twice the costs of the stored states, and the waiting blocks
  unfoldable pub weigh : Option Env → Bool → ℕ
  weigh none w = suc F.top + suc F.top + cond w 1 0
  weigh (some S) w = F.cost S + F.cost S + cond w 1 0

  unfoldable pub load : Store Env → ℕ
  load s = sum (λ b. weigh (s.kept b) (s.waits b)) F.blocks

  unfoldable pub solve : Store Env → Answer (Store Env)
  solve s = run_rounds round load s

  -- the first pass, from the state that the entry's uses leave
  unfoldable pub infer : Env → Answer (Store Env)
  infer E = take_in (opening F E) empty >>= solve

-- THE SECOND PASS
pub record Log (Stmt : Type 0) : Type 0 where
  pub visited : List ℕ  -- the latest first
  pub waits : ℕ → Bool
  pub lines : List (Line Stmt)

module _ {Env Stmt : Type 0} (F : Frame Env Stmt) (kept : ℕ → Option Env) where
  unfoldable pub hear : Line Stmt → Log Stmt → Log Stmt
  hear l g = record { visited = g.visited; waits = g.waits; lines = g.lines ++ (l ∷ []) }

  -- the block waits, unless it was visited
  unfoldable pub arrived : Exit Env → List Stmt → Log Stmt → Log Stmt
  arrived x ts g = record {
    visited = g.visited;
    waits = cond (elem x.block g.visited) g.waits (put g.waits x.block true);
    lines = g.lines ++ mark x.item ts;
  }

  -- an arrival: the statements from its state to the stored one are recorded at its target item
  unfoldable pub reconcile : Exit Env → Env → Log Stmt → Answer (Log Stmt)
  reconcile x S g = F.collect x.state S >>= (λ ts. done (arrived x ts g))

  -- `Elaboration::goto_join_point`
  unfoldable pub arrive_at : Exit Env → Log Stmt → Answer (Log Stmt)
  arrive_at x g = elim (kept x.block) [ none ↦ refused 0 | some S ↦ reconcile x S g ]

  unfoldable pub take_down : Outcome Env Stmt → Log Stmt → Answer (Log Stmt)
  take_down o g = absorb hear arrive_at o g

  abbrev pub visiting : ℕ → Log Stmt → Log Stmt
  visiting b g = record { visited = b ∷ g.visited; waits = put g.waits b false; lines = g.lines }

  unfoldable pub round_two : Log Stmt → Round (Log Stmt)
  round_two g = popped F g.waits kept (λ b S. take_down (visit F b S) (visiting b g))

  unfoldable pub unvisited : Log Stmt → ℕ
  unvisited g = left F.blocks g.visited

  -- the second pass, from the entry's own statements and the state that they leave
  abbrev pub fresh_log : List Stmt → Log Stmt
  fresh_log ts = record { visited = []; waits = λ b. false; lines = mark F.entry ts }

  unfoldable pub elaborate : List Stmt → Env → Answer (Log Stmt)
  elaborate ts E = take_down (opening F E) (fresh_log ts) >>= run_rounds round_two unvisited

-- THE WHOLE
-- what both passes find: the stored states, and what is recorded
pub record Found (Env Stmt : Type 0) : Type 0 where
  pub kept : ℕ → Option Env
  pub lines : List (Line Stmt)

module _ {Env Stmt : Type 0} (F : Frame Env Stmt) where
  -- from the entry's own statements and the state that they leave (`add_ghost_statements`)
  unfoldable pub analyse : List Stmt → Env → Answer (Found Env Stmt)
  analyse ts E₀ = infer F E₀ >>= (λ s. elaborate F s.kept ts E₀ >>= (λ g. done (record { kept = s.kept; lines = g.lines })))
