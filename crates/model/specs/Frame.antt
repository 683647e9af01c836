-- The analysis over any states: what it is given (`Frame`: the graph, one block's own run, the join of states), and the visit of
-- a block: what happens from its start until every way from it has come to a join point (`basic_block`, `goto`). Stored
-- states don't matter to a visit, so both passes and the replay share it. Nothing of trees.
use Rattle.std.specs.Prelude.{Bool, true, false, List, [], ◌∷◌, ℕ, zero, suc}
use Rattle.model.specs.Answer.{Answer, refused, done, ◌>>=◌}

-- a statement recorded at a point (an item, or the entry)
pub record Line (Stmt : Type 0) : Type 0 where
  pub point : ℕ
  pub stmt : Stmt

-- statements, all at one point
unfoldable pub mark : {Stmt : Type 0} → ℕ → List Stmt → List (Line Stmt)
mark i [] = []
mark i (t ∷ ts) = record { point = i; stmt = t } ∷ mark i ts

-- a jump: by which target item, to which block, with which state
pub record Exit (Env : Type 0) : Type 0 where
  pub item : ℕ
  pub block : ℕ
  pub state : Env

abbrev pub target : {Env : Type 0} → Exit Env → ℕ × ℕ
target x = (x.item, x.block)

-- a block's own run: what it records, and how it is left, in order
pub record Work (Env Stmt : Type 0) : Type 0 where
  pub lines : List (Line Stmt)
  pub exits : List (Exit Env)

pub record Frame (Env Stmt : Type 0) : Type 0 where
  pub blocks : ℕ  -- B; the start block is 0
  pub join_point : ℕ → Bool
  pub rank : ℕ → ℕ
  pub targets : ℕ → List (ℕ × ℕ)  -- of a block's ender, in order: the target item, the block that it names
  pub entry : ℕ  -- the entry's point, which is no block's
  pub body : ℕ → Env → Answer (Work Env Stmt)  -- refused, or through to its exits
  pub join : Env → Env → Env
  pub changed : Env → Env → Bool  -- the join's first flag
  pub room : Env → Bool
  pub cost : Env → ℕ  -- falls with each join that changes; at most top
  pub top : ℕ
  pub collect : Env → Env → Answer (List Stmt)  -- the statements that take the first state to the second
  pub carry : Stmt → Env → Answer Env  -- one statement carried out

-- what happens, in order; over, or ended by a refusal
pub data Outcome (Env Stmt : Type 0) : Type 0 where
  over : Outcome Env Stmt
  stop : ℕ → Outcome Env Stmt
  into : ℕ → Env → Outcome Env Stmt → Outcome Env Stmt  -- a block is entered
  say : Line Stmt → Outcome Env Stmt → Outcome Env Stmt  -- a statement is recorded
  meet : Exit Env → Outcome Env Stmt → Outcome Env Stmt  -- a state arrives at a join point

module _ {Env Stmt : Type 0} where
  unfoldable pub next : Outcome Env Stmt → Outcome Env Stmt → Outcome Env Stmt
  next over q = q
  next (stop r) q = stop r
  next (into b E o) q = into b E (next o q)
  next (say l o) q = say l (next o q)
  next (meet x o) q = meet x (next o q)

  unfoldable pub says : List (Line Stmt) → Outcome Env Stmt → Outcome Env Stmt
  says [] o = o
  says (l ∷ ls) o = say l (says ls o)

module _ {Env Stmt : Type 0} (F : Frame Env Stmt) where
  -- a jump: an arrival at a join point; any other block is entered at once
  unfoldable pub goto : (ℕ → Env → Outcome Env Stmt) → Exit Env → Outcome Env Stmt
  goto go x = elim (F.join_point x.block) [ true ↦ meet x over | false ↦ go x.block x.state ]

  unfoldable pub leave : (ℕ → Env → Outcome Env Stmt) → List (Exit Env) → Outcome Env Stmt
  leave go [] = over
  leave go (x ∷ xs) = next (goto go x) (leave go xs)

  unfoldable pub work : (ℕ → Env → Outcome Env Stmt) → Answer (Work Env Stmt) → Outcome Env Stmt
  work go (refused r) = stop r
  work go (done w) = says w.lines (leave go w.exits)

  -- a block is entered, with at most n blocks on the way (`basic_block`)
  unfoldable pub enter : ℕ → ℕ → Env → Outcome Env Stmt
  enter zero b E = stop 0
  enter (suc n) b E = into b E (work (λ c D. enter n c D) (F.body b E))

  unfoldable pub visit : ℕ → Env → Outcome Env Stmt
  visit b E = enter F.blocks b E

  -- the jump from the entry, in the state that the entry's uses leave
  abbrev pub opening_exit : Env → Exit Env
  opening_exit E = record { item = F.entry; block = 0; state = E }

  unfoldable pub opening : Env → Outcome Env Stmt
  opening E = goto visit (opening_exit E)

-- statements carried out in order
unfoldable pub carries : {Env Stmt : Type 0} → Frame Env Stmt → List Stmt → Env → Answer Env
carries F [] E = done E
carries F (t ∷ ts) E = F.carry t E >>= (λ D. carries F ts D)
