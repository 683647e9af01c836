-- What is asked of a frame: the hypotheses of the theorems, which the concrete side has to show.
use Rattle.std.specs.Prelude.{◌≡◌, true, false, List, map, ℕ, ◌≤◌, ◌<◌, eqb}
use Rattle.model.specs.Answer.{done}
use Rattle.model.specs.Frame.{Exit, Work, Frame, target, carries}
use Rattle.model.specs.Replay.{at_point}
use Rattle.base.specs.Each.{Each}
use Rattle.base.specs.Order.{Semilattice}
use Rattle.solver.specs.Lists.{Has, Once}
use Rattle.solver.specs.Player.{Player}

-- the laws of states, for those that are Ok
module _ {Env Stmt : Type 0} (F : Frame Env Stmt) (Ok : Env → Type 0) where
  -- a state of the run
  pub record Good (E : Env) : Type 0 where
    pub ok : Ok E
    pub fits : F.room E ≡ true

  -- the join, and a number that falls with each join that changes
  pub record Lattice : Type 0 where
    pub laws : Semilattice Env Ok F.join
    pub unchanged : {S E : Env} → Ok S → Ok E → F.changed S E ≡ false → F.join S E ≡ S
    pub falls : {S E : Env} → Good S → Ok E → F.room (F.join S E) ≡ true → F.changed S E ≡ true → F.cost (F.join S E) < F.cost S
    pub bounded : {E : Env} → Good E → F.cost E ≤ F.top

  -- a block's run keeps states good, and leaves by the listed targets, whatever the state
  pub record Bodies : Type 0 where
    pub good : {b : ℕ} {E : Env} {w : Work Env Stmt} → Good E → F.body b E ≡ done w → Each (λ x. Good x.state) w.exits
    pub listed : {b : ℕ} {E : Env} {w : Work Env Stmt} → F.body b E ≡ done w → map target w.exits ≡ F.targets b

-- what a collection of statements from E to S is
pub record Collected {Env Stmt : Type 0} (F : Frame Env Stmt) (E S : Env) : Type 0 where
  pub stmts : List Stmt
  pub given : F.collect E S ≡ done stmts
  pub leads : carries F stmts E ≡ done S

-- a state that is above another can be reached from it
pub record Collects {Env Stmt : Type 0} (F : Frame Env Stmt) (Ok : Env → Type 0) : Type 0 where
  pub collects : {S E : Env} → Ok S → Ok E → F.join S E ≡ S → Collected F E S

-- the graph
pub record Edges {Env Stmt : Type 0} (F : Frame Env Stmt) : Type 0 where
  pub some_block : 0 < F.blocks
  pub below : {b i c : ℕ} → Has (i, c) (F.targets b) → c < F.blocks
  -- a block that is no join point has at most one incoming target item, the start block none
  pub one_way : {b d i j c : ℕ} → F.join_point c ≡ false → Has (i, c) (F.targets b) → Has (j, c) (F.targets d) → (b ≡ d) × (i ≡ j)
  pub none_back : {b i : ℕ} → F.join_point 0 ≡ false → Has (i, 0) (F.targets b) → ⊥

-- the points: each is one block's, or the entry's; a target item is no point inside a block
module _ {Env Stmt : Type 0} (F : Frame Env Stmt) (owner : ℕ → ℕ) where
  -- p is a point inside the block b
  pub record Inside (b p : ℕ) : Type 0 where
    pub owned : owner p ≡ b
    pub apart : (i c : ℕ) → Has (i, c) (F.targets b) → eqb p i ≡ false

  -- whose each point is
  pub record Points : Type 0 where
    pub owned : {b i c : ℕ} → Has (i, c) (F.targets b) → owner i ≡ b
    pub once : (b : ℕ) → Once (map (λ t. t.0) (F.targets b))
    pub alone : (b : ℕ) → b < F.blocks → eqb (owner F.entry) b ≡ false
    pub inside : {b : ℕ} {E : Env} {w : Work Env Stmt} → F.body b E ≡ done w → Each (λ l. Inside b l.point) w.lines

-- the replay of a block by a script that has the block's own statements inside follows the block's run
pub record Followed {Env Stmt : Type 0} (R : Player Env Stmt) (f : ℕ → List Stmt) (b : ℕ) (E : Env) (w : Work Env Stmt) : Type 0 where
  pub end : Env
  pub ends : R.through b f E ≡ done end
  pub departs : {x : Exit Env} → Has x w.exits → R.depart b x.item end ≡ done x.state
  pub fine : R.Fine b f E

-- so for each block, from a good state
pub record Follows {Env Stmt : Type 0} (F : Frame Env Stmt) (Ok : Env → Type 0) (owner : ℕ → ℕ) (R : Player Env Stmt) : Type 0 where
  pub follows : {b : ℕ} {E : Env} {w : Work Env Stmt} {f : ℕ → List Stmt} → Good F Ok E → F.body b E ≡ done w
      → ((p : ℕ) → Inside F owner b p → f p ≡ at_point p w.lines) → Followed R f b E w

-- all that is asked of the frame and the player
pub record Lawful {Env Stmt : Type 0} (F : Frame Env Stmt) (Ok : Env → Type 0) (owner : ℕ → ℕ) (R : Player Env Stmt) : Type 0 where
  pub lattice : Lattice F Ok
  pub bodies : Bodies F Ok
  pub edges : Edges F
  pub points : Points F owner
  pub collects : Collects F Ok
  pub follows : Follows F Ok owner R
