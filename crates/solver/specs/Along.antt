-- A map between the states of two frames that goes along with what a frame gives (`Along`; the analysis doesn't ask for targets) leads a visit and the first pass of
-- the one to those of the other: the stores are mapped, and the refusals are the same. Pass 2 and the whole are in AlongWhole.
use Rattle.std.specs.Prelude.{◌≡◌, Bool, true, eqb}
use Rattle.std.proofs.Math.Path.{refl, ap, ap₂, fun_ext}
use Rattle.std.proofs.Common.{◌∙◌}
use mathlib.Core.List.{List, [], ◌∷◌, map}
use Rattle.std.proofs.Math.Option
use Rattle.std.proofs.Math.Option.{Option, none, some}
use Prim.Native.Nat.{ℕ, zero, suc}
use Rattle.model.specs.Words.{sum}
use Rattle.model.specs.Answer.{Answer, refused, done}
use Rattle.model.specs.Rounds.{Round, idle, broke, turned, loop, run_rounds, lowest, put}
use Rattle.model.specs.Frame.{Line, Exit, Work, Frame, Outcome, over, stop, into, say, meet, next, says, goto, leave, work, enter, visit, opening_exit, opening}
use Rattle.model.specs.Passes.{absorb, Store, keep, popped, merge, weigh, load, Found}
use Rattle.base.specs.Tests.{split, split_option}
use Rattle.base.specs.Answer.{split_answer, answer_map}
use Rattle.base.specs.Below.{sum_same}
use Rattle.solver.specs.Loop.{rounds}

-- MAPS

-- the state of a round that goes on, mapped
abbrev pub round_map : {S T : Type 0} → (S → T) → Round S → Round T
round_map k idle = idle
round_map k (broke r) = broke r
round_map k (turned s) = turned (k s)

module _ {Env Env' : Type 0} (h : Env → Env') where
  -- a jump's state
  abbrev pub exit_map : Exit Env → Exit Env'
  exit_map x = record { item = x.item; block = x.block; state = h x.state }

  -- the stored states
  abbrev pub kept_map : (ℕ → Option Env) → ℕ → Option Env'
  kept_map kept b = Option.map h (kept b)

  -- those of a store; the same blocks wait
  abbrev pub store_map : Store Env → Store Env'
  store_map s = record { kept = kept_map s.kept; waits = s.waits }

  module _ {Stmt : Type 0} where
    -- the states of a block's exits; its lines stay
    abbrev pub work_map : Work Env Stmt → Work Env' Stmt
    work_map w = record { lines = w.lines; exits = map exit_map w.exits }

    -- the states of an outcome
    unfoldable pub outcome_map : Outcome Env Stmt → Outcome Env' Stmt
    outcome_map over = over
    outcome_map (stop r) = stop r
    outcome_map (into b E o) = into b (h E) (outcome_map o)
    outcome_map (say l o) = say l (outcome_map o)
    outcome_map (meet x o) = meet (exit_map x) (outcome_map o)

    -- the stored states of what both passes find; its lines stay
    abbrev pub found_map : Found Env Stmt → Found Env' Stmt
    found_map f = record { kept = kept_map f.kept; lines = f.lines }

-- h goes along with both frames: G does to h's images what F does
pub record Along {Env Env' Stmt : Type 0} (F : Frame Env Stmt) (G : Frame Env' Stmt) (h : Env → Env') : Type 0 where
  pub blocks : G.blocks ≡ F.blocks
  pub join_points : (b : ℕ) → G.join_point b ≡ F.join_point b
  pub ranks : (b : ℕ) → G.rank b ≡ F.rank b
  pub entry : G.entry ≡ F.entry
  pub bodies : (b : ℕ) (E : Env) → G.body b (h E) ≡ answer_map (work_map h) (F.body b E)
  pub joins : (S E : Env) → G.join (h S) (h E) ≡ h (F.join S E)
  pub changes : (S E : Env) → G.changed (h S) (h E) ≡ F.changed S E
  pub rooms : (E : Env) → G.room (h E) ≡ F.room E
  pub costs : (E : Env) → G.cost (h E) ≡ F.cost E
  pub tops : G.top ≡ F.top
  pub collects : (E S : Env) → G.collect (h E) (h S) ≡ F.collect E S
  pub carrying : (a : Stmt) (E : Env) → G.carry a (h E) ≡ answer_map h (F.carry a E)

-- STORES, LOOPS AND OUTCOMES

-- a function changed at one number
put_along : {A B : Type 0} (k : A → B) (f : ℕ → A) (b : ℕ) (a : A) (x : ℕ) → put (λ c. k (f c)) b (k a) x ≡ k (put f b a x)
unfolding put
put_along k f b a x = split (eqb b x) (λ e. cc) (λ e. cc)

-- a state is stored
pub keep_along : {Env Env' : Type 0} (h : Env → Env') (b : ℕ) (E : Env) (s : Store Env) → keep b (h E) (store_map h s) ≡ store_map h (keep b E s)
keep_along h b E s = λ i. record { kept = λ c. put_along (Option.map h) s.kept b (some E) c i; waits = put s.waits b true }

-- rounds that go along: so do their loops
module _ {S T : Type 0} (k : S → T) (round : S → Round S) (round' : T → Round T) (same : (s : S) → round' (k s) ≡ round_map k (round s)) where
  -- with any fuel
  loop_along : (n : ℕ) (s : S) → loop round' n (k s) ≡ answer_map k (loop round n s)
  unfolding loop
  loop_along zero s = refl
  loop_along (suc n) s = rounds (round s) (λ e. cc (same s)) (λ r e. cc (same s)) (λ t e. cc (same s, loop_along n t))

  -- with the same fuel
  pub run_along : (load : S → ℕ) (load' : T → ℕ) → ((s : S) → load' (k s) ≡ load s)
      → (s : S) → run_rounds round' load' (k s) ≡ answer_map k (run_rounds round load s)
  unfolding run_rounds
  run_along load load' e s = ap (λ (n : ℕ). loop round' (suc n) (k s)) (e s) ∙ loop_along (suc (load s)) s

-- lines and arrivals that go along: so does an outcome
module _ {Env Env' Stmt S T : Type 0} (h : Env → Env') (k : S → T)
    (hear : Line Stmt → S → S) (hear' : Line Stmt → T → T) (heard : (l : Line Stmt) (s : S) → hear' l (k s) ≡ k (hear l s))
    (arrive : Exit Env → S → Answer S) (arrive' : Exit Env' → T → Answer T)
    (met : (x : Exit Env) (s : S) → arrive' (exit_map h x) (k s) ≡ answer_map k (arrive x s)) where
  -- an outcome taken in by either pass
  pub absorb_along : (o : Outcome Env Stmt) (s : S) → absorb hear' arrive' (outcome_map h o) (k s) ≡ answer_map k (absorb hear arrive o s)
  unfolding absorb outcome_map
  absorb_along over s = refl
  absorb_along (stop r) s = refl
  absorb_along (into b E o) s = absorb_along o s
  absorb_along (say l o) s = ap (absorb hear' arrive' (outcome_map h o)) (heard l s) ∙ absorb_along o (hear l s)
  absorb_along (meet x o) s = split_answer (arrive x s) (λ r e. cc (met x s)) (λ t e. cc (met x s, absorb_along o t))

-- one outcome after the other
next_along : {Env Env' Stmt : Type 0} (h : Env → Env') (o q : Outcome Env Stmt) → next (outcome_map h o) (outcome_map h q) ≡ outcome_map h (next o q)
unfolding next outcome_map
next_along h over q = refl
next_along h (stop r) q = refl
next_along h (into b E o) q = ap (into b (h E)) (next_along h o q)
next_along h (say l o) q = ap (say l) (next_along h o q)
next_along h (meet x o) q = ap (meet (exit_map h x)) (next_along h o q)

-- lines first
says_along : {Env Env' Stmt : Type 0} (h : Env → Env') (ls : List (Line Stmt)) (o : Outcome Env Stmt) → says ls (outcome_map h o) ≡ outcome_map h (says ls o)
unfolding says outcome_map
says_along h [] o = refl
says_along h (l ∷ ls) o = ap (say l) (says_along h ls o)

module _ {Env Env' Stmt : Type 0} {F : Frame Env Stmt} {G : Frame Env' Stmt} {h : Env → Env'} (A : Along F G h) where
  -- A VISIT

  -- what follows a jump, if entering a block goes along
  module _ (go : ℕ → Env → Outcome Env Stmt) (go' : ℕ → Env' → Outcome Env' Stmt) (same : (b : ℕ) (E : Env) → go' b (h E) ≡ outcome_map h (go b E)) where
    -- a jump
    goto_along : (x : Exit Env) → goto G go' (exit_map h x) ≡ outcome_map h (goto F go x)
    unfolding goto outcome_map
    goto_along x = split (F.join_point x.block)
        (λ e. cc (A.join_points x.block))
        (λ e. cc (A.join_points x.block, same x.block x.state))

    -- all jumps of a block
    leave_along : (xs : List (Exit Env)) → leave G go' (map (exit_map h) xs) ≡ outcome_map h (leave F go xs)
    unfolding leave outcome_map
    leave_along [] = refl
    leave_along (x ∷ xs) = ap₂ next (goto_along x) (leave_along xs) ∙ next_along h (goto F go x) (leave F go xs)

    -- what follows a block's own run
    work_along : (a : Answer (Work Env Stmt)) → work G go' (answer_map (work_map h) a) ≡ outcome_map h (work F go a)
    unfolding work outcome_map
    work_along (refused r) = refl
    work_along (done w) = ap (says w.lines) (leave_along w.exits) ∙ says_along h w.lines (leave F go w.exits)

  -- a block entered, with the same fuel
  enter_along : (n b : ℕ) (E : Env) → enter G n b (h E) ≡ outcome_map h (enter F n b E)
  unfolding enter outcome_map
  enter_along zero b E = refl
  enter_along (suc n) b E = ap (into b (h E)) (ap (work G (enter G n)) (A.bodies b E) ∙ work_along (enter F n) (enter G n) (enter_along n) (F.body b E))

  -- a visit
  pub visit_along : (b : ℕ) (E : Env) → visit G b (h E) ≡ outcome_map h (visit F b E)
  unfolding visit
  visit_along b E = ap (λ (n : ℕ). enter G n b (h E)) A.blocks ∙ enter_along F.blocks b E

  -- the opening
  pub opening_along : (E : Env) → opening G (h E) ≡ outcome_map h (opening F E)
  unfolding opening
  opening_along E = ap (λ (i : ℕ). goto G (visit G) (record { item = i; block = 0; state = h E })) A.entry
      ∙ goto_along (visit F) (visit G) visit_along (opening_exit F E)

  -- A ROUND OF EITHER PASS

  -- the same block is popped
  pub popped_along : {S T : Type 0} (k : S → T) (waits : ℕ → Bool) (kept : ℕ → Option Env) (f : ℕ → Env → Answer S) (g : ℕ → Env' → Answer T)
      → ((b : ℕ) (E : Env) → g b (h E) ≡ answer_map k (f b E))
      → popped G waits (kept_map h kept) g ≡ round_map k (popped F waits kept f)
  popped_along k waits kept f g same =
      let q : lowest G.rank waits G.blocks ≡ lowest F.rank waits F.blocks = ap₂ (λ r n. lowest r waits n) (fun_ext A.ranks) A.blocks in
      split_option (lowest F.rank waits F.blocks)
      (λ e. cc)
      (λ b e. split_option (kept b)
      (λ d. cc)
      (λ S d. split_answer (f b S) (λ r c. cc (same b S)) (λ t c. cc (same b S))))

  -- THE FIRST PASS

  -- an arrival at a stored state
  pub merge_along : (x : Exit Env) (S : Env) (s : Store Env) → merge G (exit_map h x) (h S) (store_map h s) ≡ answer_map (store_map h) (merge F x S s)
  unfolding merge
  merge_along x S s =
      let E = x.state in
      let J = F.join S E in
      split (F.room J)
      (λ e. split (F.changed S E)
      (λ d. cc (A.joins S E, A.rooms J, A.changes S E, keep_along h x.block J s))
      (λ d. cc (A.joins S E, A.rooms J, A.changes S E)))
      (λ e. cc (A.joins S E, A.rooms J))

  -- what a block weighs
  weigh_along : (o : Option Env) (w : Bool) → weigh G (Option.map h o) w ≡ weigh F o w
  unfolding weigh
  weigh_along none w = cc A.tops
  weigh_along (some S) w = cc (A.costs S)

  -- the load
  pub load_along : (s : Store Env) → load G (store_map h s) ≡ load F s
  unfolding load
  load_along s = ap (sum (λ b. weigh G (kept_map h s.kept b) (s.waits b))) A.blocks
      ∙ sum_same (λ b. weigh G (kept_map h s.kept b) (s.waits b)) (λ b. weigh F (s.kept b) (s.waits b)) F.blocks
      (λ b l. weigh_along (s.kept b) (s.waits b))
