-- Elaborate, continued from specs/Elaborate: theorems that rest on others.
use Rattle.std.specs.Prelude.{◌≡◌, List}
use Rattle.std.proofs.Math.Bool.{true, false}
use Rattle.std.proofs.Math.Option.{Option, some}
use Prim.Native.Nat.{ℕ, ◌<◌}
use Rattle.model.specs.Answer.{done}
use Rattle.model.specs.Rounds.{elem, idle, broke, turned, run_rounds, lowest}
use Rattle.model.specs.Frame.{Frame}
use Rattle.model.specs.Passes.{Log, visiting, round_two, unvisited, fresh_log, elaborate}
use Rattle.base.specs.Tests.{split, split_option, clash}
use Rattle.solver.specs.Lists.{left_fall}
use Rattle.solver.specs.Loop.{after, Falls, run_round, run_ends, run_gives}
use Rattle.solver.specs.Lowest.{lowest_none, lowest_some}
use Rattle.solver.specs.Laws.{Bodies, Collects}
use Rattle.solver.specs.Solution.{Solution}
use Rattle.solver.specs.Told.{due}
use Rattle.solver.proofs.Told.{take_gives}
use Rattle.solver.specs.Elaborate.{Elaborated, Under, Went, reach_visited, under_opens, under_went}

module _ {Env Stmt : Type 0} (F : Frame Env Stmt) (Ok : Env → Type 0) (C : Collects F Ok) (kept : ℕ → Option Env) (ts : List Stmt) (E : Env) where
  module _ (X : Solution F Ok E kept) where
    -- a round that pops a block is not refused
    step_two : (g : Log Stmt) → Under F kept ts E g → (b : ℕ) → lowest F.rank g.waits F.blocks ≡ some b
        → (h : Log Stmt) × (round_two F kept g ≡ turned h) × Went F kept g h
    unfolding round_two
    step_two g U b e =
        let w = lowest_some F.rank g.waits F.blocks b e in
        let (S, p) = (U.waiting b w.1).1 in
        let (h, t, T) = take_gives F Ok C kept (visiting F kept b g) (X.visits b S p) in
        (h, cc, record { block = b; state = S; below = w.0; waited = w.1; stored = p; told = T })

    -- a round that goes on has visited a block
    turn_two : (g h : Log Stmt) → Under F kept ts E g → round_two F kept g ≡ turned h → Went F kept g h
    unfolding round_two
    turn_two g h U e = split_option (lowest F.rank g.waits F.blocks)
        (λ p. clash (cc))
        (λ b p. let (k, d, W) = step_two g U b p in let q : k ≡ h = cc in rw (← q) W)

    -- no round is refused
    calm_two : (g : Log Stmt) (k : ℕ) → Under F kept ts E g → round_two F kept g ≡ broke k → ⊥
    unfolding round_two
    calm_two g k U e = split_option (lowest F.rank g.waits F.blocks)
        (λ p. clash (cc))
        (λ b p. let (h, d, W) = step_two g U b p in clash (cc))

    -- at rest, nothing waits
    rest_two : (g : Log Stmt) → Under F kept ts E g → round_two F kept g ≡ idle → (b : ℕ) → b < F.blocks → g.waits b ≡ false
    unfolding round_two
    rest_two g U e = split_option (lowest F.rank g.waits F.blocks)
        (λ p. lowest_none F.rank g.waits F.blocks p)
        (λ b p. let (h, d, W) = step_two g U b p in clash (cc))

    -- TERMINATION: every round visits one block more
    pub elaborate_falls : Falls (round_two F kept) (Under F kept ts E) (unvisited F kept)
    unfolding unvisited
    elaborate_falls = record {
      keeps = λ {s = g} {t = h} U e. under_went F Ok C kept ts E U (turn_two g h U e);
      less = λ {s = g} {t = h} U e.
          let W = turn_two g h U e in
          let f = left_fall F.blocks W.block g.visited W.below (U.waiting W.block W.waited).0 in
          rw W.told.same f;
    }

    -- one round of the second pass
    pub elaborate_round : (g : Log Stmt) → Under F kept ts E g → run_rounds (round_two F kept) (unvisited F kept) g ≡ after g (round_two F kept g) (run_rounds (round_two F kept) (unvisited F kept))
    elaborate_round g U = run_round (round_two F kept) elaborate_falls g U

module _ {Env Stmt : Type 0} (F : Frame Env Stmt) (Ok : Env → Type 0) (B : Bodies F Ok) (C : Collects F Ok)
    (kept : ℕ → Option Env) (ts : List Stmt) (E : Env) (X : Solution F Ok E kept) where
  -- at rest, what is due was visited
  due_rest : (g : Log Stmt) → Under F kept ts E g → round_two F kept g ≡ idle → (c : ℕ) → due F kept g c ≡ true → elem c g.visited ≡ true
  unfolding due
  due_rest g U e c d = split (elem c g.visited) (λ f. f) (λ f.
      let w : g.waits c ≡ true = cc in
      let (S, p) = (U.waiting c w).1 in
      clash (cc (rest_two F Ok C kept ts E X g U e c (X.placed c S p).below)))

  -- THE SECOND PASS is never refused, visits every stored block exactly once, and records the story of its visits
  pub elaborate_works : (g : Log Stmt) × (elaborate F kept ts E ≡ done g) × Elaborated F kept ts E g
  unfolding elaborate
  elaborate_works =
      let (h, e, T) = take_gives F Ok C kept (fresh_log F kept ts) X.opens in
      let O = under_opens F Ok C kept ts E X T in
      let (g, d) = run_gives (round_two F kept) (elaborate_falls F Ok C kept ts E X) (calm_two F Ok C kept ts E X) h O in
      let K = run_ends (round_two F kept) (elaborate_falls F Ok C kept ts E X) O d in
      let U = K.holds in (
        g,
        cc,
        record {
          once = U.once;
          only = U.stored;
          every = λ b S p. reach_visited F Ok B C kept ts E X g U (due_rest g U K.rests) (X.placed b S p).reach;
          recorded = U.recorded;
        },
      )
