-- How often a stored state changes in the run of the first pass, and the ceiling: at most `top` times after its first arrival,
-- whichever states arrive. The count is read off the run as it is defined; in a refused run it counts up to the refusal.
use Rattle.std.specs.Prelude.{◌≡◌, true, false, cond, eqb}
use Rattle.std.proofs.Math.Option.{Option, none, some}
use Prim.Native.Nat.{ℕ, zero, suc, ◌+◌, ◌≤◌, ◌<◌}
use native.Mathlib.Omega.{arith}
use borrow.Author.Tests.{eqb-true}
use Rattle.model.specs.Answer.{Answer, refused, done}
use Rattle.model.specs.Rounds.{Round, idle, broke, turned, lowest}
use Rattle.model.specs.Frame.{Exit, Frame, Outcome, over, stop, into, say, meet, visit, opening}
use Rattle.model.specs.Passes.{Store, empty, unwait, merge, arrive, take_in, round, load}
use Rattle.base.specs.Tests.{split, split_option, clash}
use Rattle.solver.specs.Lists.{put_same}
use Rattle.solver.specs.Loop.{rounds}
use Rattle.solver.specs.Laws.{Good, Lattice, Bodies, Edges}
use Rattle.solver.specs.Termination.{Sound, solve_falls}
use Rattle.solver.specs.Solution.{arrive_other}

-- THE COUNT

-- what is counted from an accepted answer on, or from a round that goes on
unfoldable pub if_done : {S : Type 0} → (S → ℕ) → Answer S → ℕ
if_done f (refused r) = 0
if_done f (done t) = f t

-- the same of a round
unfoldable pub if_turned : {S : Type 0} → (S → ℕ) → Round S → ℕ
if_turned f idle = 0
if_turned f (broke r) = 0
if_turned f (turned t) = f t

-- for the block b
module _ {Env Stmt : Type 0} (F : Frame Env Stmt) (b : ℕ) where
  -- 1 if an arrival finds a state stored at b, and its join changes it
  unfoldable pub alters : Exit Env → Store Env → ℕ
  alters x s = elim (eqb x.block b) [ true ↦ elim (s.kept b) [ none ↦ 0 | some S ↦ cond (F.changed S x.state) 1 0 ] | false ↦ 0 ]

  -- in taking in an outcome
  unfoldable pub changes_in : Outcome Env Stmt → Store Env → ℕ
  changes_in over s = 0
  changes_in (stop r) s = 0
  changes_in (into c E o) s = changes_in o s
  changes_in (say l o) s = changes_in o s
  changes_in (meet x o) s = if_done (λ t. alters x s + changes_in o t) (arrive F x s)

  -- in one round
  unfoldable pub changes_round : Store Env → ℕ
  changes_round s = elim (lowest F.rank s.waits F.blocks) [
    | none ↦ 0
    | some c ↦ elim (s.kept c) [ none ↦ 0 | some S ↦ changes_in (visit F c S) (unwait c s) ]
  ]

  -- in n rounds
  unfoldable pub changes_loop : ℕ → Store Env → ℕ
  changes_loop zero s = 0
  changes_loop (suc n) s = changes_round s + if_turned (λ t. changes_loop n t) (round F s)

  -- in all rounds from a store on, with the run's own fuel
  unfoldable pub changes_from : Store Env → ℕ
  changes_from s = changes_loop (suc (load F s)) s

  -- in the whole first pass, from the state that the entry's uses leave
  unfoldable pub changes : Env → ℕ
  changes E = changes_in (opening F E) empty + if_done changes_from (take_in F (opening F E) empty)

module _ {Env Stmt : Type 0} (F : Frame Env Stmt) (Ok : Env → Type 0) (L : Lattice F Ok) (b : ℕ) where
  -- how often what is stored at b can still change
  unfoldable pub slack : Option Env → ℕ
  slack none = F.top
  slack (some S) = F.cost S

  -- how often what a store has at b can still change
  abbrev pub left_at : Store Env → ℕ
  left_at s = slack (s.kept b)

  -- a change takes from it
  pub arrive_slack : (s t : Store Env) (x : Exit Env) → Sound F Ok s → Good F Ok x.state → arrive F x s ≡ done t → alters F b x s + left_at t ≤ left_at s
  unfolding arrive merge alters slack
  arrive_slack s t x H g e = split (eqb x.block b)
      (λ d.
      let z = eqb-true x.block b d in
      split_option (s.kept b)
      (λ p.
      let k : t.kept b ≡ some x.state = cc (put_same s.kept b (some x.state)) in
      rw (d, alters, p, k) (omega (arith, L.bounded g)))
      (λ S p.
      let E = x.state in
      let J = F.join S E in
      split (F.room J)
      (λ m. split (F.changed S E)
      (λ n.
      let k : t.kept b ≡ some J = cc (put_same s.kept b (some J)) in
      rw (d, alters, p, k, n) (omega (arith, L.falls (H.fine b S p) g.ok m n)))
      (λ n.
      let k : t.kept b ≡ some S = cc in
      rw (d, alters, p, k, n) (omega arith)))
      (λ m. clash (cc))))
      (λ d. rw (d, alters, arrive_other F s t x b d e) (omega arith))

  module _ (B : Bodies F Ok) (G : Edges F) where
    -- any two fuels that are enough count the same
    loop_count : (n m : ℕ) (s : Store Env) → Sound F Ok s → load F s < n → load F s < m → changes_loop F b n s ≡ changes_loop F b m s
    unfolding changes_loop if_turned
    loop_count zero m s H p q = absurd (omega arith)
    loop_count (suc n) zero s H p q = absurd (omega arith)
    loop_count (suc n) (suc m) s H p q = rounds (round F s) (λ e. cc) (λ r e. cc) (λ t e.
        let l = (solve_falls F Ok L B G).less H e in
        let h = loop_count n m t ((solve_falls F Ok L B G).keeps H e) (omega arith) (omega arith) in
        cc)

    -- one round of the count, with no fuel
    pub changes_from_round : (s : Store Env) → Sound F Ok s → changes_from F b s ≡ changes_round F b s + if_turned (changes_from F b) (round F s)
    unfolding changes_from changes_loop if_turned
    changes_from_round s H = rounds (round F s) (λ e. cc) (λ r e. cc) (λ t e.
        let l = (solve_falls F Ok L B G).less H e in
        let h = loop_count (load F s) (suc (load F t)) t ((solve_falls F Ok L B G).keeps H e) (omega arith) (omega arith) in
        cc)
