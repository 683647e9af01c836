-- Changes, continued from specs/Changes: theorems that rest on others.
use Rattle.std.specs.Prelude.{◌≡◌}
use Prim.Native.Nat.{ℕ, zero, suc, ◌+◌, ◌≤◌}
use native.Mathlib.Omega.{arith}
use Rattle.model.specs.Rounds.{lowest}
use Rattle.model.specs.Frame.{Frame, Outcome, visit, opening}
use Rattle.model.specs.Passes.{absorb, Store, empty, unwait, arrive, take_in, round, load}
use Rattle.base.specs.Tests.{split_option}
use Rattle.base.specs.Answer.{split_answer}
use Rattle.solver.specs.Loop.{rounds}
use Rattle.solver.specs.Laws.{Good, Lattice, Bodies, Edges}
use Rattle.solver.specs.Outcome.{Every, every_over, every_stop, every_into, every_say, every_meet}
use Rattle.solver.specs.Arrivals.{Fair, visit_fair, opening_fair}
use Rattle.solver.specs.Termination.{Sound, arrive_law, unwait_sound, solve_falls}
use Rattle.solver.specs.Solution.{empty_sound, partial_opens}
use Rattle.solver.specs.Changes.{arrive_slack, changes, changes_from, changes_in, changes_loop, changes_round, if_done, if_turned, left_at, slack}

module _ {Env Stmt : Type 0} (F : Frame Env Stmt) (Ok : Env → Type 0) (L : Lattice F Ok) (b : ℕ) where
  -- what is counted in an outcome, and what is left behind it, are no more than what was left before
  take_slack : (s : Store Env) {o : Outcome Env Stmt} → Sound F Ok s → Every (Fair F Ok) o → changes_in F b o s + if_done (left_at F Ok L b) (take_in F o s) ≤ (left_at F Ok L b) s
  unfolding changes_in take_in absorb if_done
  take_slack s H every_over = omega arith
  take_slack s H every_stop = omega arith
  take_slack s H (every_into h) = take_slack s H h
  take_slack s H (every_say h) = take_slack s H h
  take_slack s H (every_meet {x} {o} f h) = split_answer (arrive F x s)
      (λ r e. rw e (omega arith))
      (λ t e.
      let k = arrive_slack F Ok L b s t x H f.good e in
      let j = take_slack t (arrive_law F Ok L s t x H f.good e).grew.sound h in
      rw e (omega arith))

  module _ (B : Bodies F Ok) (G : Edges F) where
    -- what is counted in a round, and what is left behind it, are no more than what was left before
    round_slack : (s : Store Env) → Sound F Ok s → changes_round F b s + if_turned (left_at F Ok L b) (round F s) ≤ (left_at F Ok L b) s
    unfolding changes_round round if_turned if_done
    round_slack s H = split_option (lowest F.rank s.waits F.blocks)
        (λ p.
        let u : changes_round F b s ≡ 0 = cc in
        let v : if_turned (left_at F Ok L b) (round F s) ≡ 0 = cc in
        omega arith)
        (λ c p. split_option (s.kept c)
        (λ q.
        let u : changes_round F b s ≡ 0 = cc in
        let v : if_turned (left_at F Ok L b) (round F s) ≡ 0 = cc in
        omega arith)
        (λ S q.
        let o = visit F c S in
        let k = take_slack (unwait c s) (unwait_sound F Ok L c H) (visit_fair F Ok B G c S (H.fine c S q)) in
        let u : changes_round F b s ≡ changes_in F b o (unwait c s) = cc in
        let v : if_turned (left_at F Ok L b) (round F s) ≡ if_done (left_at F Ok L b) (take_in F o (unwait c s)) = split_answer (take_in F o (unwait c s)) (λ r e. cc) (λ t e. cc) in
        omega arith))

    -- so in any number of rounds
    loop_slack : (n : ℕ) (s : Store Env) → Sound F Ok s → changes_loop F b n s ≤ (left_at F Ok L b) s
    unfolding changes_loop if_turned
    loop_slack zero s H = omega arith
    loop_slack (suc n) s H =
        let k = round_slack s H in
        rounds (round F s)
        (λ e. rw e (omega (arith, rw e at k)))
        (λ r e. rw e (omega (arith, rw e at k)))
        (λ t e. rw e (omega (arith, rw e at k, loop_slack n t ((solve_falls F Ok L B G).keeps H e))))

    -- THE CEILING: a stored state changes at most `top` times after its first arrival
    pub changes_ceiling : {E : Env} → Good F Ok E → changes F b E ≤ F.top
    unfolding changes changes_from slack if_done
    changes_ceiling {E} g =
        let k = take_slack empty (empty_sound F Ok L B G) (opening_fair F Ok B G E g) in
        split_answer (take_in F (opening F E) empty)
        (λ r e. rw e (omega (arith, rw e at k)))
        (λ s e. rw e (omega (arith, rw e at k, loop_slack (suc (load F s)) s (partial_opens F Ok L B G g e).sound)))
