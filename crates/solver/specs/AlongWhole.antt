-- A map that goes along with two frames (Along) leads the second pass and the whole analysis of the one to those of the other: the same
-- lines, the stored states mapped, the same refusals. A log has no states in it, so both second passes leave the same log.
use Rattle.std.specs.Prelude.{◌≡◌, false, ℕ}
use Rattle.std.proofs.Math.Path.{refl, sym, ap, ap₂, fun_ext}
use Rattle.std.proofs.Common.{◌∙◌}
use mathlib.Core.List.{List, [], ◌∷◌}
use Rattle.std.proofs.Math.Option.{Option}
use Rattle.model.specs.Answer.{Answer, done, ◌>>=◌}
use Rattle.model.specs.Rounds.{Round, idle, broke, turned, left, run_rounds}
use Rattle.model.specs.Frame.{Exit, Frame, Outcome, visit, opening, carries, mark}
use Rattle.model.specs.Passes.{Log, hear, arrived, reconcile, arrive_at, take_down, visiting, round_two, unvisited, fresh_log, elaborate}
use Rattle.base.specs.Tests.{split_option}
use Rattle.base.specs.Answer.{split_answer, bind_done, answer_map}
use Rattle.solver.specs.Along.{round_map, exit_map, kept_map, outcome_map, Along, absorb_along, visit_along, opening_along, popped_along}

-- a round whose state stays as it is
round_same : {S : Type 0} (r : Round S) → round_map (λ s. s) r ≡ r
round_same idle = refl
round_same (broke r) = refl
round_same (turned s) = refl

module _ {Env Env' Stmt : Type 0} {F : Frame Env Stmt} {G : Frame Env' Stmt} {h : Env → Env'} (A : Along F G h) where
  -- THE SECOND PASS

  module _ (kept : ℕ → Option Env) where
    -- an arrival at a stored state
    reconcile_along : (x : Exit Env) (S : Env) (g : Log Stmt) → reconcile G (kept_map h kept) (exit_map h x) (h S) g ≡ reconcile F kept x S g
    unfolding reconcile arrived
    reconcile_along x S g = ap (λ (a : Answer (List Stmt)). a >>= (λ ts. done (arrived F kept x ts g))) (A.collects x.state S)

    -- any arrival
    arrive_at_along : (x : Exit Env) (g : Log Stmt) → arrive_at G (kept_map h kept) (exit_map h x) g ≡ arrive_at F kept x g
    unfolding arrive_at
    arrive_at_along x g = split_option (kept x.block) (λ e. cc) (λ S e. cc (reconcile_along x S g))

    -- an outcome taken down
    take_down_along : (o : Outcome Env Stmt) (g : Log Stmt) → take_down G (kept_map h kept) (outcome_map h o) g ≡ take_down F kept o g
    unfolding take_down hear
    take_down_along o g =
        absorb_along h (λ g. g) (hear F kept) (hear G (kept_map h kept)) (λ l g. refl) (arrive_at F kept) (arrive_at G (kept_map h kept))
        (λ x g. arrive_at_along x g ∙ sym (bind_done (arrive_at F kept x g))) o g
        ∙ bind_done (take_down F kept o g)

    -- one round
    pub round_two_along : (g : Log Stmt) → round_two G (kept_map h kept) g ≡ round_two F kept g
    unfolding round_two
    round_two_along g =
        popped_along A (λ g. g) g.waits kept
        (λ b S. take_down F kept (visit F b S) (visiting F kept b g))
        (λ b S. take_down G (kept_map h kept) (visit G b S) (visiting G (kept_map h kept) b g))
        (λ b S.
        let g' = visiting F kept b g in
        ap (λ (o : Outcome Env' Stmt). take_down G (kept_map h kept) o g') (visit_along A b S)
        ∙ take_down_along (visit F b S) g'
        ∙ sym (bind_done (take_down F kept (visit F b S) g')))
        ∙ round_same (round_two F kept g)

    -- how many blocks are not visited
    unvisited_along : (g : Log Stmt) → unvisited G (kept_map h kept) g ≡ unvisited F kept g
    unfolding unvisited
    unvisited_along g = ap (λ (n : ℕ). left n g.visited) A.blocks

    -- the log that the opening leaves
    open_along : (ts : List Stmt) (E : Env) → take_down G (kept_map h kept) (opening G (h E)) (fresh_log G (kept_map h kept) ts) ≡ take_down F kept (opening F E) (fresh_log F kept ts)
    open_along ts E =
        let q : fresh_log G (kept_map h kept) ts ≡ fresh_log F kept ts = λ i. record { visited = []; waits = λ b. false; lines = mark (A.entry i) ts } in
        cc (opening_along A E, take_down_along (opening F E) (fresh_log F kept ts))

    -- the second pass
    pub elaborate_along : (ts : List Stmt) (E : Env) → elaborate G (kept_map h kept) ts (h E) ≡ elaborate F kept ts E
    unfolding elaborate
    elaborate_along ts E = ap₂ (λ (a : Answer (Log Stmt)) (f : Log Stmt → Answer (Log Stmt)). a >>= f)
        (open_along ts E)
        (ap₂ run_rounds (fun_ext round_two_along) (fun_ext unvisited_along))

  -- THE WHOLE

  -- statements carried out in order
  pub carries_along : (ts : List Stmt) (E : Env) → carries G ts (h E) ≡ answer_map h (carries F ts E)
  unfolding carries
  carries_along [] E = refl
  carries_along (t ∷ ts) E = split_answer (F.carry t E) (λ r e. cc (A.carrying t E)) (λ D e. cc (A.carrying t E, carries_along ts D))
