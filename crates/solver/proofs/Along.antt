-- Along, continued from specs/Along: theorems that rest on others.
use Rattle.std.specs.Prelude.{◌≡◌}
use Rattle.std.proofs.Math.Path.{refl, ap}
use Rattle.std.proofs.Common.{◌∙◌}
use Rattle.model.specs.Frame.{Exit, Frame, Outcome, visit, opening}
use Rattle.model.specs.Passes.{Store, empty, unwait, arrive, take_in, round, load, solve, infer}
use Rattle.base.specs.Tests.{split_option}
use Rattle.base.specs.Answer.{split_answer, answer_map}
use Rattle.solver.specs.Along.{Along, absorb_along, exit_map, keep_along, load_along, merge_along, opening_along, outcome_map, popped_along, round_map, run_along, store_map, visit_along}

module _ {Env Env' Stmt : Type 0} {F : Frame Env Stmt} {G : Frame Env' Stmt} {h : Env → Env'} (A : Along F G h) where
  -- any arrival
  arrive_along : (x : Exit Env) (s : Store Env) → arrive G (exit_map h x) (store_map h s) ≡ answer_map (store_map h) (arrive F x s)
  unfolding arrive
  arrive_along x s = split_option (s.kept x.block)
      (λ e. cc (keep_along h x.block x.state s))
      (λ S e. cc (merge_along A x S s))

  -- an outcome taken in
  take_in_along : (o : Outcome Env Stmt) (s : Store Env) → take_in G (outcome_map h o) (store_map h s) ≡ answer_map (store_map h) (take_in F o s)
  unfolding take_in
  take_in_along o s = absorb_along h (store_map h) (λ l s. s) (λ l s. s) (λ l s. refl) (arrive F) (arrive G) arrive_along o s

  -- one round
  round_along : (s : Store Env) → round G (store_map h s) ≡ round_map (store_map h) (round F s)
  unfolding round
  round_along s = popped_along A (store_map h) s.waits s.kept
      (λ b S. take_in F (visit F b S) (unwait b s))
      (λ b S. take_in G (visit G b S) (unwait b (store_map h s)))
      (λ b S. ap (λ (o : Outcome Env' Stmt). take_in G o (unwait b (store_map h s))) (visit_along A b S) ∙ take_in_along (visit F b S) (unwait b s))

  -- the rounds
  solve_along : (s : Store Env) → solve G (store_map h s) ≡ answer_map (store_map h) (solve F s)
  unfolding solve
  solve_along s = run_along (store_map h) (round F) (round G) round_along (load F) (load G) (load_along A) s

  -- the first pass
  pub infer_along : (E : Env) → infer G (h E) ≡ answer_map (store_map h) (infer F E)
  unfolding infer
  infer_along E = split_answer (take_in F (opening F E) empty)
      (λ r e. cc (opening_along A E, take_in_along (opening F E) empty))
      (λ s e. cc (opening_along A E, take_in_along (opening F E) empty, solve_along s))
