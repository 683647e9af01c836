-- AlongWhole, continued from specs/AlongWhole: theorems that rest on others.
use Rattle.std.specs.Prelude.{◌≡◌}
use mathlib.Core.List.{List}
use Rattle.model.specs.Frame.{Frame}
use Rattle.model.specs.Passes.{infer, elaborate, analyse}
use Rattle.base.specs.Answer.{split_answer, answer_map}
use Rattle.solver.specs.Along.{found_map, Along}
use Rattle.solver.proofs.Along.{infer_along}
use Rattle.solver.specs.AlongWhole.{elaborate_along}

module _ {Env Env' Stmt : Type 0} {F : Frame Env Stmt} {G : Frame Env' Stmt} {h : Env → Env'} (A : Along F G h) where
  -- THE WHOLE

  -- THEOREM: one analysis leads to the other
  pub analyse_along : (ts : List Stmt) (E : Env) → analyse G ts (h E) ≡ answer_map (found_map h) (analyse F ts E)
  unfolding analyse
  analyse_along ts E = split_answer (infer F E)
      (λ r e. cc (infer_along A E))
      (λ s e.
      let q = elaborate_along A s.kept ts E in
      split_answer (elaborate F s.kept ts E) (λ r d. cc (infer_along A E)) (λ g d. cc (infer_along A E)))
