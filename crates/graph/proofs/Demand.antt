-- Demand, continued from specs/Demand: theorems that rest on others.
use Rattle.std.specs.Prelude.{◌≡◌, true, List, map, ℕ}
use Rattle.std.proofs.Math.Path.{sym}
use Rattle.std.proofs.Common.{◌∙◌}
use Rattle.model.specs.Answer.{done}
use Rattle.model.specs.Tree.{Forest, leaves}
use Rattle.model.specs.Place.{At}
use Rattle.model.specs.Function.{local_types}
use Rattle.model.specs.Block.{places_ok, entry_uses, entry_point}
use Rattle.model.specs.Passes.{Found}
use Rattle.model.specs.Body.{enter_uses, frame}
use Rattle.model.specs.Record.{recorded, forget_line}
use Rattle.model.specs.Replay.{Replayed}
use Rattle.model.specs.Whole.{passes}
use Rattle.base.specs.Answer.{then_done}
use Rattle.base.specs.Function.{FunctionFacts}
use Rattle.solver.specs.Laws.{Good, Lattice, Collects}
use Rattle.solver.specs.Whole as W
use Rattle.solver.proofs.Whole as V
use Rattle.graph.specs.Ranges.{owner}
use Rattle.graph.specs.Used.{entry_used}
use Rattle.graph.specs.Trees.{Trees}
use Rattle.graph.specs.Bridge.{player, fine_said, replay_same}
use Rattle.graph.specs.Lawful.{entry_enters}
use Rattle.graph.proofs.Lawful.{frame_lawful}
use Rattle.graph.specs.Demand.{jumps_path}

module _ {Γ fn : List ℕ} (A : FunctionFacts fn) (P : places_ok fn ≡ true) {Ok : Forest → Type 0} (T : Trees Γ fn Ok)
    (L : Lattice (frame Γ fn) Ok) (C : Collects (frame Γ fn) Ok) (folded : Good (frame Γ fn) Ok (leaves (local_types fn))) where
  -- of what both passes find: words is a record of its lines
  pub passes_replayed : {r : Found Forest At} (words : List ℕ) → recorded (entry_point fn) words ≡ map forget_line r.lines → passes Γ fn ≡ done r → Replayed Γ fn words
  unfolding passes
  passes_replayed {r} words q e =
      let (s, u, a) = then_done (enter_uses Γ (entry_uses fn) (leaves (local_types fn))) e in
      let (c, g) = entry_enters A P T (entry_used A P) (leaves (local_types fn)) folded u in
      go (V.demand_3 (frame Γ fn) Ok (owner fn) (player Γ fn) (frame_lawful A P T L C) s.1 s.0 g (leaves (local_types fn)) c a)
    where
      go : W.Demand (frame Γ fn) (player Γ fn) (leaves (local_types fn)) r.lines → Replayed Γ fn words
      go D = record {
        works = λ {is} {b} j. let (M, p, h) = D.works (jumps_path Γ j) in (M, replay_same Γ fn words r.lines q is ∙ p, fine_said Γ fn words r.lines q h.0);
        agrees = λ {is} {js} j k. replay_same Γ fn words r.lines q is ∙ D.agrees (jumps_path Γ j) (jumps_path Γ k) ∙ sym (replay_same Γ fn words r.lines q js);
      }
