-- Told, continued from specs/Told: theorems that rest on others.
use Rattle.std.specs.Prelude.{◌≡◌, true, ℕ}
use Rattle.std.proofs.Common.{sym, ◌∙◌, subst₂}
use Rattle.std.proofs.Math.Path.{ap, subst}
use mathlib.Core.List.{List, map}
use Rattle.model.specs.Answer.{done}
use Rattle.model.specs.Tree.{Forest, leaves}
use Rattle.model.specs.Place.{At}
use Rattle.model.specs.Function.{local_types}
use Rattle.model.specs.Block.{places_ok, stations, entry_uses, entry_point}
use Rattle.model.specs.Passes.{Found}
use Rattle.model.specs.Body.{enter_uses, frame}
use Rattle.model.specs.Record.{recorded, forget_line}
use Rattle.model.specs.Whole.{passes}
use Rattle.model.specs.Replay.{at_point}
use Rattle.model.specs.Told.{TellsEach, TellsEntry, told_lines, told_script, Numbered}
use Rattle.base.specs.Answer.{then_done}
use Rattle.base.specs.Function.{FunctionFacts}
use Rattle.solver.specs.Laws.{Good, Lattice, Collects}
use Rattle.solver.specs.Whole as W
use Rattle.solver.proofs.Whole as V
use Rattle.graph.specs.Ranges.{owner}
use Rattle.graph.specs.Used.{entry_used}
use Rattle.graph.specs.Trees.{Trees}
use Rattle.graph.specs.Through.{same_parts}
use Rattle.graph.specs.Bridge.{player, replay_same}
use Rattle.graph.specs.Lawful.{entry_enters}
use Rattle.graph.proofs.Lawful.{frame_lawful}
use Rattle.graph.specs.Demand.{jumps_path}
use Rattle.graph.specs.Told.{entry_tells}

module _ {Γ fn : List ℕ} (A : FunctionFacts fn) (P : places_ok fn ≡ true) {Ok : Forest → Type 0} (T : Trees Γ fn Ok)
    (L : Lattice (frame Γ fn) Ok) (C : Collects (frame Γ fn) Ok) (folded : Good (frame Γ fn) Ok (leaves (local_types fn))) where
  -- of what both passes find: words is a record of its lines, told their numbers
  pub passes_numbered : {r : Found Forest At} (words told : List ℕ) → recorded (entry_point fn) words ≡ map forget_line r.lines
      → told_lines (map forget_line r.lines) told ≡ r.lines → passes Γ fn ≡ done r → Numbered Γ fn words told
  unfolding passes frame told_script
  passes_numbered {r} words told q t e =
      let (s, u, a) = then_done (enter_uses Γ (entry_uses fn) (leaves (local_types fn))) e in
      let (c, g) = entry_enters A P T (entry_used A P) (leaves (local_types fn)) folded u in
      let H = frame_lawful A P T L C in
      let (us, k, d) = V.entry_says (frame Γ fn) Ok (owner fn) (player Γ fn) H s.1 s.0 g (leaves (local_types fn)) c a T.dashed in
      go (V.demand_3 (frame Γ fn) Ok (owner fn) (player Γ fn) H s.1 s.0 g (leaves (local_types fn)) c a)
      (subst (TellsEntry Γ (entry_uses fn) (leaves (local_types fn))) (sym k) (entry_tells A P T L C folded (entry_used A P) (leaves (local_types fn)) folded u d))
    where
      lines : told_lines (recorded (entry_point fn) words) told ≡ r.lines
      lines = ap (λ ls. told_lines ls told) q ∙ t

      go : W.Demand (frame Γ fn) (player Γ fn) (leaves (local_types fn)) r.lines
          → TellsEntry Γ (entry_uses fn) (leaves (local_types fn)) (at_point (entry_point fn) r.lines) → Numbered Γ fn words told
      go D N = record {
        entry = subst (λ ls. TellsEntry Γ (entry_uses fn) (leaves (local_types fn)) (at_point (entry_point fn) ls)) (sym lines) N;
        uses = λ {is} {b} j h.
            let (M, p, f) = D.works (jumps_path Γ j) in
            let (x, y) = same_parts (sym (replay_same Γ fn words r.lines q is ∙ p) ∙ h) in
            subst₂ (λ ls F. TellsEach Γ (λ i. at_point i ls) (stations fn b) F) (sym lines) y f.1;
      }
