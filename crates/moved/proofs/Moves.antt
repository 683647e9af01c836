-- Moves, continued from specs/Moves: theorems that rest on others.
use Rattle.std.specs.Prelude.{List, ℕ}
use Rattle.std.proofs.Common.{arith}
use Rattle.base.specs.Kinds.{kind_known}
use Rattle.base.specs.Typed.{Typed}
use Rattle.moved.specs.Moves.{Embeds, Moves, discriminant_moved, kids_moved}

module _ {f : ℕ → ℕ} {Γ Δ : List ℕ} (g : Typed Γ) (e : Embeds f Γ Δ) where
  -- what trees see
  pub embeds_moves : Moves f Γ Δ
  embeds_moves = record {
    kinds = e.kinds;
    counts = λ t k. e.counts t (kind_known Γ t (λ z. omega arith));
    children = kids_moved g e;
    discriminants = discriminant_moved g e;
  }
