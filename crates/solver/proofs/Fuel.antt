-- Fuel, continued from specs/Fuel: theorems that rest on others.
use Rattle.std.specs.Prelude.{◌≡◌}
use Rattle.std.proofs.Math.Path.{refl}
use mathlib.Core.List.{List, [], ◌∷◌}
use Prim.Native.Nat.{ℕ, zero, suc, ◌≤◌}
use Rattle.std.proofs.Common.{arith}
use Rattle.model.specs.Rounds.{elem, left}
use Rattle.model.specs.Frame.{Frame, into, work, visit}
use Rattle.solver.specs.Lists.{once_head, left_fall, left_most}
use Rattle.solver.specs.Laws.{Bodies, Edges}
use Rattle.solver.specs.Fuel.{Deep, Root, Rooted, Way, deep_more, deep_next, root_below, rooted, rooted_on, step, way_on, way_once, way_root}

module _ {Env Stmt : Type 0} (F : Frame Env Stmt) where
  module _ (G : Edges F) where
    -- the blocks that are not yet on the way are enough
    way_deep : (n b : ℕ) (w : List ℕ) → Way F b w → left F.blocks (b ∷ w) ≤ n → Deep F (suc n) b
    way_deep zero b w W l = λ i c h e.
        let f = left_fall F.blocks c (b ∷ w) (G.below h) (once_head (way_once F G (way_on W h e))) in
        absurd (omega arith)
    way_deep (suc n) b w W l = λ i c h e.
        let W' = way_on W h e in
        let f = left_fall F.blocks c (b ∷ w) (G.below h) (once_head (way_once F G W')) in
        way_deep n c (b ∷ w) W' (omega arith)

    -- from a root the blocks of the frame are enough
    pub root_deep : {b : ℕ} → Root F b → Deep F F.blocks b
    unfolding elem
    root_deep {b} r =
        let f = left_fall F.blocks b [] (root_below F G r) refl in
        let m = left_most F.blocks [] in
        deep_more F (suc (left F.blocks (b ∷ []))) F.blocks b (omega arith) (way_deep (left F.blocks (b ∷ [])) b [] (way_root r) (omega arith))

    -- and so from each block entered in a visit
    pub rooted_deep : {b : ℕ} → Rooted F b → Deep F F.blocks b
    rooted_deep (rooted r) = root_deep r
    rooted_deep (rooted_on {b} R h e) = deep_next F G F.blocks b (rooted_deep R) h e

  module _ {Ok : Env → Type 0} (B : Bodies F Ok) where
    -- the law of a visit, with no fuel
    pub visit_step : (G : Edges F) {b : ℕ} (E : Env) → Rooted F b → visit F b E ≡ into b E (work F (visit F) (F.body b E))
    unfolding visit
    visit_step G {b} E R = step F B F.blocks b E (rooted_deep G R) (λ i c h e. rooted_deep G (rooted_on R h e))
