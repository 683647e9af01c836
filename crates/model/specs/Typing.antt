-- Trees of one type, and how deep they are open. `Fits Γ locals E` and `depths E ≤ levels` say what a state record can hold.
use Rattle.std.specs.Prelude.{◌≡◌, ◌≢◌, List, [], ◌∷◌, ℕ, suc, ◌<◌, max}
use Rattle.model.specs.Types.{kind, count, kids}
use Rattle.model.specs.Tree.{Tree, leaf, node, Forest, nil, more}

-- a node of type t may be open at variant v
pub record Openable (Γ : List ℕ) (t v : ℕ) : Type 0 where
  pub plain : kind Γ t ≢ 7 → v ≡ 0
  pub ranged : kind Γ t ≡ 7 → v < count Γ t
  pub not_opaque : kind Γ t ≢ 0
  pub not_array : kind Γ t ≢ 4
  pub not_variant : kind Γ t ≢ 8

module _ (Γ : List ℕ) where
  mutual
    pub data Fit : ℕ → Tree → Type 0 where
      fit_leaf : {t : ℕ} → Fit t (leaf t)
      fit_node : {t v : ℕ} {ns : Forest} → Openable Γ t v → Fits (kids Γ t v) ns → Fit t (node t v ns)

    pub data Fits : List ℕ → Forest → Type 0 where
      fit_none : Fits [] nil
      fit_more : {t : ℕ} {ts : List ℕ} {s : Tree} {ss : Forest} → Fit t s → Fits ts ss → Fits (t ∷ ts) (more s ss)

-- the levels at which nodes are open
unfoldable mutual
  pub depth : Tree → ℕ
  depth (leaf t) = 0
  depth (node t v ns) = suc (depths ns)

  pub depths : Forest → ℕ
  depths nil = 0
  depths (more s ss) = max (depth s) (depths ss)
