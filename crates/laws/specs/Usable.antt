-- The types that places have, `Usable`: those of locals that pass, those of an open node's children, and so those of all nodes of a
-- state.
use Rattle.std.specs.Prelude.{◌≡◌, ◌≢◌, true, List, ℕ, ◌-◌, ◌<◌}
use Rattle.std.proofs.Common.{arith}
use Rattle.model.specs.Types.{ntypes, kind, count, owner, first, kids}
use Rattle.model.specs.Tree.{Tree, leaf, node, Forest, nil, more}
use Rattle.model.specs.Typing.{Openable, Fit, Fits, fit_leaf, fit_node, fit_none, fit_more}
use Rattle.model.specs.State.{locals_ok}
use Rattle.base.specs.Each.{Each, each_more, at_each}
use Rattle.base.specs.Kinds.{kind_known}
use Rattle.base.specs.Parts.{parts_each}
use Rattle.base.specs.Typed.{Typed, kid_placed, locals_typed}

-- a type that a place may have
pub record Usable (Γ : List ℕ) (t : ℕ) : Type 0 where
  pub below : t < ntypes Γ
  pub no_variant : kind Γ t ≢ 8

-- local types that pass
pub locals_usable : (Γ locals : List ℕ) → locals_ok Γ locals ≡ true → Each (Usable Γ) locals
locals_usable Γ locals e =
    let y = locals_typed Γ locals e in
    at_each 0 locals (λ l h. record { below = y.below l h; no_variant = y.no_variant l h })

-- P of the type of every node
abbrev mutual
  pub Everywhere : (ℕ → Type 0) → Tree → Type 0
  Everywhere P (leaf t) = P t
  Everywhere P (node t v ns) = P t × Everywheres P ns

  pub Everywheres : (ℕ → Type 0) → Forest → Type 0
  Everywheres P nil = Unit {0}
  Everywheres P (more s ss) = Everywhere P s × Everywheres P ss

module _ {Γ : List ℕ} (y : Typed Γ) where
  -- the types of an open node's children
  pub kids_usable : {t v : ℕ} → Openable Γ t v → Each (Usable Γ) (kids Γ t v)
  unfolding kids
  kids_usable {t} {v} o =
      let u = owner Γ t v in
      parts_each Γ u (first Γ t) (count Γ u - first Γ t) (λ i a b.
      let p = kid_placed y t v (kind_known Γ t o.not_opaque) o i a (omega arith) in
      record { below = p.below; no_variant = p.no_variant })

  -- so in a tree of such a type each node is of such a type
  mutual
    pub fit_usable : {t : ℕ} {s : Tree} → Fit Γ t s → Usable Γ t → Everywhere (Usable Γ) s
    fit_usable fit_leaf k = k
    fit_usable (fit_node o fs) k = (k, fits_usable fs (kids_usable o))

    -- and in every state over local types that pass
    pub fits_usable : {ts : List ℕ} {ss : Forest} → Fits Γ ts ss → Each (Usable Γ) ts → Everywheres (Usable Γ) ss
    fits_usable fit_none k = tt
    fits_usable (fit_more f fs) (each_more k ks) = (fit_usable f k, fits_usable fs ks)
