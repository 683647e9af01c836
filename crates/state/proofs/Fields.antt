-- What a type record that passes says to a walk: the children of an open node are parts of its owner, are there, and are types.
use mathlib.Core.Path.{◌≡◌, ◌∙◌, ap, subst}
use mathlib.Core.List.{List, []}
use Prim.Native.Nat.{ℕ, ◌+◌, ◌-◌, ◌<◌}
use native.Mathlib.Omega.{arith}
use Rattle.model.specs.Types.{ntypes, count, part, parts, owner, first}
use Rattle.model.specs.Typing.{Openable}
use Rattle.base.specs.Typed.{Typed, types_typed, owner_known, first_fits, kid_placed}
use Rattle.base.specs.Parts.{parts_none}
use Rattle.type_record.specs.Sizes.{Sized, Counted, Ready}
use Rattle.state.specs.declared.kids.Kids.{Kids}
use Rattle.state.specs.Found.{Fields}
use Rattle.state.specs.Kids.{kid_types}

module _ {Γ os : List ℕ} (h : Ready Γ os) where
  -- its words
  pub ready_typed : Typed Γ
  ready_typed = types_typed Γ h.typed

  -- its sizes
  pub ready_sized : Sized Γ
  ready_sized =
      let t = ready_typed in
      record { some_types = t.some; most_types = t.few; most_parts = t.few_parts; whole = t.long }

  -- and its counts
  pub ready_counted : Counted Γ
  ready_counted = record { sized = ready_sized; counts = ready_typed.added }

-- an open node's children are parts of its owner, which are there and are types
pub fields_open : {Γ : List ℕ} {t v : ℕ} → Typed Γ → t < ntypes Γ → Openable Γ t v
    → Fields Γ (owner Γ t v) (first Γ t) (count Γ (owner Γ t v) - first Γ t)
fields_open {Γ} {t} {v} h l o =
    let f = first_fits h t v l o in
    record {
      known = owner_known h t v l o;
      inside = omega arith;
      types = λ k m. (kid_placed h t v l o (first Γ t + k) (omega arith) (omega arith)).below;
    }

module _ {Γ : List ℕ} {u j n : ℕ} (h : Fields Γ u j n) (p : 0 < n) where
  -- the first of them
  pub fields_first : part Γ u j < ntypes Γ
  fields_first = subst (λ (k : ℕ). part Γ u k < ntypes Γ) (omega arith) (h.types 0 p)

  -- and the others
  pub fields_rest : Fields Γ u (j + 1) (n - 1)
  fields_rest =
      record {
        known = h.known;
        inside = omega arith;
        types = λ k m. subst (λ (i : ℕ). part Γ u i < ntypes Γ) (omega arith) (h.types (k + 1) (omega arith));
      }

-- no child is left
pub no_kids : (Γ : List ℕ) (ks : Kids) → ks.count ≡ 0 → kid_types Γ ks ≡ []
no_kids Γ ks e = ap (parts Γ ks.owner ks.first) e ∙ parts_none Γ ks.owner ks.first
