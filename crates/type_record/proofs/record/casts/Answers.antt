-- `type_record::record::casts` meets its contract, by cases on the kind. Assumes nothing.
use mathlib.Core.Path.{◌≡◌, refl, sym, ◌∙◌}
use mathlib.Core.Logic.{◌≢◌}
use mathlib.Core.Bool.{false}
use mathlib.Core.List.{List}
use Prim.Native.Nat.{ℕ}
use lib.Dec.{eqb, ltb}
use borrow.Author.Tests.{ne_eqb}
use Rattle.model.specs.Types.{kind, count, casts}
use Rattle.type_record.specs.Kinds.{kind_named}
use Rattle.type_record.specs.declared.kinds.Kind.TheVariants.{Enum, Struct}
use Rattle.type_record.proofs.KindLaws.{kind_is, kind_not}
use Rattle.type_record.proofs.record.casts.Goals as goal

module _ (Γ : List ℕ) (t v : ℕ) where
  enum : (n : ℕ) → n ≡ count Γ t → Enum ≡ kind_named (kind Γ t) → ltb v n ≡ casts Γ t v
  unfolding casts
  enum n m h = cc (kind_is (kind Γ t) Enum (sym h) refl)

  struct : Struct ≡ kind_named (kind Γ t) → eqb v 0 ≡ casts Γ t v
  unfolding casts
  struct h = cc (kind_is (kind Γ t) Struct (sym h) refl)

  other : kind_named (kind Γ t) ≢ Enum → kind_named (kind Γ t) ≢ Struct → false ≡ casts Γ t v
  unfolding casts
  other f g = cc (ne_eqb (kind Γ t) 7 (kind_not _ Enum f refl), ne_eqb (kind Γ t) 6 (kind_not _ Struct g refl))

pub returns-in-Enum : goal.returns-in-Enum
returns-in-Enum c = enum _ _ _ _ c.count_of.ensures c.in-Enum.ensures

pub returns-in-Struct : goal.returns-in-Struct
returns-in-Struct c = struct _ _ _ c.in-Struct.ensures

pub returns-in_default : goal.returns-in_default
returns-in_default c =
    other _ _ _ (λ e. c.in_default.not-Enum (c.kind_at.ensures ∙ e)) (λ e. c.in_default.not-Struct (c.kind_at.ensures ∙ e))
