-- `type_record::check_types::field_ok` meets its contract, by its two tests. Assumes nothing.
use mathlib.Core.Path.{◌≡◌, refl, ap, ◌∙◌}
use mathlib.Core.Bool.{Bool, not}
use mathlib.Core.List.{List}
use Prim.Native.Nat.{ℕ, ◌<◌}
use lib.Dec.{eqb}
use borrow.Author.Tests.{lt-ltb}
use Rattle.model.specs.Types.{kind, part, field_ok}
use Rattle.type_record.specs.declared.kinds.Kind.TheVariants.{Variant}
use Rattle.type_record.proofs.KindLaws.{eq_code}
use Rattle.type_record.proofs.check_types.field_ok.Goals as goal

early : (Γ : List ℕ) (t j u : ℕ) (b : Bool) → u ≡ part Γ t j → u < t → b ≡ not (eqb (kind Γ u) 8) → b ≡ field_ok Γ t j
unfolding field_ok
early Γ t j u b e h f = cc (lt-ltb u t h)

pub returns-then-field-t : goal.returns-then-field-t
returns-then-field-t c =
    early _ _ _ _ _ c.part_at-field.ensures c.if-field-t.true (c.ne.ensures ∙ ap not (eq_code _ Variant c.kind_at.ensures refl refl))
