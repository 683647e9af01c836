-- `type_record::check_types::pointee_ok` meets its contract, by its three tests. Assumes nothing.
use mathlib.Core.Path.{◌≡◌, refl, ap, ◌∙◌}
use mathlib.Core.Bool.{Bool, not}
use mathlib.Core.List.{List}
use Prim.Native.Nat.{ℕ, ◌<◌}
use lib.Dec.{eqb}
use borrow.Author.Tests.{lt-ltb}
use Rattle.model.specs.Types.{ntypes, kind, count, part, pointee_ok}
use Rattle.type_record.specs.declared.kinds.Kind.TheVariants.{Variant}
use Rattle.type_record.proofs.KindLaws.{eq_code}
use Rattle.type_record.proofs.check_types.pointee_ok.Goals as goal

early : (Γ : List ℕ) (t n u : ℕ) (b : Bool) → n ≡ count Γ t → n ≡ 1 → u ≡ part Γ t 0 → u < ntypes Γ → b ≡ not (eqb (kind Γ u) 8) → b ≡ pointee_ok Γ t
unfolding pointee_ok
early Γ t n u b e o f h g = cc (lt-ltb u (ntypes Γ) h)

pub returns-then-pointee-types : goal.returns-then-pointee-types
returns-then-pointee-types c =
    early _ _ _ _ _ c.count_of.ensures c.if-count_of-ne1.false c.part_at-pointee.ensures c.if-pointee-types.true
    (c.ne.ensures ∙ ap not (eq_code _ Variant c.kind_at.ensures refl refl))
