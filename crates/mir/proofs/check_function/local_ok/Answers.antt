-- `mir::check_function::local_ok` meets its contract, by the two tests. Assumes nothing.
use mathlib.Core.Path.{◌≡◌, refl, ap, ◌∙◌}
use mathlib.Core.Bool.{Bool, not}
use mathlib.Core.List.{List}
use Prim.Native.Nat.{ℕ, ◌<◌}
use lib.Dec.{eqb}
use borrow.Author.Tests.{lt-ltb}
use Rattle.model.specs.Types.{ntypes, kind}
use Rattle.type_record.specs.declared.kinds.Kind.TheVariants.{Variant}
use Rattle.type_record.proofs.KindLaws.{eq_code}
use Rattle.mir.specs.Parts.{type_usable}
use Rattle.mir.proofs.check_function.local_ok.Goals as goal

early : (Γ : List ℕ) (t : ℕ) (b : Bool) → t < ntypes Γ → b ≡ not (eqb (kind Γ t) 8) → b ≡ type_usable Γ t
unfolding type_usable
early Γ t b h e = rw (lt-ltb t (ntypes Γ) h) e

pub returns-then-t-types : goal.returns-then-t-types
returns-then-t-types c =
    early _ _ _ c.if-t-types.true (c.ne.ensures ∙ ap not (eq_code _ Variant c.kind_at.ensures refl refl))
