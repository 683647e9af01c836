-- `collectors::path::hop` meets its contract: by the tests of the kind. Assumes nothing.
use mathlib.Core.Path.{refl, sym, ◌∙◌}
use Rattle.collectors.proofs.Trails.{enum_code, hop_deref, hop_field, hop_cast}
use Rattle.collectors.proofs.path.hop.Goals as goal
use Rattle.collectors.proofs.path.hop.Goals.{else-w-via-then-w+else-eq, else-w-via-else-w}

pub returns-then-pointer : goal.returns-then-pointer
returns-then-pointer c =
    hop_deref (sym c.pointer.ensures ∙ c.if-pointer.true) c.set_item.ensures refl

pub returns-then-eq : goal.returns-then-eq
returns-then-eq c =
    hop_cast (sym c.pointer.ensures ∙ c.if-pointer.false) (rw (c.if-w.true, enum_code c.args.w.kind) (sym c.eq.ensures ∙ c.if-eq.true)) c.set_item-then-eq.ensures c.set_item-then-eq-2.ensures refl

pub returns : goal.returns
returns c =
    hop_field (sym c.pointer.ensures ∙ c.if-pointer.false)
    (elim c.else-w.branch [ else-w-via-then-w+else-eq w ↦ rw (w.if-w.true, enum_code c.args.w.kind) (sym w.eq.ensures ∙ w.if-eq.false) | else-w-via-else-w w ↦ rw w.if-w.false refl ])
    c.set_item-2.ensures refl
