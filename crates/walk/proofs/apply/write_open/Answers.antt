-- `walk::apply::write_open` meets its contract. Assumes nothing.
use mathlib.Core.Path.{◌≡◌, sym, ◌∙◌, ap}
use mathlib.Core.Bool.{true, false}
use lib.ListN.{set}
use borrow.Author.Tests.{not-true, not-false}
use Rattle.walk.proofs.KindTests.{form_is}
use Rattle.walk.proofs.Turns.{marked_open, marked_closed}
use Rattle.walk.proofs.apply.write_open.Goals as goal

pub returns-then-not-f : goal.returns-then-not-f
returns-then-not-f c =
    let o : c.args.f.opened ≡ false = not-true _ c.if-not-f.true in (
      ap (set c.args.forms.now c.args.i) (form_is _ c.kind_at.ensures c.form.ensures) ∙ sym (marked_closed _ _ _ _ o),
      ap (set c.args.whats.now c.args.i) c.variant.ensures ∙ sym (marked_closed _ _ _ _ o),
    )

pub returns-else-not-f : goal.returns-else-not-f
returns-else-not-f c =
    let o : c.args.f.opened ≡ true = not-false _ c.if-not-f.false in
    (sym (marked_open _ _ _ _ o), sym (marked_open _ _ _ _ o))
