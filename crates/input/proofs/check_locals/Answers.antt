-- `input::check_locals` meets its contract: by what `check_types` and `locals_ok` find. Assumes nothing.
use mathlib.Core.Path.{sym, ◌∙◌}
use Rattle.base.specs.Typed.{types_typed}
use Rattle.input.proofs.check_locals.Goals as goal

pub locals_ok-requires : goal.locals_ok-requires
locals_ok-requires c =
    let h = types_typed _ (sym c.check_types.ensures.answer ∙ c.if-not-check_types.false) in
    record { some_types = h.some; most_types = h.few; most_parts = h.few_parts; whole = h.long }
