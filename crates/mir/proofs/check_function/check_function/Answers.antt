-- `mir::check_function::check_function` meets its contract: the tests are made in the definition's order. Assumes nothing.
use mathlib.Core.Path.{◌∙◌, sym}
use Rattle.mir.proofs.Sizes.{types_sized, sizes_laid}
use Rattle.mir.proofs.check_function.check_function.Goals as goal

pub invariant_of-record : goal.invariant_of-record
invariant_of-record c = record { laid = sizes_laid _ (sym c.function_sizes.ensures ∙ c.if-not-function_sizes.false) }

pub locals_ok-requires : goal.locals_ok-requires
locals_ok-requires c = types_sized _ c.requires
