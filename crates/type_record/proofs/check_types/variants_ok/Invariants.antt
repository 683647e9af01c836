-- `type_record::check_types::variants_ok` meets its contract. The invariant: the variants below j pass. Assumes nothing.
use mathlib.Core.Path.{◌≡◌}
use mathlib.Core.Bool.{true}
use Rattle.model.specs.Words.{all}
use Rattle.model.specs.Types.{variant_ok}
use Rattle.type_record.proofs.check_types.variants_ok.Given as goal

abbrev pub invariant-loop-j : goal.invariant-loop-j
invariant-loop-j l = all (variant_ok l.types.words.now l.t) l.j ≡ true
