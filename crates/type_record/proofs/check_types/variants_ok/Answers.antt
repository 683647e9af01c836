-- `type_record::check_types::variants_ok` meets its contract. The invariant: the variants below j pass. Assumes nothing.
use mathlib.Core.Path.{ap}
use mathlib.Core.Bool.{not}
use native.Mathlib.Omega.{arith}
use Rattle.model.specs.Types.{variants_ok}
use Rattle.type_record.proofs.Turns.{all_stop}
use Rattle.type_record.proofs.check_types.variants_ok.Goals as goal

pub returns-then-not-variant_ok : goal.returns-then-not-variant_ok
unfolding variants_ok
returns-then-not-variant_ok c = all_stop _ _ _ (omega arith) c.variant_ok.ensures (ap not c.if-not-variant_ok.true)
