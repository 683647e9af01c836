-- `type_record::check_types::all_types_ok` meets its contract. The invariant: the types below t pass. Assumes nothing.
use mathlib.Core.Path.{ap}
use mathlib.Core.Bool.{not}
use native.Mathlib.Omega.{arith}
use Rattle.model.specs.Types.{all_types_ok}
use Rattle.type_record.proofs.Turns.{all_stop}
use Rattle.type_record.proofs.check_types.all_types_ok.Goals as goal

pub returns-then-not-type_ok : goal.returns-then-not-type_ok
unfolding all_types_ok
returns-then-not-type_ok c = all_stop _ _ _ (omega arith) c.type_ok.ensures (ap not c.if-not-type_ok.true)
