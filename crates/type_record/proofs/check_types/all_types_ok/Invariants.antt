-- `type_record::check_types::all_types_ok` meets its contract. The invariant: the types below t pass. Assumes nothing.
use mathlib.Core.Path.{◌≡◌}
use mathlib.Core.Bool.{true}
use Rattle.model.specs.Words.{all}
use Rattle.model.specs.Types.{type_ok}
use Rattle.type_record.proofs.check_types.all_types_ok.Given as goal

abbrev pub invariant-loop-t : goal.invariant-loop-t
invariant-loop-t l = all (type_ok l.types.words.now) l.t ≡ true
