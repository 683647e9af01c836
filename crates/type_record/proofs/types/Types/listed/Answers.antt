-- `type_record::types::Types::listed` meets its contract: the counts of a record that passes add up.
use Rattle.type_record.proofs.Inside.{ok_counted}
use Rattle.type_record.proofs.types.Types.listed.Goals as goal

pub invariant_of-result : goal.invariant_of-result
invariant_of-result c = let r = c.args.self.now.ready in record { counted = ok_counted _ r.typed; offsets = r.offsets }
