-- `type_record::types::Types::first_of` meets its contract: a record that passes has its sizes.
use Rattle.type_record.proofs.Inside.{ok_counted}
use Rattle.type_record.proofs.types.Types.first_of.Goals as goal

pub first_of-requires-clause-sized : goal.first_of-requires-clause-sized
first_of-requires-clause-sized c = (ok_counted _ c.args.self.now.ready.typed).sized
