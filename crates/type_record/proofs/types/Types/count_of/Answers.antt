-- `type_record::types::Types::count_of` meets its contract: a record that passes has its sizes.
use Rattle.type_record.proofs.Inside.{ok_counted}
use Rattle.type_record.proofs.types.Types.count_of.Goals as goal

pub count_of-requires-clause-sized : goal.count_of-requires-clause-sized
count_of-requires-clause-sized c = (ok_counted _ c.args.self.now.ready.typed).sized
