-- `type_record::types::Types::casts` meets its contract: a record that passes has its sizes.
use Rattle.type_record.proofs.Inside.{ok_counted}
use Rattle.type_record.proofs.types.Types.casts.Goals as goal

pub casts-requires-clause-sized : goal.casts-requires-clause-sized
casts-requires-clause-sized c = (ok_counted _ c.args.self.now.ready.typed).sized
