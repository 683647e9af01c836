-- `type_record::types::Types::kind_at` meets its contract: a record that passes has its sizes.
use Rattle.type_record.proofs.Inside.{ok_counted}
use Rattle.type_record.proofs.types.Types.kind_at.Goals as goal

pub kind_at-requires-clause-sized : goal.kind_at-requires-clause-sized
kind_at-requires-clause-sized c = (ok_counted _ c.args.self.now.ready.typed).sized
