-- `type_record::record::kind_of` meets its contract. Assumes nothing.
use Rattle.type_record.proofs.Inside.{kind_word}
use Rattle.type_record.proofs.record.kind_of.Goals as goal

pub returns : goal.returns
returns c = kind_word _ _ c.requires.t_bound
