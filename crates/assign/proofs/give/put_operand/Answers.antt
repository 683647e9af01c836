-- `assign::give::put_operand` meets its contract. Assumes nothing.
use mathlib.Core.Path.{refl, sym}
use Rattle.assign.specs.Kinds.{kind_code}
use Rattle.assign.specs.Words.{operand_at}
use Rattle.assign.specs.declared.known.Rvalue.TheVariants.{Discriminant}
use Rattle.assign.proofs.Giving.{gives_fake, gives_read, gives_use, room_as, puts_as, one_end, given_fake}
use Rattle.assign.proofs.KindLaws.{code_true, code_false}
use Rattle.assign.proofs.give.put_operand.Goals as goal

pub operands_end-requires : goal.operands_end-requires
operands_end-requires c = rw (one_end c.args.list.now c.args.p.from) c.requires.from_in_bounds

pub returns-then-flagged : goal.returns-then-flagged
returns-then-flagged c =
    let a = c.args in
    given_fake a.list.now c.operands_end.ensures refl (gives_fake (kind_code a.kind) a.flag (operand_at a.list.now a.p.from) c.flagged.ensures c.if-flagged.true)

pub put_place-requires-clause-room : goal.put_place-requires-clause-room
put_place-requires-clause-room c =
    let a = c.args in
    let read = gives_read (kind_code a.kind) a.flag (operand_at a.list.now a.p.from) c.flagged.ensures c.if-flagged.false (code_true a.kind Discriminant c.eq.ensures c.if-eq.true) in
    room_as read c.requires.room

pub returns-then-eq : goal.returns-then-eq
returns-then-eq c =
    let a = c.args in
    let read = gives_read (kind_code a.kind) a.flag (operand_at a.list.now a.p.from) c.flagged.ensures c.if-flagged.false (code_true a.kind Discriminant c.eq.ensures c.if-eq.true) in
    puts_as (sym read) c.put_place.ensures

pub put_place-requires-2-clause-room : goal.put_place-requires-2-clause-room
put_place-requires-2-clause-room c =
    let a = c.args in
    let used = gives_use (kind_code a.kind) a.flag (operand_at a.list.now a.p.from) c.flagged.ensures c.if-flagged.false (code_false a.kind Discriminant c.eq.ensures c.if-eq.false) c.flagged-deref.ensures in
    room_as used c.requires.room

pub returns : goal.returns
returns c =
    let a = c.args in
    let used = gives_use (kind_code a.kind) a.flag (operand_at a.list.now a.p.from) c.flagged.ensures c.if-flagged.false (code_false a.kind Discriminant c.eq.ensures c.if-eq.false) c.flagged-deref.ensures in
    puts_as (sym used) c.put_place-2.ensures
