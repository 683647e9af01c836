-- `assign::give::put_statement` meets its contract. Assumes nothing.
use mathlib.Core.Path.{refl, ap}
use mathlib.Core.List.{List}
use Prim.Native.Nat.{ℕ, ◌+◌, ◌≤◌}
use native.Mathlib.Omega.{arith}
use lib.ListN.{length}
use Rattle.assign.specs.Kinds.{kind_code}
use Rattle.assign.specs.Words.{assign_end}
use Rattle.assign.proofs.Reading.{assign_long}
use Rattle.assign.proofs.Giving.{statement_room, dest_room, statement_put}
use Rattle.assign.proofs.give.put_statement.Goals as goal

-- a statement has four words
four : (list : List ℕ) (from : ℕ) → assign_end list from ≤ length list → 4 + from ≤ length list
four list from h = omega (arith, assign_long list from, h)

pub offset_bounds-list-from : goal.offset_bounds-list-from
offset_bounds-list-from c = omega (arith, four _ _ c.requires.from_in_bounds)

pub bounds-list-from : goal.bounds-list-from
bounds-list-from c = omega (arith, four _ _ c.requires.from_in_bounds)

pub overflow_add-flag : goal.overflow_add-flag
overflow_add-flag c = omega (arith, four _ _ c.requires.from_in_bounds)

pub offset_bounds-list-from-2 : goal.offset_bounds-list-from-2
offset_bounds-list-from-2 c = omega (arith, four _ _ c.requires.from_in_bounds)

pub bounds-list-from-2 : goal.bounds-list-from-2
bounds-list-from-2 c = omega (arith, four _ _ c.requires.from_in_bounds)

pub overflow_add-k : goal.overflow_add-k
overflow_add-k c = omega (arith, four _ _ c.requires.from_in_bounds)

pub offset_bounds-list-from-3 : goal.offset_bounds-list-from-3
offset_bounds-list-from-3 c = omega (arith, four _ _ c.requires.from_in_bounds)

pub bounds-list-from-3 : goal.bounds-list-from-3
bounds-list-from-3 c = omega (arith, four _ _ c.requires.from_in_bounds)

pub overflow_add-head : goal.overflow_add-head
overflow_add-head c = omega (arith, four _ _ c.requires.from_in_bounds)

pub put_operands-q-requires-clause-room : goal.put_operands-q-requires-clause-room
put_operands-q-requires-clause-room c =
    let a = c.args in
    statement_room a.list.now a.p (ap kind_code c.from-kind.ensures) refl refl refl c.requires.room

pub put_place-requires-clause-room : goal.put_place-requires-clause-room
put_place-requires-clause-room c =
    let a = c.args in
    dest_room a.list.now a.p (ap kind_code c.from-kind.ensures) refl refl refl c.destined.ensures c.put_operands-q.ensures c.requires.room

pub returns : goal.returns
returns c =
    let a = c.args in
    statement_put a.list.now a.p (ap kind_code c.from-kind.ensures) refl refl refl c.destined.ensures c.put_operands-q.ensures c.put_place.ensures
