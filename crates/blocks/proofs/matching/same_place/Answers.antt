-- `blocks::matching::same_place` meets its contract: the places are equal just if their items are. Assumes nothing.
use mathlib.Core.Path.{◌∙◌}
use native.Mathlib.Omega.{arith}
use Rattle.blocks.proofs.Spots.{used_in}
use Rattle.blocks.proofs.Same.{ops_told, args_told}
use Rattle.blocks.proofs.matching.same_place.Goals as goal

pub ops_from-requires : goal.ops_from-requires
ops_from-requires c = record { range = let p = c.requires in omega (arith, (used_in p.formed p.used_at.0 p.used_at.1).high) }

pub ops_from-requires-2 : goal.ops_from-requires-2
ops_from-requires-2 c = record { range = let p = c.requires in omega (arith, (used_in p.formed p.used_at_2.0 p.used_at_2.1).high) }

pub args_from-requires : goal.args_from-requires
args_from-requires c = record { range = let p = c.requires in omega (arith, (used_in p.formed p.used_at.0 p.used_at.1).high) }

pub args_from-requires-then-eq : goal.args_from-requires-then-eq
args_from-requires-then-eq c = record { range = let p = c.requires in omega (arith, (used_in p.formed p.used_at_2.0 p.used_at_2.1).high) }

pub returns-then-eq : goal.returns-then-eq
returns-then-eq c =
    let p = c.requires in
    let o = rw (c.ops_from.ensures, c.ops_from-2.ensures, c.root_before-r.ensures, p.root_value) at c.if-eq.ensures in
    let a = rw (c.args_from.ensures, c.args_from-then-eq.ensures, c.root_before-r.ensures, p.root_value) at c.eq-then-eq.ensures in
    args_told p.formed p.used_at.0 p.used_at.1 p.used_at_2.0 p.used_at_2.1 o _ a

pub returns-else-eq : goal.returns-else-eq
returns-else-eq c =
    let p = c.requires in
    let o = rw (c.ops_from.ensures, c.ops_from-2.ensures, c.root_before-r.ensures, p.root_value) at c.if-eq.ensures in
    c.if-eq.false ∙ ops_told p.formed p.used_at.0 p.used_at.1 p.used_at_2.0 p.used_at_2.1 o
