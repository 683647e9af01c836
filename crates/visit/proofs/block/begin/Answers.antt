-- `visit::block::begin` meets its contract: the start block is a join point, or is entered as the first of a way.
use mathlib.Core.Path.{◌≡◌, sym, ap, ◌∙◌}
use mathlib.Core.Bool.{true}
use Prim.Native.Nat.{ℕ, suc, ◌-◌}
use native.Mathlib.Omega.{arith}
use Rattle.model.specs.Function.{nblocks}
use Rattle.blocks.proofs.Spots.{formed_accepted}
use Rattle.solver.specs.Fuel.{root_start}
use Rattle.arrival.specs.Memory as Memory
use Rattle.arrival.specs.Visits.{exit}
use Rattle.arrival.proofs.Heard.{ongoing_as}
use Rattle.arrival.proofs.Shelves.{share_joins, none_joins}
use Rattle.visit.proofs.Ways.{root_come}
use Rattle.visit.proofs.Steps.{jumps_meet, jumps_enter}
use Rattle.visit.proofs.block.begin.Goals as goal

pub meet-requires : goal.meet-requires
meet-requires c =
    let a = c.args in
    let p = c.requires in
    let O = p.ongoing in
    let J = share_joins _ _ (λ z. c.if-points-ne0.true (p.shared.numbers 0 p.beginning.1 ∙ z)) in
    record {
      shared = p.shared;
      ongoing = ongoing_as O (jumps_meet a.fun.now.types.words.now a.fun.now.record.words.now a.o.recording (nblocks a.fun.now.record.words.now) (exit a.fun.now.record.words.now true 0 0 O.state) O.memory J);
      jump_in = p.beginning;
      block_value = J;
    }

pub returns-then-points-ne0 : goal.returns-then-points-ne0
returns-then-points-ne0 c = λ m E R N H.
    let a = c.args in
    let p = c.requires in
    let J = share_joins _ _ (λ z. c.if-points-ne0.true (p.shared.numbers 0 p.beginning.1 ∙ z)) in
    rw (jumps_meet a.fun.now.types.words.now a.fun.now.record.words.now a.o.recording (nblocks a.fun.now.record.words.now) (exit a.fun.now.record.words.now true 0 0 E) m J)
    (c.meet.ensures m E R N H)

pub basic_block-requires : goal.basic_block-requires
basic_block-requires c =
    let a = c.args in
    let p = c.requires in
    let O = p.ongoing in
    let J = none_joins _ _ (sym (p.shared.numbers 0 p.beginning.1) ∙ c.if-points-ne0.false) in
    let z : nblocks a.fun.now.record.words.now ≡ suc (c.nblocks-n.result - 1) = omega (arith, c.nblocks-n.ensures, p.beginning.1) in
    record {
      shared = p.shared;
      ongoing = ongoing_as O (jumps_enter a.fun.now.types.words.now a.fun.now.record.words.now a.o.recording (nblocks a.fun.now.record.words.now) (exit a.fun.now.record.words.now true 0 0 O.state) O.memory J
          ∙ ap (λ (n : ℕ). Memory.enters a.fun.now.types.words.now a.fun.now.record.words.now a.o.recording n 0 O.state O.memory) z);
      come = rw c.nblocks-n.ensures (root_come (formed_accepted c.args.fun.now.accepted.formed) root_start);
    }

pub returns : goal.returns
returns c = λ m E R N H.
    let a = c.args in
    let p = c.requires in
    let J = none_joins _ _ (sym (p.shared.numbers 0 p.beginning.1) ∙ c.if-points-ne0.false) in
    let z : suc (c.nblocks-n.result - 1) ≡ nblocks a.fun.now.record.words.now = omega (arith, c.nblocks-n.ensures, p.beginning.1) in
    rw (jumps_enter a.fun.now.types.words.now a.fun.now.record.words.now a.o.recording (nblocks a.fun.now.record.words.now) (exit a.fun.now.record.words.now true 0 0 E) m J)
    (rw z at (c.basic_block.ensures m E R N H))
