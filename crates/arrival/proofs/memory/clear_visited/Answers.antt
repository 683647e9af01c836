-- `memory::clear_visited` meets its contract.
use mathlib.Core.Path.{◌≡◌}
use Prim.Native.Nat.{◌-◌}
use lib.ListN.{length, replicate}
use Rattle.std.proofs.Common.{rules}
use Rattle.arrival.proofs.Memo.{unvisits}
use Rattle.arrival.proofs.memory.clear_visited.Goals as goal

pub returns : goal.returns
returns c =
    let zeros : c.fill.new.self ≡ replicate (length c.args.memo.now - 256) 0 = search rules in
    unvisits _ _ c.requires zeros
