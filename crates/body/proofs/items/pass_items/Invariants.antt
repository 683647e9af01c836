-- `body::items::pass_items` meets its contract: before item i the state and what is recorded are those of the items from..i.
use Prim.Native.Nat.{◌-◌}
use Rattle.std.specs.Prelude.{Ok}
use Rattle.body.specs.Uses.{uses, Runs}
use Rattle.body.proofs.items.pass_items.Given as goal

abbrev pub invariant-loop-i : goal.invariant-loop-i
invariant-loop-i l = Runs l.fun.types.words.now l.fun.record.words.now (uses l.fun.types.words.now l.fun.record.words.now l.items.entry (l.i - l.items.from) l.items.from) l.initial.s l.initial.out l.initial.q l.out (Ok l.q) l.s
