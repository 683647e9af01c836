-- `ghosts::read_all` meets its contract. The loop's invariant: some pieces have been read.
use mathlib.Core.Path.{refl}
use Rattle.ghosts.proofs.Hearing.{heard_none, heard_more, heard_all, heard_whole}
use Rattle.ghosts.proofs.read_all.Goals as goal

pub loop-init : goal.loop-init
loop-init g c = heard_none _ (c.fresh-s.ensures _ c.requires)

pub returns-in-End-clause-heard : goal.returns-in-End-clause-heard
returns-in-End-clause-heard g c = heard_all (heard_more c.loop.invariant (rw c.in-End.is at c.in_ok-t.ensures)) c.close.ensures

pub returns-in-End-clause-whole : goal.returns-in-End-clause-whole
returns-in-End-clause-whole g c =
    let p = rw c.in-End.is at c.in_ok-t.ensures in heard_whole _ _ (heard_more c.loop.invariant p) (p.end refl) c.close.ensures

pub loop-preserved : goal.loop-preserved
loop-preserved g c = heard_more c.loop.invariant (rw c.in-More.is at c.in_ok-t.ensures)
