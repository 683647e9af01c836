-- `ghosts::read_all` meets its contract. The loop's invariant: some pieces have been read.
use Rattle.ghosts.proofs.Hearing.{Heard}
use Rattle.ghosts.proofs.read_all.Given as goal

abbrev pub invariant-loop : goal.invariant-loop
invariant-loop g l = Heard (g.R.Read.remaining l.fn.input) (g.R.Read.remaining l.input) l.s l.words
