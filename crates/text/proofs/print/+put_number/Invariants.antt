-- The measure of `text::print::put_number` is the number: its tenth is less.
use Rattle.text.proofs.print.+put_number.Given as goal

abbrev pub decreases-put_number : goal.decreases-put_number
decreases-put_number l = l.n
