-- `text::print::put_number` meets its contract: below ten a digit, else its tenth's digits and a digit.
use Rattle.std.proofs.Common.{◌≡◌, ◌+◌, ◌/◌, ◌≤◌, ◌<◌, ℕ, length, ap, ◌∙◌, arith}
use lib.ListN.{length-append}
use Rattle.model.specs.Ghosts.{number}
use Rattle.records.specs.Digits.{number_some}
use Rattle.text.proofs.Writing.{writes_then, number_one, number_more}
use Rattle.text.proofs.print.+put_number.Goals as goal

-- a number is longer than its tenth by a byte
longer : (n : ℕ) → n < 4294967296 → 10 ≤ n → length (number n) ≡ length (number (n / 10)) + 1
longer n f h = ap length (number_more n f h) ∙ length-append (number (n / 10)) _

pub put-requires : goal.put-requires
put-requires t c = omega (arith, number_some c.args.n)

pub returns-then-n-lt10 : goal.returns-then-n-lt10
returns-then-n-lt10 t c = rw (number_one c.args.n c.if-n-lt10.true) c.put.ensures

pub put_number-a-requires : goal.put_number-a-requires
put_number-a-requires t c = (omega arith, omega (arith, longer c.args.n c.ranges.n.fits c.if-n-lt10.false))

pub put-requires-2 : goal.put-requires-2
put-requires-2 t c =
    let w = c.put_number-a.ensures in
    omega (arith, longer c.args.n c.ranges.n.fits c.if-n-lt10.false, w.end, w.long)

pub returns : goal.returns
returns t c = rw (number_more c.args.n c.ranges.n.fits c.if-n-lt10.false) (writes_then c.put_number-a.ensures c.put-2.ensures)
