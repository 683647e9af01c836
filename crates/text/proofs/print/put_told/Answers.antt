-- `text::print::put_told` meets its contract. Assumes nothing.
use mathlib.Core.Path.{sym}
use native.Mathlib.Omega.{arith}
use Rattle.text.proofs.Writing.{writes_none, writes_same}
use Rattle.text.proofs.Entries.{length_few, bytes_none, bytes_dash, bytes_fold, bytes_unfold}
use Rattle.text.proofs.print.put_told.Goals as goal

pub put_numbered-requires : goal.put_numbered-requires
put_numbered-requires c =
    omega (arith, rw c.in-Some.is at c.requires.verb_in_bounds, length_few c.args.n c.requires.n_bound)

pub returns-in_default : goal.returns-in_default
returns-in_default c = rw c.in_default.is (writes_same (sym (bytes_none c.args.n)) (writes_none c.args.text.now c.args.at))

pub returns-then-n-eq-DASH : goal.returns-then-n-eq-DASH
returns-then-n-eq-DASH c = rw c.in-Some.is (writes_same (sym (bytes_dash _ c.args.n (omega arith))) c.put_all.ensures)

pub returns-in-Fold : goal.returns-in-Fold
returns-in-Fold c =
    rw c.in-Some.is
    (writes_same (sym (bytes_fold _ c.args.n c.in-Fold.is (λ e. omega arith))) (writes_none c.args.text.now c.args.at))

pub returns-in-Unfold : goal.returns-in-Unfold
returns-in-Unfold c =
    rw c.in-Some.is (writes_same (sym (bytes_unfold _ c.args.n c.in-Unfold.is (λ e. omega arith))) c.put_numbered.ensures)
