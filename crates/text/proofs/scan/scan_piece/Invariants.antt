-- `text::scan::scan_piece` meets its contract. The loop's invariant: the bytes so far are read. Assumes nothing.
use lib.ListN.{take}
use Rattle.std.specs.Prelude.{Some}
use Rattle.model.specs.Ghosts.{scan}
use Rattle.text.specs.Reading.{Steps}
use Rattle.text.proofs.scan.scan_piece.Given as goal

abbrev pub invariant-loop-c : goal.invariant-loop-c
invariant-loop-c l = Steps (scan (take l.c-index l.text)) l.fn.s l.initial.words (Some l.t) l.words
