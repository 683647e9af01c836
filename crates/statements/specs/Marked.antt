-- What is told beside a statement (document 02, F-4) stands in the arg of its verb, as a mark, until its record is finished; how the marks
-- are read and taken out then.
use Rattle.std.specs.Prelude.{cond, List, [], ◌∷◌, ◌++◌, map, ℕ, suc, ◌+◌, ◌*◌, ◌-◌, ◌≤◌, length, eqb, leb}
use Rattle.std.proofs.Math.Seq.{paste}
use Rattle.model.specs.Words.{word}
use Rattle.model.specs.Place.{dash, At}
use Rattle.model.specs.Frame.{Line}
use Rattle.model.specs.Record.{Entry, elem_entry, verb_entry, point_entry}
use Rattle.records.specs.Entries.{entries_of, record_of}

-- MARKS

-- 0 for a dash, so that what is collected needs none; else the number and one more
unfoldable pub mark_of : ℕ → ℕ
mark_of n = cond (eqb n dash) 0 (suc n)

-- the number that a mark stands for
unfoldable pub number_of : ℕ → ℕ
number_of m = cond (eqb m 0) dash (m - 1)

-- a line's entries with its mark
unfoldable pub marked_line : ℕ → Line At → List Entry
marked_line entry l =
    let c = l.stmt.what in
    point_entry entry l.point ∷ ((verb_entry c.verb).0, mark_of c.told) ∷ (0, l.stmt.number) ∷ map elem_entry c.place

unfoldable pub marked : ℕ → List (Line At) → List Entry
marked entry [] = []
marked entry (l ∷ ls) = marked_line entry l ++ marked entry ls

-- a statement record with its marks
abbrev pub marked_record : ℕ → List (Line At) → List ℕ
marked_record entry ls = record_of (length ls) (marked entry ls)

-- TAKEN OUT

-- the words hold as many entries as they say, or there are too few of them to say it
abbrev pub Held : List ℕ → Type 0
Held ws = 2 * word ws 1 ≤ length ws - 2

-- the numbers of the verbs, in order
unfoldable pub told_in : List Entry → List ℕ
told_in [] = []
told_in (e ∷ es) = cond (leb 15 e.0) (number_of e.1 ∷ told_in es) (told_in es)

-- an entry's arg without its mark
unfoldable pub unmarked : Entry → ℕ
unmarked e = cond (leb 15 e.0) 0 e.1

-- the words of a record, its marks taken out
unfoldable pub without_marks : List ℕ → List ℕ
without_marks ws = paste ws (2 + word ws 1) (map unmarked (entries_of ws)) (word ws 1)
