-- The statement record: statement count, entry count, op[], arg[]; per statement 13 (before item arg) or 14 (entry, arg 0), then
-- 15 fold or 16 unfold, then the place. Written, and read back.
use Rattle.std.specs.Prelude.{Bool, cond, ◌&&◌, List, [], ◌∷◌, ◌++◌, map, ℕ, ◌+◌, ◌*◌, ◌-◌, ◌^◌, length, take, drop, replicate, eqb, ltb, leb}
use Rattle.model.specs.Words.{word}
use Rattle.model.specs.State.{pairs}
use Rattle.model.specs.Place.{Elem, deref, field, downcast, index, Place, Verb, Fold, Unfold, dash, At}
use Rattle.model.specs.Block.{elem_of}
use Rattle.model.specs.Frame.{Line}

-- an op with its arg
abbrev pub Entry : Type 0
Entry = ℕ × ℕ

-- WRITTEN

unfoldable pub elem_entry : Elem → Entry
elem_entry deref = (1, 0)
elem_entry (field i) = (2, i)
elem_entry (downcast v) = (3, v)
elem_entry index = (4, 0)

unfoldable pub verb_entry : Verb → Entry
verb_entry Fold = (15, 0)
verb_entry Unfold = (16, 0)

-- entry: the number that stands for the entry point
unfoldable pub point_entry : ℕ → ℕ → Entry
point_entry entry p = cond (eqb p entry) (14, 0) (13, p)

unfoldable pub line_entries : ℕ → Line At → List Entry
line_entries entry l = point_entry entry l.point ∷ verb_entry l.stmt.what.verb ∷ (0, l.stmt.number) ∷ map elem_entry l.stmt.what.place

unfoldable pub entries : ℕ → List (Line At) → List Entry
entries entry [] = []
entries entry (l ∷ ls) = line_entries entry l ++ entries entry ls

unfoldable pub statement_record : ℕ → List (Line At) → List ℕ
statement_record entry ls =
    let es = entries entry ls in
    length ls ∷ length es ∷ (map (λ e. e.0) es ++ map (λ e. e.1) es)

-- how many words the record of so many entries takes
abbrev pub record_length : ℕ → ℕ
record_length n = 2 + 2 * n

-- a record of these entries goes into a buffer of n words: there is room, and a word can hold their number (else 10)
unfoldable pub writable : ℕ → List Entry → Bool
writable n es = leb (record_length (length es)) n && ltb (length es) (2 ^ 32)

-- a list in a lent array of n words: zeros behind it
unfoldable pub lent : ℕ → List ℕ → List ℕ
lent n l = l ++ replicate (n - length l) 0

-- THE NUMBERS BESIDE IT (document 02, F-4): "one entry a statement"
unfoldable pub numbers : List (Line At) → List ℕ
numbers ls = map (λ l. l.stmt.what.told) ls

-- READ BACK

-- what a record keeps of a statement: all but what is told beside it
abbrev pub forget : At → At
forget a = record { number = a.number; what = record { verb = a.what.verb; place = a.what.place; told = dash } }

abbrev pub forget_line : Line At → Line At
forget_line l = record { point = l.point; stmt = forget l.stmt }

-- what is gathered from the last entry on: the elements, the local and the verb of a statement, and the lines behind it
pub record Gathered : Type 0 where
  pub place : Place
  pub local : ℕ
  pub verb : Verb
  pub lines : List (Line At)

-- the entry in front: an element, a root, a verb, a point
unfoldable pub gather_one : ℕ → Entry → Gathered → Gathered
gather_one entry e g =
    cond (eqb e.0 0) (record { place = g.place; local = e.1; verb = g.verb; lines = g.lines })
    (cond (leb e.0 4) (record { place = elem_of e.0 e.1 ∷ g.place; local = g.local; verb = g.verb; lines = g.lines })
    (cond (eqb e.0 15) (record { place = g.place; local = g.local; verb = Fold; lines = g.lines })
    (cond (eqb e.0 16) (record { place = g.place; local = g.local; verb = Unfold; lines = g.lines })
    (record {
      place = [];
      local = 0;
      verb = Fold;
      lines = record {
        point = cond (eqb e.0 14) entry e.1;
        stmt = record { number = g.local; what = record { verb = g.verb; place = g.place; told = dash } };
      } ∷ g.lines;
    }))))

unfoldable pub gather : ℕ → List Entry → Gathered
gather entry [] = record { place = []; local = 0; verb = Fold; lines = [] }
gather entry (e ∷ es) = gather_one entry e (gather entry es)

-- the statements of a record, in order, each with its point
unfoldable pub recorded : ℕ → List ℕ → List (Line At)
recorded entry words =
    let n = word words 1 in
    (gather entry (pairs (take n (drop 2 words)) (take n (drop (2 + n) words)))).lines
