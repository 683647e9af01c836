-- The text of a statement record's entries is the text of its lines, `lines_printed`; and such a record can be printed, `record_whole`.
use mathlib.Core.Path.{◌≡◌, refl, sym, ◌∙◌, ap, ap₂}
use mathlib.Core.Bool.{true, false}
use mathlib.Core.List.{List, [], ◌∷◌, ◌++◌, map, append_assoc, append-nil}
use Prim.Native.Nat.{ℕ, ◌-◌}
use lib.Dec.{eqb}
use lib.ListN.{length, drop, replicate}
use Rattle.model.specs.Words.{word}
use Rattle.model.specs.Place.{Elem, deref, field, downcast, index, Place, Verb, Fold, Unfold, At}
use Rattle.model.specs.Block.{elem_of}
use Rattle.model.specs.Frame.{Line}
use Rattle.model.specs.Record.{Entry, elem_entry, verb_entry, point_entry, line_entries, entries, statement_record, lent, numbers}
use Rattle.model.specs.Ghosts.{number, elem_text, place_text, point_text, verb_text, told_text, line_text, lines_text}
use Rattle.base.specs.Tests.{split}
use Rattle.records.specs.Entries.{Whole, entries_of, whole_record, entries_written}
use Rattle.std.specs.Prelude.{Option, None}
use Rattle.text.specs.declared.print.Verb as print
use Rattle.text.specs.Printing.{entry_text, point, ends, verb_now, told_bytes, first_text, verb_behind, ended}
use Rattle.text.proofs.Entries.{entries_text}

-- ONE ENTRY

-- an element's text
elem_said : (e : Elem) → entry_text (elem_entry e) ≡ elem_text e
unfolding entry_text elem_entry elem_of
elem_said deref = refl
elem_said (field i) = refl
elem_said (downcast v) = refl
elem_said index = refl

-- a verb's
verb_said : (v : Verb) → entry_text (verb_entry v) ≡ verb_text v
unfolding entry_text verb_entry
verb_said Fold = refl
verb_said Unfold = refl

-- a local's
root_said : (n : ℕ) → entry_text (0, n) ≡ number n
unfolding entry_text
root_said n = refl

-- a point's
point_said : (entry p : ℕ) → entry_text (point_entry entry p) ≡ point_text entry p
unfolding entry_text point_entry point_text
point_said entry p = split (eqb p entry) (λ e. cc) (λ e. cc)

-- no line ends before an element
elem_goes_on : (e : Elem) (es : List Entry) → ends (elem_entry e ∷ es) ≡ false
unfolding ends point elem_entry
elem_goes_on deref es = refl
elem_goes_on (field i) es = refl
elem_goes_on (downcast v) es = refl
elem_goes_on index es = refl

-- before a verb
verb_goes_on : (v : Verb) (es : List Entry) → ends (verb_entry v ∷ es) ≡ false
unfolding ends point verb_entry
verb_goes_on Fold es = refl
verb_goes_on Unfold es = refl

-- before a local
root_goes_on : (n : ℕ) (es : List Entry) → ends ((0, n) ∷ es) ≡ false
unfolding ends point
root_goes_on n es = refl

-- but before a point
point_ends : (entry p : ℕ) (es : List Entry) → ends (point_entry entry p ∷ es) ≡ true
unfolding ends point point_entry
point_ends entry p es = split (eqb p entry) (λ e. cc) (λ e. cc)

-- ENTRIES

-- a place's entry is no verb
elem_no_verb : (v : Option print.Verb) (e : Elem) → verb_now v (elem_entry e).0 ≡ v
unfolding verb_now elem_entry
elem_no_verb v deref = refl
elem_no_verb v (field i) = refl
elem_no_verb v (downcast w) = refl
elem_no_verb v index = refl

point_no_verb : (v : Option print.Verb) (entry p : ℕ) → verb_now v (point_entry entry p).0 ≡ v
unfolding verb_now point_entry
point_no_verb v entry p = split (eqb p entry) (λ e. rw (e, point_entry) refl) (λ e. rw (e, point_entry) refl)

module _ (v : Option print.Verb) (ns : List ℕ) (x : Entry) (es : List Entry) where
  -- an entry in a line
  text_on : ends es ≡ false → entries_text v ns (x ∷ es) ≡ entry_text x ++ entries_text (verb_now v x.0) ns es
  unfolding entries_text first_text verb_behind ended
  text_on h = rw (h, append-nil (entry_text x)) refl

  -- the last of a line
  text_end : ends es ≡ true → entries_text v ns (x ∷ es) ≡ entry_text x ++ (told_bytes (verb_now v x.0) (word ns 0) ++ (10 ∷ entries_text None (drop 1 ns) es))
  unfolding entries_text first_text verb_behind ended
  text_end h = rw (h, append_assoc (entry_text x), append_assoc (told_bytes (verb_now v x.0) (word ns 0)) (10 ∷ [])) refl

-- an entry that is no verb and the elements of a place behind it, to the end of a line
text_place : (v : Option print.Verb) (ns : List ℕ) (x : Entry) → verb_now v x.0 ≡ v → (p : Place) (es : List Entry) → ends es ≡ true
    → entries_text v ns (x ∷ (map elem_entry p ++ es)) ≡ entry_text x ++ (place_text p ++ (told_bytes v (word ns 0) ++ (10 ∷ entries_text None (drop 1 ns) es)))
unfolding place_text
text_place v ns x q [] es h = text_end v ns x es h ∙ ap (λ (w : Option print.Verb). entry_text x ++ (told_bytes w (word ns 0) ++ (10 ∷ entries_text None (drop 1 ns) es))) q
text_place v ns x q (e ∷ p) es h =
    let rest : List ℕ = told_bytes v (word ns 0) ++ (10 ∷ entries_text None (drop 1 ns) es) in
    text_on v ns x (elem_entry e ∷ (map elem_entry p ++ es)) (elem_goes_on e (map elem_entry p ++ es))
    ∙ ap (λ (w : Option print.Verb). entry_text x ++ entries_text w ns (elem_entry e ∷ (map elem_entry p ++ es))) q
    ∙ ap (λ (t : List ℕ). entry_text x ++ t) (text_place v ns (elem_entry e) (elem_no_verb v e) p es h
    ∙ ap (λ (t : List ℕ). t ++ (place_text p ++ rest)) (elem_said e)
    ∙ sym (append_assoc (elem_text e) (place_text p) rest))

-- what is told behind a verb
verb_told : (v : Verb) (n : ℕ) (u : Option print.Verb) → told_bytes (verb_now u (verb_entry v).0) n ≡ told_text v n
unfolding told_bytes verb_now verb_entry
verb_told Fold n u = refl
verb_told Unfold n u = refl

module _ (entry : ℕ) where
  -- a line in front of others
  text_line : (l : Line At) (ns : List ℕ) (es : List Entry) → ends es ≡ true
      → entries_text None (l.stmt.what.told ∷ ns) (line_entries entry l ++ es) ≡ line_text entry l ++ entries_text None ns es
  unfolding line_entries line_text verb_now
  text_line l ns es h =
      let n : ℕ = l.stmt.number in
      let p : Place = l.stmt.what.place in
      let v : Verb = l.stmt.what.verb in
      let m : ℕ = l.stmt.what.told in
      let ms : List ℕ = m ∷ ns in
      let w : Option print.Verb = verb_now None (verb_entry v).0 in
      let rest : List Entry = map elem_entry p ++ es in
      text_on None ms (point_entry entry l.point) (verb_entry v ∷ (0, n) ∷ rest) (verb_goes_on v ((0, n) ∷ rest))
      ∙ ap₂ (λ (t : List ℕ) (u : Option print.Verb). t ++ entries_text u ms (verb_entry v ∷ (0, n) ∷ rest)) (point_said entry l.point) (point_no_verb None entry l.point)
      ∙ ap (λ (t : List ℕ). point_text entry l.point ++ t)
      (text_on None ms (verb_entry v) ((0, n) ∷ rest) (root_goes_on n rest)
      ∙ ap₂ ◌++◌ (verb_said v) (text_place w ms (0, n) refl p es h
      ∙ ap₂ (λ (t u : List ℕ). t ++ (place_text p ++ (u ++ (10 ∷ entries_text None ns es)))) (root_said n) (verb_told v m None)))
      ∙ simp append_assoc

  -- lines begin with a point
  lines_begin : (ls : List (Line At)) → ends (entries entry ls) ≡ true
  unfolding entries line_entries ends
  lines_begin [] = refl
  lines_begin (l ∷ ls) = point_ends entry l.point []

  -- the entries of lines have the lines' text, whatever words stand behind their numbers
  text_lines : (ls : List (Line At)) (r : List ℕ) → entries_text None (numbers ls ++ r) (entries entry ls) ≡ lines_text entry ls
  unfolding entries lines_text entries_text numbers
  text_lines [] r = refl
  text_lines (l ∷ ls) r = text_line l (numbers ls ++ r) (entries entry ls) (lines_begin ls) ∙ ap (λ (t : List ℕ). line_text entry l ++ t) (text_lines ls r)

  -- RECORDS

  -- a record in a longer array, with the numbers in another, is printed as its lines
  pub lines_printed : (n m : ℕ) (ls : List (Line At)) (out told : List ℕ) → out ≡ lent n (statement_record entry ls) → told ≡ lent m (numbers ls)
      → entries_text None told (entries_of out) ≡ lines_text entry ls
  unfolding lent statement_record
  lines_printed n m ls out told e d =
      ap₂ (λ (ns l : List ℕ). entries_text None ns (entries_of l)) d e
      ∙ ap (entries_text None (numbers ls ++ replicate (m - length (numbers ls)) 0)) (entries_written (length ls) (entries entry ls) _)
      ∙ text_lines ls _

  -- such a record can be printed
  pub record_whole : (n : ℕ) (ls : List (Line At)) (out : List ℕ) → out ≡ lent n (statement_record entry ls) → Whole out
  unfolding lent statement_record
  record_whole n ls out e = rw e (whole_record (length ls) (entries entry ls) _)
