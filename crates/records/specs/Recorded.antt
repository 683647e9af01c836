-- Statement records: what is written is read back, `recorded_written`, also from a longer lent array; and how long it is.
use Rattle.std.specs.Prelude.{◌≡◌, eqb, replicate}
use Rattle.std.proofs.Math.Path.{refl, sym, ap}
use Rattle.std.proofs.Common.{◌∙◌, eqb-true}
use mathlib.Core.List.{List, [], ◌∷◌, ◌++◌, map, append_assoc, append-nil}
use Prim.Native.Nat.{ℕ, suc, ◌+◌, ◌*◌, ◌-◌, ◌≤◌}
use native.Mathlib.Omega.{arith}
use Rattle.std.proofs.Math.ListN.{length, length-append, length-map}
use Rattle.std.proofs.lemmas.List.{length-replicate}
use Rattle.model.specs.Place.{Elem, deref, field, downcast, index, Place, Verb, Fold, Unfold, dash, At}
use Rattle.model.specs.Block.{elem_of}
use Rattle.model.specs.Frame.{Line, mark}
use Rattle.model.specs.Record.{Entry, elem_entry, verb_entry, point_entry, line_entries, entries, statement_record, lent, Gathered, gather_one, gather, recorded, forget_line}
use Rattle.base.specs.Tests.{split}
use Rattle.records.specs.Entries.{entries_of, length_record_of, entries_written}

-- an element comes back
pub elem_back : (e : Elem) → elem_of (elem_entry e).0 (elem_entry e).1 ≡ e
unfolding elem_of elem_entry
elem_back deref = refl
elem_back (field i) = refl
elem_back (downcast v) = refl
elem_back index = refl

-- what is gathered behind a statement's point: nothing but the lines
abbrev pub clear : List (Line At) → Gathered
clear ls = record { place = []; local = 0; verb = Fold; lines = ls }

-- a list that fits a lent array of n words, in it
pub length_lent : (n : ℕ) (l : List ℕ) → length l ≤ n → length (lent n l) ≡ n
unfolding lent
length_lent n l h = rw (length-append, length-replicate) (omega arith)

module _ (entry : ℕ) where
  -- the elements of a place, in front of lines
  gather_elems : (p : Place) (es : List Entry) (ls : List (Line At)) → gather entry es ≡ clear ls
      → gather entry (map elem_entry p ++ es) ≡ record { place = p; local = 0; verb = Fold; lines = ls }
  unfolding gather gather_one elem_entry elem_of
  gather_elems [] es ls h = h
  gather_elems (deref ∷ p) es ls h = cc (gather_elems p es ls h)
  gather_elems (field i ∷ p) es ls h = cc (gather_elems p es ls h)
  gather_elems (downcast v ∷ p) es ls h = cc (gather_elems p es ls h)
  gather_elems (index ∷ p) es ls h = cc (gather_elems p es ls h)

  -- a root in front of what is gathered
  gather_root : (n : ℕ) (g : Gathered) → gather_one entry (0, n) g ≡ record { place = g.place; local = n; verb = g.verb; lines = g.lines }
  unfolding gather_one
  gather_root n g = refl

  -- a verb
  gather_verb : (v : Verb) (g : Gathered) → gather_one entry (verb_entry v) g ≡ record { place = g.place; local = g.local; verb = v; lines = g.lines }
  unfolding gather_one verb_entry
  gather_verb Fold g = refl
  gather_verb Unfold g = refl

  -- a point
  gather_point : (p : ℕ) (g : Gathered) → gather_one entry (point_entry entry p) g
      ≡ clear (record { point = p; stmt = record { number = g.local; what = record { verb = g.verb; place = g.place; told = dash } } } ∷ g.lines)
  unfolding gather_one point_entry
  gather_point p g = split (eqb p entry) (λ e. cc (eqb-true p entry e)) (λ e. cc)

  -- a line in front of lines
  gather_line : (l : Line At) (es : List Entry) (ls : List (Line At)) → gather entry es ≡ clear ls
      → gather entry (line_entries entry l ++ es) ≡ clear (forget_line l ∷ ls)
  unfolding gather line_entries
  gather_line l es ls h = rw (gather_elems l.stmt.what.place es ls h, gather_root l.stmt.number, gather_verb l.stmt.what.verb, gather_point l.point)

  -- the entries of lines give back what they keep of them
  pub gather_entries : (ls : List (Line At)) → gather entry (entries entry ls) ≡ clear (map forget_line ls)
  unfolding gather entries
  gather_entries [] = refl
  gather_entries (l ∷ ls) = gather_line l (entries entry ls) (map forget_line ls) (gather_entries ls)

  -- the record, read with whatever words behind it
  pub recorded_front : (ls : List (Line At)) (r : List ℕ) → recorded entry (statement_record entry ls ++ r) ≡ map forget_line ls
  unfolding recorded statement_record entries_of
  recorded_front ls r = ap (λ (l : List Entry). (gather entry l).lines) (entries_written (length ls) (entries entry ls) r) ∙ ap (λ (g : Gathered). g.lines) (gather_entries ls)

  -- the record, read
  pub recorded_written : (ls : List (Line At)) → recorded entry (statement_record entry ls) ≡ map forget_line ls
  recorded_written ls = ap (recorded entry) (sym (append-nil (statement_record entry ls))) ∙ recorded_front ls []

  -- read from a lent array, zeros behind it
  pub recorded_lent : (n : ℕ) (ls : List (Line At)) → recorded entry (lent n (statement_record entry ls)) ≡ map forget_line ls
  unfolding lent
  recorded_lent n ls = recorded_front ls (replicate (n - length (statement_record entry ls)) 0)

  -- two words, and two for each entry
  pub length_record : (ls : List (Line At)) → length (statement_record entry ls) ≡ 2 + 2 * length (entries entry ls)
  unfolding statement_record
  length_record ls = length_record_of (length ls) (entries entry ls)

  -- lists of statements with one record are equal, but for what is told beside them
  pub record_injective : (ls ms : List (Line At)) → statement_record entry ls ≡ statement_record entry ms → map forget_line ls ≡ map forget_line ms
  record_injective ls ms e = cc (recorded_written ls, recorded_written ms)

  -- the entries of two lists of lines, one behind the other
  pub entries_append : (ls ms : List (Line At)) → entries entry (ls ++ ms) ≡ entries entry ls ++ entries entry ms
  unfolding entries
  entries_append [] ms = refl
  entries_append (l ∷ ls) ms = ap (λ (es : List Entry). line_entries entry l ++ es) (entries_append ls ms) ∙ sym (append_assoc (line_entries entry l) (entries entry ls) (entries entry ms))

  -- a line more
  pub entries_snoc : (ls : List (Line At)) (l : Line At) → entries entry (ls ++ (l ∷ [])) ≡ entries entry ls ++ line_entries entry l
  unfolding entries
  entries_snoc ls l = entries_append ls (l ∷ []) ∙ ap (λ (es : List Entry). entries entry ls ++ es) (append-nil (line_entries entry l))

  -- a line has an entry for its point, its verb, its local, and one for each element
  pub length_line : (l : Line At) → length (line_entries entry l) ≡ 3 + length l.stmt.what.place
  unfolding line_entries
  length_line l = rw length-map (omega arith)

  -- so there are at most a third as many lines as entries
  pub lines_few : (ls : List (Line At)) → 3 * length ls ≤ length (entries entry ls)
  unfolding entries
  lines_few [] = omega arith
  lines_few (l ∷ ls) = rw length-append (omega (arith, lines_few ls, length_line l))

-- STATEMENTS AT ONE POINT

module _ {Stmt : Type 0} (i : ℕ) where
  -- two lists, one behind the other
  pub mark_append : (a b : List Stmt) → mark i (a ++ b) ≡ mark i a ++ mark i b
  unfolding mark
  mark_append [] b = refl
  mark_append (t ∷ a) b = ap (λ (ls : List (Line Stmt)). record { point = i; stmt = t } ∷ ls) (mark_append a b)

  -- as many lines as statements
  pub length_mark : (a : List Stmt) → length (mark i a) ≡ length a
  unfolding mark
  length_mark [] = refl
  length_mark (t ∷ a) = ap suc (length_mark a)
