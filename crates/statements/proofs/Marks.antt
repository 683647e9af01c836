-- Marks, read and taken out of the words of a record, an entry at a time; what is left of a record of lines, and what its marks told.
use mathlib.Core.Path.{◌≡◌, refl, sym, ◌∙◌, ap, ap₂}
use mathlib.Core.List.{List, [], ◌∷◌, ◌++◌, map, append_assoc, map-append}
use Prim.Native.Nat.{ℕ, suc, ◌+◌, ◌*◌, ◌-◌, ◌≤◌, ◌<◌}
use native.Mathlib.Numerals.{add-one}
use native.Mathlib.Omega.{arith}
use lib.Dec.{eqb, leb}
use lib.ListN.{length, get_or, take, drop, set, replicate, length-append, length-map, get_or-append, get_or-map}
use lib.Seq.{sets, paste, paste-suc, take_at, drop_at, drop-nil, set-get_or, take_all, length_paste_head, length-take-le, get_or-append-add, get_or-take, get_or-drop}
use borrow.Author.Tests.{eqb-true, ne_eqb, le-leb, lt-leb}
use Rattle.model.specs.Words.{word}
use Rattle.model.specs.State.{pairs}
use Rattle.model.specs.Place.{deref, field, downcast, index, Elem, Fold, Unfold, Verb, dash, At}
use Rattle.model.specs.Frame.{Line}
use Rattle.model.specs.Record.{Entry, elem_entry, verb_entry, point_entry, line_entries, entries, statement_record, lent, numbers}
use Rattle.base.specs.Tests.{split}
use Rattle.base.specs.Each.{Each, each_none, each_more}
use Rattle.base.specs.Words.{sets_append}
use Rattle.records.specs.Entries.{Whole, entries_of, record_of, length_record_of, length_entries_of, entries_next, entries_over, entries_written}
use Rattle.statements.specs.Marked.{mark_of, number_of, marked_line, marked, marked_record, Held, told_in, unmarked, without_marks}

-- THE ENTRIES END where their count says, also of too few words to say it
pub held_over : (ws : List ℕ) → Held ws → (k : ℕ) → word ws 1 ≤ k → drop k (entries_of ws) ≡ []
unfolding entries_of pairs
held_over [] h k l = drop-nil k
held_over (x ∷ []) h k l = drop-nil k
held_over (x ∷ y ∷ ws) h k l = entries_over (x ∷ y ∷ ws) (omega (arith, h)) k l

-- AN ENTRY AT A TIME

-- one entry: a verb, or another
pub verb_tells : (op m : ℕ) → 15 ≤ op → told_in ((op, m) ∷ []) ≡ number_of m ∷ []
unfolding told_in
verb_tells op m l = rw (le-leb 15 op l, told_in) refl

pub other_tells : (op m : ℕ) → op < 15 → told_in ((op, m) ∷ []) ≡ []
unfolding told_in
other_tells op m l = rw (lt-leb 15 op l, told_in) refl

pub tells_few : (op m : ℕ) → length (told_in ((op, m) ∷ [])) ≤ 1
unfolding told_in
tells_few op m = split (leb 15 op) (λ e. rw (e, told_in) (omega arith)) (λ e. rw (e, told_in) (omega arith))

pub verb_unmarked : (op m : ℕ) → 15 ≤ op → unmarked (op, m) ≡ 0
unfolding unmarked
verb_unmarked op m l = rw (le-leb 15 op l, unmarked) refl

pub other_unmarked : (op m : ℕ) → op < 15 → unmarked (op, m) ≡ m
unfolding unmarked
other_unmarked op m l = rw (lt-leb 15 op l, unmarked) refl

-- at i: a verb's mark is taken out, another's arg is kept
pub set_taken : (ws : List ℕ) (i op m : ℕ) → 15 ≤ op → set ws i 0 ≡ set ws i (unmarked (op, m))
set_taken ws i op m l = ap (set ws i) (sym (verb_unmarked op m l))

pub set_kept : (ws : List ℕ) (i op : ℕ) → op < 15 → ws ≡ set ws i (unmarked (op, get_or ws i 0))
set_kept ws i op l = sym (ap (set ws i) (other_unmarked op (get_or ws i 0) l) ∙ set-get_or ws i 0)

-- the numbers of the first entry, and of the others
told_first : (e : Entry) (es : List Entry) → told_in (e ∷ es) ≡ told_in (e ∷ []) ++ told_in es
unfolding told_in
told_first e es = split (leb 15 e.0) (λ d. rw (d, told_in) refl) (λ d. rw (d, told_in) refl)

module _ (ws : List ℕ) (h : Whole ws) (k : ℕ) (l : k < word ws 1) where
  told_next : (e : ℕ) → e ≡ word ws 1 → told_in (drop k (entries_of ws)) ≡ told_in ((word ws (2 + k), word ws (2 + e + k)) ∷ []) ++ told_in (drop (k + 1) (entries_of ws))
  told_next e q = rw (q, add-one) (ap told_in (entries_next ws h k l) ∙ told_first _ _)

  -- stored: those of entry k, then those behind it
  pub told_on : (e : ℕ) → e ≡ word ws 1 → (t : List ℕ) (j : ℕ) {t' : List ℕ} {j' : ℕ} → let x = told_in ((word ws (2 + k), word ws (2 + e + k)) ∷ []) in
      t' ≡ sets t j x → j' ≡ j + length x → sets t' j' (told_in (drop (k + 1) (entries_of ws))) ≡ sets t j (told_in (drop k (entries_of ws)))
  told_on e q t j a b =
      let x : List ℕ = told_in ((word ws (2 + k), word ws (2 + e + k)) ∷ []) in
      let rest : List ℕ = told_in (drop (k + 1) (entries_of ws)) in
      ap₂ (λ (u : List ℕ) (i : ℕ). sets u i rest) a b ∙ sym (sets_append t j x rest) ∙ ap (sets t j) (sym (told_next e q))

  -- the arg of entry k without its mark
  unmarked_at : get_or (map unmarked (entries_of ws)) k 0 ≡ unmarked (word ws (2 + k), word ws (2 + word ws 1 + k))
  unfolding unmarked
  unmarked_at =
      get_or-map unmarked (entries_of ws) k (0, 0)
      ∙ ap unmarked (sym (ap (λ (i : ℕ). get_or (entries_of ws) i (0, 0)) (omega arith)) ∙ sym (get_or-drop k (entries_of ws) 0 (0, 0)) ∙ ap (λ (es : List Entry). get_or es 0 (0, 0)) (entries_next ws h k l))

  -- while the first k marks are out
  module _ (e : ℕ) (q : e ≡ word ws 1) where
    abbrev left : List ℕ
    left = paste ws (2 + e) (map unmarked (entries_of ws)) k

    -- ops stay
    op_stays : get_or left (2 + k) 0 ≡ word ws (2 + k)
    op_stays =
        let long : length (take (2 + e) ws) ≡ 2 + e = length-take-le (2 + e) ws (omega arith) in
        let args : List ℕ = take k (map unmarked (entries_of ws)) in
        get_or-append (take (2 + e) ws ++ args) (drop (2 + e + k) ws) 0 (2 + k) (rw length-append (omega arith))
        ∙ get_or-append (take (2 + e) ws) args 0 (2 + k) (omega arith)
        ∙ get_or-take (2 + e) ws (2 + k) 0 (omega arith)

    -- arg k waits
    arg_waits : get_or left (2 + e + k) 0 ≡ word ws (2 + e + k)
    arg_waits =
        let front : List ℕ = take (2 + e) ws ++ take k (map unmarked (entries_of ws)) in
        let long : length front ≡ 2 + e + k = length_paste_head ws (2 + e) (map unmarked (entries_of ws)) k (omega arith) (rw length-map (omega (arith, length_entries_of ws h))) in
        let at : 2 + e + k ≡ length front + 0 = omega arith in
        ap (λ (i : ℕ). get_or (front ++ drop (2 + e + k) ws) i 0) at
        ∙ get_or-append-add front (drop (2 + e + k) ws) 0 0
        ∙ get_or-drop (2 + e + k) ws 0 0
        ∙ ap (λ (i : ℕ). word ws i) (omega arith)

    -- it is taken out
    pub mark_out : (a : List ℕ) → a ≡ left → set a (2 + e + k) (unmarked (word a (2 + k), word a (2 + e + k))) ≡ paste ws (2 + e) (map unmarked (entries_of ws)) (k + 1)
    mark_out a w =
        let here : unmarked (word left (2 + k), word left (2 + e + k)) ≡ get_or (map unmarked (entries_of ws)) k 0 =
        ap₂ (λ (x y : ℕ). unmarked (x, y)) op_stays (arg_waits ∙ ap (λ (i : ℕ). word ws (2 + i + k)) q) ∙ sym unmarked_at in
        ap (λ (m : List ℕ). set m (2 + e + k) (unmarked (word m (2 + k), word m (2 + e + k)))) w
        ∙ ap (λ (x : ℕ). set left (2 + e + k) x) here
        ∙ paste-suc ws (2 + e) (map unmarked (entries_of ws)) k 0 (omega arith) (rw length-map (omega (arith, length_entries_of ws h)))
        ∙ ap (paste ws (2 + e) (map unmarked (entries_of ws))) (sym (add-one k))

-- OF LINES

-- a number is read back
pub number_suc : (n : ℕ) → number_of (suc n) ≡ n
unfolding number_of
number_suc n = rw (ne_eqb (suc n) 0 (λ e. omega arith)) (omega arith)

mark_back : (n : ℕ) → number_of (mark_of n) ≡ n
unfolding mark_of number_of
mark_back n = split (eqb n dash) (λ e. rw (e, mark_of) (sym (eqb-true n dash e))) (λ e. rw (e, mark_of) (number_suc n))

-- a number's mark
pub mark_small : {n : ℕ} → n < 255 → mark_of n ≡ suc n
unfolding mark_of
mark_small {n} l = rw (ne_eqb n dash (λ e. omega arith)) refl

-- verbs bear marks, other entries none
elems_none : (p : List Elem) (es : List Entry) → told_in (map elem_entry p ++ es) ≡ told_in es
unfolding told_in elem_entry
elems_none [] es = refl
elems_none (deref ∷ p) es = elems_none p es
elems_none (field i ∷ p) es = elems_none p es
elems_none (downcast v ∷ p) es = elems_none p es
elems_none (index ∷ p) es = elems_none p es

point_none : (entry p : ℕ) (es : List Entry) → told_in (point_entry entry p ∷ es) ≡ told_in es
unfolding told_in point_entry
point_none entry p es = split (eqb p entry) (λ e. rw (e, point_entry) refl) (λ e. rw (e, point_entry) refl)

verb_told : (w : Verb) (m : ℕ) (es : List Entry) → told_in (((verb_entry w).0, m) ∷ es) ≡ number_of m ∷ told_in es
unfolding told_in verb_entry
verb_told Fold m es = refl
verb_told Unfold m es = refl

module _ (entry : ℕ) where
  -- what its marks tell
  line_told : (l : Line At) (es : List Entry) → told_in (marked_line entry l ++ es) ≡ l.stmt.what.told ∷ told_in es
  unfolding marked_line told_in
  line_told l es =
      let c = l.stmt.what in
      let m = mark_of c.told in
      let rest : List Entry = (0, l.stmt.number) ∷ (map elem_entry c.place ++ es) in
      point_none entry l.point (((verb_entry c.verb).0, m) ∷ rest)
      ∙ verb_told c.verb m rest
      ∙ ap₂ (λ (n : ℕ) (ns : List ℕ). n ∷ ns) (mark_back c.told) (elems_none c.place es)

  pub marked_told : (ls : List (Line At)) → told_in (marked entry ls) ≡ numbers ls
  unfolding marked numbers told_in
  marked_told [] = refl
  marked_told (l ∷ ls) = line_told l (marked entry ls) ∙ ap (λ (ns : List ℕ). l.stmt.what.told ∷ ns) (marked_told ls)

  -- as many entries as without marks
  pub length_marked : (ls : List (Line At)) → length (marked entry ls) ≡ length (entries entry ls)
  unfolding marked entries marked_line line_entries
  length_marked [] = refl
  length_marked (l ∷ ls) = rw (length-append, length-append) (omega (arith, length_marked ls))

  -- the entries of two lists of lines, one behind the other
  pub marked_append : (ls ms : List (Line At)) → marked entry (ls ++ ms) ≡ marked entry ls ++ marked entry ms
  unfolding marked
  marked_append [] ms = refl
  marked_append (l ∷ ls) ms = ap (λ (es : List Entry). marked_line entry l ++ es) (marked_append ls ms) ∙ sym (append_assoc (marked_line entry l) (marked entry ls) (marked entry ms))

  -- what is collected bears no mark
  line_dashed : (l : Line At) → l.stmt.what.told ≡ dash → marked_line entry l ≡ line_entries entry l
  unfolding marked_line line_entries mark_of verb_entry
  line_dashed l e = rw (e, mark_of) (verbs l.stmt.what.verb)
    where
      verbs : (w : Verb) → ◌≡◌ {A = List Entry} (point_entry entry l.point ∷ ((verb_entry w).0, 0) ∷ (0, l.stmt.number) ∷ map elem_entry l.stmt.what.place)
          (point_entry entry l.point ∷ verb_entry w ∷ (0, l.stmt.number) ∷ map elem_entry l.stmt.what.place)
      verbs Fold = refl
      verbs Unfold = refl

  pub marked_dashed : {ls : List (Line At)} → Each (λ l. l.stmt.what.told ≡ dash) ls → marked entry ls ≡ entries entry ls
  unfolding marked entries
  marked_dashed each_none = refl
  marked_dashed (each_more {a = l} e es) = ap₂ (λ (x y : List Entry). x ++ y) (line_dashed l e) (marked_dashed es)

  -- without their marks they are the lines' entries: ops as they are
  ops_same : (ls : List (Line At)) → map (λ e. e.0) (marked entry ls) ≡ map (λ e. e.0) (entries entry ls)
  unfolding marked entries marked_line line_entries
  ops_same [] = refl
  ops_same (l ∷ ls) = map-append (λ (e : Entry). e.0) (marked_line entry l) (marked entry ls)
      ∙ ap (λ (r : List ℕ). map (λ (e : Entry). e.0) (line_entries entry l) ++ r) (ops_same ls)
      ∙ sym (map-append (λ (e : Entry). e.0) (line_entries entry l) (entries entry ls))

  -- and args without marks
  elems_args : (p : List Elem) → map unmarked (map elem_entry p) ≡ map (λ e. e.1) (map elem_entry p)
  unfolding unmarked elem_entry
  elems_args [] = refl
  elems_args (deref ∷ p) = ap (λ (r : List ℕ). 0 ∷ r) (elems_args p)
  elems_args (field i ∷ p) = ap (λ (r : List ℕ). i ∷ r) (elems_args p)
  elems_args (downcast v ∷ p) = ap (λ (r : List ℕ). v ∷ r) (elems_args p)
  elems_args (index ∷ p) = ap (λ (r : List ℕ). 0 ∷ r) (elems_args p)

  point_arg : (p : ℕ) → unmarked (point_entry entry p) ≡ (point_entry entry p).1
  unfolding unmarked point_entry
  point_arg p = split (eqb p entry) (λ e. rw (e, point_entry) refl) (λ e. rw (e, point_entry) refl)

  verb_arg : (w : Verb) (m : ℕ) → unmarked ((verb_entry w).0, m) ≡ (verb_entry w).1
  unfolding unmarked verb_entry
  verb_arg Fold m = refl
  verb_arg Unfold m = refl

  line_args : (l : Line At) → map unmarked (marked_line entry l) ≡ map (λ e. e.1) (line_entries entry l)
  unfolding marked_line line_entries unmarked
  line_args l =
      let c = l.stmt.what in
      ap₂ (λ (x : ℕ) (r : List ℕ). x ∷ r) (point_arg l.point)
      (ap₂ (λ (x : ℕ) (r : List ℕ). x ∷ l.stmt.number ∷ r) (verb_arg c.verb (mark_of c.told)) (elems_args c.place))

  args_same : (ls : List (Line At)) → map unmarked (marked entry ls) ≡ map (λ e. e.1) (entries entry ls)
  unfolding marked entries
  args_same [] = refl
  args_same (l ∷ ls) = map-append unmarked (marked_line entry l) (marked entry ls)
      ∙ ap₂ (λ (x y : List ℕ). x ++ y) (line_args l) (args_same ls)
      ∙ sym (map-append (λ (e : Entry). e.1) (line_entries entry l) (entries entry ls))

  -- THE RECORD
  -- with whatever words behind it, its marks taken out
  pub record_unmarked : (ls : List (Line At)) (r : List ℕ) → without_marks (marked_record entry ls ++ r) ≡ statement_record entry ls ++ r
  unfolding without_marks statement_record
  record_unmarked ls r =
      let es : List Entry = marked entry ls in
      let ops : List ℕ = map (λ (e : Entry). e.0) es in
      let args : List ℕ = map (λ (e : Entry). e.1) es in
      let k : ℕ = length ls in
      let n : ℕ = length es in
      let front : List ℕ = k ∷ n ∷ ops in
      let long : length front ≡ 2 + n = rw length-map (omega arith) in
      let both : record_of k es ++ r ≡ front ++ (args ++ r) = append_assoc front args r in
      let behind : 2 + n + n ≡ length (record_of k es) = omega (arith, length_record_of k es) in
      let cleaned : List ℕ = map unmarked es in
      ap (λ (us : List Entry). take (2 + n) (record_of k es ++ r) ++ take n (map unmarked us) ++ drop (2 + n + n) (record_of k es ++ r)) (entries_written k es r)
      ∙ ap₂ (λ (x y : List ℕ). x ++ y)
      (ap₂ (λ (x y : List ℕ). x ++ y) (ap (take (2 + n)) both ∙ take_at front (args ++ r) (2 + n) long) (take_all n cleaned (rw length-map (omega arith))))
      (drop_at (record_of k es) r (2 + n + n) (sym behind))
      ∙ ap₂ (λ (x : ℕ) (y : List ℕ). k ∷ x ∷ (y ++ cleaned ++ r)) (length_marked ls) (ops_same ls)
      ∙ ap (λ (x : List ℕ). k ∷ length (entries entry ls) ∷ (map (λ (e : Entry). e.0) (entries entry ls) ++ x ++ r)) (args_same ls)

  -- in a lent array
  pub lent_unmarked : (n : ℕ) (ls : List (Line At)) → without_marks (lent n (marked_record entry ls)) ≡ lent n (statement_record entry ls)
  unfolding lent statement_record
  lent_unmarked n ls = record_unmarked ls _ ∙ ap (λ (k : ℕ). statement_record entry ls ++ replicate (n - k) 0)
      (length_record_of (length ls) (marked entry ls) ∙ ap (λ (k : ℕ). 2 + 2 * k) (length_marked ls) ∙ sym (length_record_of (length ls) (entries entry ls)))

  pub lent_held : (n : ℕ) (ls : List (Line At)) → Held (lent n (marked_record entry ls))
  unfolding lent
  lent_held n ls = rw length-append (omega (arith, length_record_of (length ls) (marked entry ls)))

  pub lent_told : (n : ℕ) (ls : List (Line At)) → told_in (entries_of (lent n (marked_record entry ls))) ≡ numbers ls
  unfolding lent
  lent_told n ls = ap told_in (entries_written (length ls) (marked entry ls) _) ∙ marked_told ls
