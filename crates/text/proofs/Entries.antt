-- A record's entries as code reads and prints them, from entry k on; and how long their texts are.
use mathlib.Core.Path.{◌≡◌, refl, sym, ◌∙◌, ap, ap₂}
use mathlib.Core.Bool.{Bool, true, cond}
use mathlib.Core.List.{List, [], ◌∷◌, ◌++◌}
use Prim.Native.Nat.{ℕ, ◌+◌, ◌/◌, ◌≤◌, ◌<◌}
use native.Mathlib.Nat.{add-zero}
use native.Mathlib.Numerals.{add-one}
use native.Mathlib.Omega.{arith}
use lib.Dec.{eqb, leb}
use lib.ListN.{length, drop, length-append}
use lib.Seq.{get_or-drop, drop-drop}
use borrow.Author.Tests.{ne_eqb, lt-leb, leb-true, leb-false}
use Rattle.model.specs.Words.{word}
use Rattle.std.specs.Prelude.{Option, None, Some}
use Rattle.model.specs.Place as Place
use Rattle.model.specs.Place.{Elem, deref, field, downcast, index, Fold, Unfold, dash}
use Rattle.model.specs.Block.{elem_of}
use Rattle.model.specs.Record.{Entry}
use Rattle.model.specs.Ghosts.{number, elem_text, verb_text, told_text}
use Rattle.base.specs.Tests.{split, cond_split}
use Rattle.records.specs.Entries.{Whole, entries_of, entries_next, entries_over}
use Rattle.records.specs.Digits.{length_number}
use Rattle.text.specs.declared.print.Verb.{Verb}
use Rattle.text.specs.declared.print.Verb.TheVariants as verb
use Rattle.text.specs.Printing.{entry_text, point, ends, verb_now, told_bytes, first_text, verb_behind, ended, kept_for}
use Rattle.text.proofs.Writing.{number_one, number_more}

-- the text of entries, in a line whose verb so far is v; ns: the numbers of the lines from this one on
unfoldable pub entries_text : Option Verb → List ℕ → List Entry → List ℕ
entries_text v ns [] = []
entries_text v ns (e ∷ es) = first_text v (word ns 0) (e ∷ es) ++ entries_text (verb_behind v (e ∷ es)) (drop (ended (e ∷ es)) ns) es

-- IN THE ARRAY

module _ (ws : List ℕ) (h : Whole ws) where
  -- a line ends before entry k: there is none
  pub ends_over : (k : ℕ) → word ws 1 ≤ k → true ≡ ends (drop k (entries_of ws))
  unfolding ends
  ends_over k l = sym (ap ends (entries_over ws h k l))

  -- or its op says so
  pub ends_there : (k : ℕ) → k < word ws 1 → point (word ws (2 + k)) ≡ ends (drop k (entries_of ws))
  unfolding ends
  ends_there k l = sym (ap ends (entries_next ws h k l))

  module _ (k n : ℕ) (l : k < word ws 1) (e : n ≡ word ws 1) {b : Bool} (q : b ≡ ends (drop (k + 1) (entries_of ws))) where
    -- the text of entry k; b: whether its line ends there
    pub first_there : (v : Option Verb) (m : ℕ) → entry_text (word ws (2 + k), word ws (2 + n + k)) ++ cond b (told_bytes (verb_now v (word ws (2 + k))) m ++ (10 ∷ [])) []
        ≡ first_text v m (drop k (entries_of ws))
    unfolding first_text
    first_there v m = rw (entries_next ws h k l, e, q, add-one) refl

    -- the verb behind it
    pub verb_there : (v : Option Verb) → cond b None (verb_now v (word ws (2 + k))) ≡ verb_behind v (drop k (entries_of ws))
    unfolding verb_behind
    verb_there v = rw (entries_next ws h k l, q, add-one) refl

    -- and whether a line has ended
    pub ended_there : cond b 1 0 ≡ ended (drop k (entries_of ws))
    unfolding ended
    ended_there = rw (entries_next ws h k l, q, add-one) refl

  -- the text from entry k on
  pub text_next : (k : ℕ) → k < word ws 1 → (v : Option Verb) (told : List ℕ) (j : ℕ) → let es = drop k (entries_of ws) in
      first_text v (word told j) es ++ entries_text (verb_behind v es) (drop (j + ended es) told) (drop (k + 1) (entries_of ws)) ≡ entries_text v (drop j told) es
  unfolding entries_text
  text_next k l v told j =
      let es : List Entry = drop k (entries_of ws) in
      let here : word (drop j told) 0 ≡ word told j = get_or-drop j told 0 0 ∙ ap (word told) (add-zero j) in
      ap₂ (λ (m : ℕ) (ns : List ℕ). first_text v m es ++ entries_text (verb_behind v es) ns (drop (k + 1) (entries_of ws))) (sym here) (sym (drop-drop (ended es) j told))
      ∙ rw (entries_next ws h k l, add-one) refl

  -- which is empty behind the last
  pub text_over : (k : ℕ) → word ws 1 ≤ k → (v : Option Verb) (ns : List ℕ) → entries_text v ns (drop k (entries_of ws)) ≡ []
  unfolding entries_text
  text_over k l v ns = ap (entries_text v ns) (entries_over ws h k l)

-- LENGTHS

-- an element's text
length_elem : (e : Elem) → length (elem_text e) ≤ 13
unfolding elem_text
length_elem deref = omega arith
length_elem (field i) = omega (arith, length_number i)
length_elem (downcast v) = omega (arith, length_number v)
length_elem index = omega arith

-- an entry's
pub length_entry : (e : Entry) → length (entry_text e) ≤ 13
unfolding entry_text verb_text
length_entry e =
    let Short : List ℕ → Type 0 = λ t. length t ≤ 13 in
    cond_split Short (eqb e.0 0) (λ _. omega (arith, length_number e.1))
    (λ _. cond_split Short (leb e.0 4) (λ _. length_elem (elem_of e.0 e.1))
    (λ _. cond_split Short (eqb e.0 13) (λ _. omega (arith, length_number e.1))
    (λ _. cond_split Short (eqb e.0 14) (λ _. omega arith)
    (λ _. cond_split Short (eqb e.0 15) (λ _. omega arith) (λ _. omega arith)))))

-- a verb's
length_verb : (e : Entry) → 15 ≤ e.0 → length (entry_text e) ≤ 9
unfolding entry_text verb_text
length_verb e l =
    rw (ne_eqb e.0 0 (λ q. omega arith), lt-leb e.0 4 (omega arith), ne_eqb e.0 13 (λ q. omega arith), ne_eqb e.0 14 (λ q. omega arith))
    (cond_split (λ (t : List ℕ). length t ≤ 9) (eqb e.0 15) (λ _. omega arith) (λ _. omega arith))

-- so there is room for it, and for what is told behind its line
pub length_kept : (v : Option Verb) (e : Entry) → length (entry_text e) + kept_for (verb_now v e.0) ≤ kept_for v + 13
unfolding verb_now
length_kept v e = split (leb 15 e.0)
    (λ q. rw q (omega (arith, length_verb e (leb-true 15 e.0 q))))
    (λ q. rw q (omega (arith, length_entry e)))

-- a number of three digits at the most
pub length_few : (n : ℕ) → n < 1000 → length (number n) ≤ 3
length_few n l = split (leb 10 n)
    (λ a. let x = leb-true 10 n a in split (leb 100 n)
    (λ b.
    let y = leb-true 100 n b in
    rw (number_more n (omega arith) x, number_more (n / 10) (omega arith) (omega arith), number_one (n / 10 / 10) (omega arith)) (omega arith))
    (λ b. let y = leb-false 100 n b in rw (number_more n (omega arith) x, number_one (n / 10) (omega arith)) (omega arith)))
    (λ a. rw (number_one n (leb-false 10 n a)) (omega arith))

-- what is told
length_told_text : (w : Place.Verb) (n : ℕ) → n < 1000 → length (told_text w n) ≤ 4
unfolding told_text
length_told_text Fold n l = cond_split (λ (t : List ℕ). length t ≤ 4) (eqb n dash) (λ _. omega arith) (λ _. omega arith)
length_told_text Unfold n l = cond_split (λ (t : List ℕ). length t ≤ 4) (eqb n dash) (λ _. omega arith) (λ _. omega (arith, length_few n l))

pub length_told : (v : Option Verb) (n : ℕ) → n < 1000 → length (told_bytes v n) ≤ kept_for v
unfolding told_bytes
length_told None n l = omega arith
length_told (Some verb.Fold) n l = length_told_text Fold n l
length_told (Some verb.Unfold) n l = length_told_text Unfold n l

-- its bytes, by the line's verb and the number
pub bytes_none : (n : ℕ) → told_bytes None n ≡ []
unfolding told_bytes
bytes_none n = refl

pub bytes_dash : (v : Verb) (n : ℕ) → n ≡ 255 → told_bytes (Some v) n ≡ 32 ∷ 45 ∷ []
unfolding told_bytes told_text
bytes_dash verb.Fold n e = rw e refl
bytes_dash verb.Unfold n e = rw e refl

pub bytes_fold : (v : Verb) (n : ℕ) → v ≡ verb.Fold → (n ≡ 255 → ⊥) → told_bytes (Some v) n ≡ []
unfolding told_bytes told_text
bytes_fold v n e d = rw (e, ne_eqb n dash d) refl

pub bytes_unfold : (v : Verb) (n : ℕ) → v ≡ verb.Unfold → (n ≡ 255 → ⊥) → told_bytes (Some v) n ≡ 32 ∷ number n
unfolding told_bytes told_text
bytes_unfold v n e d = rw (e, ne_eqb n dash d) refl

-- an entry's with all that stands behind it
pub length_first : (v : Option Verb) (n : ℕ) (es : List Entry) → n < 1000 → length (first_text v n es) + kept_for (verb_behind v es) ≤ kept_for v + 14
unfolding first_text verb_behind
length_first v n [] l = omega arith
length_first v n (e ∷ es) l =
    let w : Option Verb = verb_now v e.0 in
    rw length-append (split (ends es)
    (λ q. rw (q, length-append) (omega (arith, length_kept v e, length_told w n l)))
    (λ q. rw q (omega (arith, length_kept v e))))

pub ended_few : (es : List Entry) → ended es ≤ 1
unfolding ended
ended_few [] = omega arith
ended_few (e ∷ es) = cond_split (λ (k : ℕ). k ≤ 1) (ends es) (λ _. omega arith) (λ _. omega arith)
