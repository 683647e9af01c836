-- The program `ghosts`: bytes in, bytes out. Both records as decimal words parted by blanks or newlines; a line per statement, or
-- `refused` and the number.
use Rattle.std.specs.Prelude.{Bool, true, false, cond, ◌&&◌, ◌||◌, List, [], ◌∷◌, ◌++◌, ℕ, zero, suc, ◌+◌, ◌-◌, ◌*◌, ◌/◌, ◌%◌, ◌^◌, length, take, drop, eqb, ltb, leb}
use Rattle.model.specs.Answer.{Answer, refused, done, require}
use Rattle.model.specs.Types.{types_length}
use Rattle.model.specs.Tree.{Forest}
use Rattle.model.specs.Place.{Elem, deref, field, downcast, index, Place, Verb, Fold, Unfold, dash, At}
use Rattle.model.specs.Function.{function_length}
use Rattle.model.specs.Block.{entry_point}
use Rattle.model.specs.Frame.{Line}
use Rattle.model.specs.Passes.{Found}
use Rattle.model.specs.Whole.{found}

-- READING

-- the tokenizer's state: the words so far, the latest first, and how many; whether a word is being read, and its value; whether
-- all was well. Past 4,096 words, or in a bad text, nothing more is kept
pub record Scan : Type 0 where
  pub words : List ℕ
  pub total : ℕ
  pub inside : Bool
  pub value : ℕ
  pub fine : Bool

abbrev pub fresh : Scan
fresh = record { words = []; total = 0; inside = false; value = 0; fine = true }

abbrev pub spoilt : Scan
spoilt = record { words = []; total = 0; inside = false; value = 0; fine = false }

-- a word ends
unfoldable pub close : Scan → Scan
close s = cond s.inside
    (cond (ltb s.total 4096) (record { words = s.value ∷ s.words; total = suc s.total; inside = false; value = 0; fine = s.fine }) spoilt)
    s

-- a digit: "a number from 2^32" is other text
unfoldable pub digit : ℕ → Scan → Scan
digit d s = cond (ltb (10 * s.value + d) (2 ^ 32))
    (record { words = s.words; total = s.total; inside = true; value = 10 * s.value + d; fine = s.fine })
    spoilt

-- a byte: 32 blank, 10 newline, 48 to 57 digits
unfoldable pub scan_byte : ℕ → Scan → Scan
scan_byte c s = elim s.fine [
  | false ↦ spoilt
  | true ↦ cond (eqb c 32 || eqb c 10) (close s) (cond (leb 48 c && leb c 57) (digit (c - 48) s) spoilt)
]

unfoldable pub scan : List ℕ → Scan → Scan
scan [] s = s
scan (c ∷ cs) s = scan cs (scan_byte c s)

abbrev pub backwards : List ℕ → List ℕ → List ℕ
backwards [] r = r
backwards (x ∷ l) r = backwards l (x ∷ r)

-- the words of a text; 2 "before all else" for too many words, a number from 2^32 or other text
unfoldable pub words_of : List ℕ → Answer (List ℕ)
words_of bytes = let s = close (scan bytes fresh) in require s.fine 2 λ _. done (backwards s.words [])

-- "4,096 words, 16 join points, 1,024 entries"
abbrev pub ghosts_store : ℕ
ghosts_store = 8192

abbrev pub ghosts_buffer : ℕ
ghosts_buffer = 2050

-- both records, one after the other; spare words are 2, too few are 1 or 2 by the record cut off
unfoldable pub function_words : List ℕ → List ℕ
function_words ws = drop (types_length ws) ws

unfoldable pub analysed : List ℕ → Answer (Found Forest At)
analysed ws = require (leb (length (function_words ws)) (function_length (function_words ws))) 2
    λ _. found (take (types_length ws) ws) (function_words ws) ghosts_store ghosts_store ghosts_buffer

-- WRITING

-- decimal digits, d of them at the most
unfoldable pub decimal : ℕ → ℕ → List ℕ
decimal zero n = []
decimal (suc d) n = elim (ltb n 10) [ true ↦ (48 + n) ∷ [] | false ↦ decimal d (n / 10) ++ ((48 + n % 10) ∷ []) ]

-- a word has at most ten
abbrev pub number : ℕ → List ℕ
number n = decimal 10 n

-- `.*` deref, `.0` field 0, `.as1` variant 1; no statement holds an index, which would print as `.[]`
unfoldable pub elem_text : Elem → List ℕ
elem_text deref = 46 ∷ 42 ∷ []
elem_text (field i) = 46 ∷ number i
elem_text (downcast v) = 46 ∷ 97 ∷ 115 ∷ number v
elem_text index = 46 ∷ 91 ∷ 93 ∷ []

unfoldable pub place_text : Place → List ℕ
place_text [] = []
place_text (e ∷ p) = elem_text e ++ place_text p

-- `at` and the item, or `entry`
unfoldable pub point_text : ℕ → ℕ → List ℕ
point_text entry p = cond (eqb p entry) (101 ∷ 110 ∷ 116 ∷ 114 ∷ 121 ∷ []) (97 ∷ 116 ∷ 32 ∷ number p)

-- ` fold _`, ` unfold _`
unfoldable pub verb_text : Verb → List ℕ
verb_text Fold = 32 ∷ 102 ∷ 111 ∷ 108 ∷ 100 ∷ 32 ∷ 95 ∷ []
verb_text Unfold = 32 ∷ 117 ∷ 110 ∷ 102 ∷ 111 ∷ 108 ∷ 100 ∷ 32 ∷ 95 ∷ []

-- the last word (document 02, F-4): ` -` of a statement that is collected; of one from a use the number behind an unfold, nothing behind
-- a fold
unfoldable pub told_text : Verb → ℕ → List ℕ
told_text Fold n = cond (eqb n dash) (32 ∷ 45 ∷ []) []
told_text Unfold n = cond (eqb n dash) (32 ∷ 45 ∷ []) (32 ∷ number n)

unfoldable pub line_text : ℕ → Line At → List ℕ
line_text entry l =
    let c = l.stmt.what in
    point_text entry l.point ++ (verb_text c.verb ++ (number l.stmt.number ++ (place_text c.place ++ (told_text c.verb c.told ++ (10 ∷ [])))))

unfoldable pub lines_text : ℕ → List (Line At) → List ℕ
lines_text entry [] = []
lines_text entry (l ∷ ls) = line_text entry l ++ lines_text entry ls

-- `refused ` and the number
abbrev pub refusal_text : ℕ → List ℕ
refusal_text r = 114 ∷ 101 ∷ 102 ∷ 117 ∷ 115 ∷ 101 ∷ 100 ∷ 32 ∷ (number r ++ (10 ∷ []))

unfoldable pub answer_text : ℕ → Answer (Found Forest At) → List ℕ
answer_text entry (refused r) = refusal_text r
answer_text entry (done f) = lines_text entry f.lines

-- what the program prints of these words
unfoldable pub printed : Answer (List ℕ) → List ℕ
printed (refused r) = answer_text 0 (refused r)
printed (done ws) = answer_text (entry_point (function_words ws)) (analysed ws)

unfoldable pub ghosts : List ℕ → List ℕ
ghosts bytes = printed (words_of bytes)
