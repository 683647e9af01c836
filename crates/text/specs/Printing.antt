-- What is printed: bytes written at a place of a text (`Writes`), and the text of the entries of a statement record, behind each statement what
-- is told of it and a newline.
use Rattle.std.specs.Prelude.{◌≡◌, Bool, true, cond, ◌||◌, List, [], ◌∷◌, ◌++◌, ℕ, ◌+◌, ◌≤◌, ◌<◌, length, take, eqb, leb, Option, None, Some}
use Rattle.model.specs.Words.{word}
use Rattle.model.specs.Answer.{refused}
use Rattle.model.specs.Place.{Fold, Unfold, At}
use Rattle.model.specs.Block.{elem_of}
use Rattle.model.specs.Frame.{Line}
use Rattle.model.specs.Record.{Entry, statement_record, lent, numbers}
use Rattle.model.specs.Ghosts.{number, elem_text, verb_text, told_text, lines_text, answer_text}
use Rattle.text.specs.declared.print.Pen.{Pen}
use Rattle.text.specs.declared.print.Verb.{Verb}
use Rattle.text.specs.declared.print.Verb.TheVariants as verb

-- from `at` on, where r is the end, bytes have been written into t; what stands in front is kept
pub record Writes (t t' : List ℕ) (at r : ℕ) (bytes : List ℕ) : Type 0 where
  pub end : r ≡ at + length bytes
  pub long : length t' ≡ length t
  pub front : take r t' ≡ take at t ++ bytes

-- what one entry adds: a local's number, an element, a point, a verb
unfoldable pub entry_text : Entry → List ℕ
entry_text e =
    cond (eqb e.0 0) (number e.1)
    (cond (leb e.0 4) (elem_text (elem_of e.0 e.1))
    (cond (eqb e.0 13) (97 ∷ 116 ∷ 32 ∷ number e.1)
    (cond (eqb e.0 14) (101 ∷ 110 ∷ 116 ∷ 114 ∷ 121 ∷ [])
    (cond (eqb e.0 15) (verb_text Fold) (verb_text Unfold)))))

-- the ops of points
unfoldable pub point : ℕ → Bool
point op = eqb op 13 || eqb op 14

-- a line ends before these entries: there is none, or the first is a point
unfoldable pub ends : List Entry → Bool
ends [] = true
ends (e ∷ es) = point e.0

-- a line's verb, up to an entry and behind it, if there is one yet
unfoldable pub verb_now : Option Verb → ℕ → Option Verb
verb_now v op = cond (leb 15 op) (Some (cond (eqb op 15) verb.Fold verb.Unfold)) v

-- what is told at the end of a line with this verb: the number n, a dash, nothing
unfoldable pub told_bytes : Option Verb → ℕ → List ℕ
told_bytes None n = []
told_bytes (Some verb.Fold) n = told_text Fold n
told_bytes (Some verb.Unfold) n = told_text Unfold n

-- the first entry's text, in a line whose verb so far is v; if its line ends behind it, what is told and a newline
unfoldable pub first_text : Option Verb → ℕ → List Entry → List ℕ
first_text v n [] = []
first_text v n (e ∷ es) = entry_text e ++ cond (ends es) (told_bytes (verb_now v e.0) n ++ (10 ∷ [])) []

-- the line's verb behind the first entry; none where a line ends
unfoldable pub verb_behind : Option Verb → List Entry → Option Verb
verb_behind v [] = v
verb_behind v (e ∷ es) = cond (ends es) None (verb_now v e.0)

-- whether a line ends behind it
unfoldable pub ended : List Entry → ℕ
ended [] = 0
ended (e ∷ es) = cond (ends es) 1 0

-- numbers of three digits at the most
abbrev pub FewDigits : List ℕ → Type 0
FewDigits ns = (i : ℕ) → word ns i < 1000

-- where printing has come to: the pen p behind the first entry of es, q behind it
pub record Moves (told : List ℕ) (t t' : List ℕ) (p q : Pen) (es : List Entry) : Type 0 where
  pub writes : Writes t t' p.at q.at (first_text p.verb (word told p.line) es)
  pub verb : q.verb ≡ verb_behind p.verb es
  pub line : q.line ≡ p.line + ended es

-- bytes that are kept for what is told at the end of a line
abbrev pub kept_for : Option Verb → ℕ
kept_for None = 0
kept_for (Some v) = 4

-- a record is printed, up to r: if it is the record of lines and these are their numbers, their text
pub record Prints (out told t t' : List ℕ) (r : ℕ) : Type 0 where
  pub long : length t' ≡ length t
  pub inside : r ≤ length t
  pub lines : (entry : ℕ) (ls : List (Line At)) → out ≡ lent (length out) (statement_record entry ls) → told ≡ lent (length told) (numbers ls) → take r t' ≡ lines_text entry ls

-- refusal r is printed, up to n
pub record Refuses (t t' : List ℕ) (n r : ℕ) : Type 0 where
  pub long : length t' ≡ length t
  pub inside : n ≤ length t
  pub said : take n t' ≡ answer_text 0 (refused r)
