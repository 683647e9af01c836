-- A text that has been read, in whatever pieces, and what is printed.
use Rattle.std.specs.Prelude.{◌≡◌, Option, List, ℕ, ◌≤◌, length, take}
use Rattle.model.specs.Record.{lent}
use Rattle.model.specs.Ghosts.{fresh, close, answer_text, ghosts, ghosts_store, ghosts_buffer}
use Rattle.model.specs.Block.{entry_point}
use Rattle.model.specs.Whole.{found}
use Rattle.records.specs.Scanned.{scan_pieces, joined}
use Rattle.text.specs.declared.scan.Scan.{Scan}
use Rattle.text.specs.Reading.{Reads}

-- some pieces have been read, and that was all
pub record Ended (s : Option Scan) (words : List ℕ) : Type 0 where
  pub pieces : List (List ℕ)
  pub reads : Reads (close (scan_pieces pieces fresh)) s words

-- bytes are printed into t, up to r
pub record Says (t t' : List ℕ) (r : ℕ) (bytes : List ℕ) : Type 0 where
  pub long : length t' ≡ length t
  pub inside : r ≤ length t
  pub said : take r t' ≡ bytes

-- what is printed of a whole text: so many bytes, and zeros behind them in the n bytes that were lent
pub record Printed (n : ℕ) (bytes : List ℕ) (r : ℕ) (t' : List ℕ) : Type 0 where
  pub counted : r ≡ length bytes
  pub left : t' ≡ lent n bytes

-- the text of what both records are answered
abbrev pub answer_of : List ℕ → List ℕ → List ℕ
answer_of Γ fn = answer_text (entry_point fn) (found Γ fn ghosts_store ghosts_store ghosts_buffer)

-- whatever pieces were read, the answer to all of them is printed
abbrev pub Responds : Option Scan → (words t t' : List ℕ) → ℕ → Type 0
Responds s words t t' r = (ps : List (List ℕ)) → Reads (close (scan_pieces ps fresh)) s words → Says t t' r (ghosts (joined ps))
