-- A text that is read, whatever bytes each read brings.
use Rattle.std.specs.Prelude.{◌≡◌, Bool, false, true, List, ℕ, ℤ, pos, negsuc, length, take, min, eqb, ⊤, Option, Result, Ok, Err, IfSome}
use Rattle.std.specs.Io.KnownBytes.{Keeps, Consumes, IsAtEnd}
use Rattle.std.specs.declared.io.Error.{Error}
use Rattle.model.specs.Ghosts.{fresh, close, scan}
use Rattle.text.specs.declared.scan.Scan.{Scan}
use Rattle.text.specs.Reading.{Reads, Steps}
use Rattle.answer.specs.Said.{Ended}
use Rattle.ghosts.specs.declared.Input.{Input}
use Rattle.ghosts.specs.declared.Input.TheVariants.{More, End}

-- where reading stands
abbrev pub scan_of : Input → Option Scan
scan_of (More s) = s
scan_of (End s) = s

abbrev pub ended : Input → Bool
ended (More s) = false
ended (End s) = true

-- what a signed count of a read stands for, as a number of the buffer's bytes: none, if it is below 0
abbrev pub clamp_len : ℤ → ℕ → ℕ
clamp_len (pos k) most = min k most
clamp_len (negsuc k) most = 0

-- what a read brought is taken up: that many bytes of the buffer are a piece more, and reading goes on or has ended
pub record Brings (n : ℕ) (buf : List ℕ) (s : Option Scan) (words : List ℕ) (r : Input) (after : List ℕ) : Type 0 where
  pub steps : Steps (scan (take (min n (length buf)) buf)) s words (scan_of r) after
  pub ends : ended r ≡ eqb n 0

-- a piece more is read. A reader's bytes, where they are known, lose it; where the input has ended, none is left
pub record Piece (old new : Option (List ℕ)) (s : Option Scan) (words : List ℕ) (r : Input) (after : List ℕ) : Type 0 where
  pub piece : List ℕ
  pub steps : Steps (scan piece) s words (scan_of r) after
  pub taken : Consumes old new piece
  pub end : ended r ≡ true → IsAtEnd new

-- a read that fails takes nothing and leaves the words
abbrev pub Takes : Option (List ℕ) → Option (List ℕ) → Option Scan → List ℕ → Result Input Error → List ℕ → Type 0
Takes old new s words (Ok r) after = Piece old new s words r after
Takes old new s words (Err e) after = Keeps old new × (after ≡ words)

-- an input that has ended has been read whole
abbrev pub HeardAll : Result Input Error → List ℕ → Type 0
HeardAll (Ok (End s)) words = Ended s words
HeardAll (Ok (More s)) words = ⊤
HeardAll (Err e) words = ⊤

-- where a reader's bytes are known, an input that has ended has been read as those and no others
abbrev pub ReadsWhole : Option (List ℕ) → Result Input Error → List ℕ → Type 0
ReadsWhole known (Ok (End s)) words = IfSome known (λ bytes. Reads (close (scan bytes fresh)) s words)
ReadsWhole known (Ok (More s)) words = ⊤
ReadsWhole known (Err e) words = ⊤
