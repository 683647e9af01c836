-- A whole text, read in pieces: what the code has in the end is what model's `words_of` gives.
use Rattle.std.specs.Prelude.{◌≡◌, refl, Option, None, Some, List, [], ◌∷◌, ◌++◌, ℕ, ◌≤◌, take}
use Rattle.std.proofs.Common.{◌∙◌}
use Rattle.model.specs.Answer.{Answer, refused, done}
use Rattle.model.specs.Ghosts as Model
use Rattle.model.specs.Ghosts.{close, scan, words_of}
use Rattle.records.specs.Scanned.{scan_pieces, joined, scan_joined, words_at, words_pieces, fresh_kept, scan_kept, close_kept}
use Rattle.text.specs.declared.scan.Scan.{Scan}
use Rattle.text.specs.Reading.{Reads, Steps}

-- the words, or refusal 2, as the code has them in the end
abbrev pub answer : Option Scan → List ℕ → Answer (List ℕ)
answer None words = refused 2
answer (Some s) words = done (take s.total words)

-- they are those of the state that was closed
pub answer_right : (m : Model.Scan) (s : Option Scan) (words : List ℕ) → Reads (close m) s words → words_at m ≡ answer s words
answer_right m None words h = rw h.at
answer_right m (Some s) words h = rw (h.at.fine, ← h.at.front, h.at.total)

-- the pieces and a piece are scanned one after the other
scan_pieces_snoc : (ps : List (List ℕ)) (p : List ℕ) (m : Model.Scan) → scan_pieces (ps ++ (p ∷ [])) m ≡ scan p (scan_pieces ps m)
scan_pieces_snoc [] p m = refl
scan_pieces_snoc (q ∷ ps) p m = scan_pieces_snoc ps p (scan q m)

-- a piece more
pub pieces_more : (ps : List (List ℕ)) (p : List ℕ) {s r : Option Scan} {words after : List ℕ} → Reads (scan_pieces ps Model.fresh) s words
    → Steps (scan p) s words r after → Reads (scan_pieces (ps ++ (p ∷ [])) Model.fresh) r after
pieces_more ps p h k = rw (scan_pieces_snoc ps p Model.fresh) (k.reads (scan_pieces ps Model.fresh) h)

module _ (ps : List (List ℕ)) (s : Option Scan) (words : List ℕ) (h : Reads (close (scan_pieces ps Model.fresh)) s words) where
  -- the words of the text that the pieces are
  pub pieces_words : words_of (joined ps) ≡ answer s words
  pieces_words = words_pieces ps ∙ answer_right (scan_pieces ps Model.fresh) s words h

-- they are in the array
pub pieces_few : (ps : List (List ℕ)) (s : Scan) (words : List ℕ) → Reads (close (scan_pieces ps Model.fresh)) (Some s) words → s.total ≤ 4096
pieces_few ps s words h =
    rw (h.at.total, ← scan_joined ps Model.fresh) (close_kept (scan (joined ps) Model.fresh) (scan_kept (joined ps) Model.fresh fresh_kept)).few
