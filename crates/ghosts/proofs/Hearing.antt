-- The pieces that were read, and the bytes that they are.
use Rattle.std.proofs.Common.{◌≡◌, ap, ◌∙◌, subst, Option, None, Some, IfSome, List, [], ◌∷◌, ◌++◌, append-nil, ℕ, ◌≤◌, length, take, ℤ, pos, negsuc, FitsSigned, to_z, of_z, w64, arith}
use Rattle.std.proofs.Math.Nat.{min-le_right, min-eq_left}
use Rattle.std.proofs.lemmas.Int.{to_z-of_z}
use Rattle.std.proofs.KnownBytes.{Consumes-nil, Consumes-trans}
use Rattle.std.specs.Io.KnownBytes.{Consumes, IsAtEnd}
use Rattle.model.specs.Ghosts.{fresh, close, scan}
use Rattle.records.specs.Scanned.{scan_pieces, scan_append}
use Rattle.text.specs.declared.scan.Scan.{Scan}
use Rattle.text.specs.Reading.{Reads, Steps}
use Rattle.text.specs.Pieces.{pieces_more}
use Rattle.answer.specs.Said.{Ended}
use Rattle.ghosts.specs.declared.Input.{Input}
use Rattle.ghosts.specs.Heard.{Brings, Piece, scan_of, clamp_len}

-- some pieces have been read, which a reader's bytes have lost, where they are known
pub record Heard (old new : Option (List ℕ)) (s : Option Scan) (words : List ℕ) : Type 0 where
  pub pieces : List (List ℕ)
  pub in_pieces : Reads (scan_pieces pieces fresh) s words
  pub bytes : List ℕ
  pub whole : Reads (scan bytes fresh) s words
  pub taken : Consumes old new bytes

-- before any read
pub heard_none : (a : Option (List ℕ)) {s : Option Scan} {words : List ℕ} → Reads fresh s words → Heard a a s words
unfolding scan
heard_none a h = record { pieces = []; in_pieces = h; bytes = []; whole = h; taken = Consumes-nil a }

-- a piece more
pub heard_more : {a b c : Option (List ℕ)} {s : Option Scan} {r : Input} {words after : List ℕ} → Heard a b s words → Piece b c s words r after → Heard a c (scan_of r) after
heard_more {a} {b} {c} h k = record {
  pieces = h.pieces ++ (k.piece ∷ []);
  in_pieces = pieces_more h.pieces k.piece h.in_pieces k.steps;
  bytes = h.bytes ++ k.piece;
  whole = rw (scan_append h.bytes k.piece fresh) (k.steps.reads _ h.whole);
  taken = Consumes-trans a b c h.bytes k.piece h.taken k.taken;
}

-- the end: the pieces are all, and where a reader's bytes are known they are these
pub heard_all : {a b : Option (List ℕ)} {s r : Option Scan} {words after : List ℕ} → Heard a b s words → Steps close s words r after → Ended r after
heard_all h k = record { pieces = h.pieces; reads = k.reads _ h.in_pieces }

pub heard_whole : (a b : Option (List ℕ)) {s r : Option Scan} {words after : List ℕ} → Heard a b s words → IsAtEnd b → Steps close s words r after
    → IfSome a (λ bytes. Reads (close (scan bytes fresh)) r after)
heard_whole None b h e k = tt
heard_whole (Some xs) None h e k = absurd h.taken
heard_whole (Some xs) (Some ys) h e k = let w : xs ≡ h.bytes = h.taken ∙ ap (λ l. h.bytes ++ l) e ∙ append-nil h.bytes in rw w (k.reads _ h.whole)

-- a count that a read gives as a signed number: as many bytes are a piece, as they are where the count is a number of bytes
pub piece_tested : (n : ℕ) (z : ℤ) (buf : List ℕ) {words after : List ℕ} {s r : Option Scan} → FitsSigned w64 z → n ≡ clamp_len (to_z w64 (of_z w64 z)) (length buf)
    → Steps (scan (take n buf)) s words r after → Steps (scan (take (clamp_len z (length buf)) buf)) s words r after
piece_tested n z buf f e h = rw (e ∙ ap (λ x. clamp_len x (length buf)) (to_z-of_z w64 z f)) at h

clamp_le : (x : ℤ) (most : ℕ) → clamp_len x most ≤ most
clamp_le (pos k) most = min-le_right k most
clamp_le (negsuc k) most = omega arith

-- and so of what `hear` brings, of each signed count that its number of bytes is
pub brings_counted : {n : ℕ} {buf : List ℕ} {s : Option Scan} {words after : List ℕ} {r : Input} → Brings n buf s words r after → (z : ℤ) → FitsSigned w64 z
    → n ≡ clamp_len (to_z w64 (of_z w64 z)) (length buf) → Steps (scan (take (clamp_len z (length buf)) buf)) s words (scan_of r) after
brings_counted {n} {buf} {s} {words} {after} {r} B z f e =
    let l : n ≤ length buf = rw e (clamp_le (to_z w64 (of_z w64 z)) (length buf)) in
    piece_tested n z buf f e (subst (λ (k : ℕ). Steps (scan (take k buf)) s words (scan_of r) after) (min-eq_left l) B.steps)
