-- What is printed of what was read.
use mathlib.Core.Path.{◌≡◌, refl, sym, ap, ap₂, ◌∙◌}
use mathlib.Core.List.{List, [], ◌∷◌, ◌++◌, append-nil}
use Prim.Native.Nat.{ℕ, ◌-◌}
use native.Mathlib.Omega.{arith}
use borrow.Rule.Slice.PartMut.{put_mid, mid_of}
use lib.ListN.{length, take, drop, replicate, length-drop, drop_of_length-le}
use lib.Seq.{length-take-le, take_at, take_all}
use Rattle.std.specs.Prelude.{Option, None, Some}
use Rattle.model.specs.Answer.{refused, done}
use Rattle.model.specs.Record.{lent}
use Rattle.model.specs.Ghosts.{fresh, close, scan, answer_text, printed, ghosts}
use Rattle.records.specs.Scanned.{scan_pieces, joined}
use Rattle.text.specs.declared.scan.Scan.{Scan}
use Rattle.text.specs.Reading.{Reads, Begins, Steps}
use Rattle.text.specs.Pieces.{answer, pieces_words}
use Rattle.text.specs.Printing.{Refuses}
use Rattle.answer.specs.Said.{Says, Printed}

-- what is printed of what was read
pub said_of : (ps : List (List ℕ)) {s : Option Scan} {words : List ℕ} → Reads (close (scan_pieces ps fresh)) s words → printed (answer s words) ≡ ghosts (joined ps)
unfolding ghosts
said_of ps {s} {words} h = sym (ap printed (pieces_words ps s words h))

-- of a text that is refused
pub refusal_said : (s : Option Scan) (words : List ℕ) → s ≡ None → printed (answer s words) ≡ answer_text 0 (refused 2)
unfolding printed
refusal_said s words e = rw e refl

-- of its words
pub words_said : (o : Option Scan) (s : Scan) (words : List ℕ) → o ≡ Some s → printed (answer o words) ≡ printed (done (take s.total words))
words_said o s words e = rw e refl

-- a refusal is printed
pub refuses_says : {t t' : List ℕ} {n r : ℕ} {bytes : List ℕ} → Refuses t t' n r → answer_text 0 (refused r) ≡ bytes → Says t t' n bytes
refuses_says h e = record { long = h.long; inside = h.inside; said = h.said ∙ e }

-- bytes are printed, by another name
pub says_as : {t t' : List ℕ} {r : ℕ} {bytes others : List ℕ} → Says t t' r bytes → bytes ≡ others → Says t t' r others
says_as h e = record { long = h.long; inside = h.inside; said = h.said ∙ e }

-- a whole text is one piece
pub read_whole : (p : List ℕ) {s₀ s r : Option Scan} {w₀ w₁ w₂ : List ℕ} → Begins fresh s₀ → length w₀ ≡ 4096 → Steps (scan p) s₀ w₀ s w₁ → Steps close s w₁ r w₂
    → Reads (close (scan_pieces (p ∷ []) fresh)) r w₂
read_whole p b l h k = k.reads _ (h.reads _ (b _ l))

-- and is what its pieces are, joined
pub joined_whole : (p : List ℕ) → ghosts (joined (p ∷ [])) ≡ ghosts p
joined_whole p = ap ghosts (append-nil p)

-- what is printed, with zeros behind it
pub printed_whole : {t t₁ : List ℕ} {r : ℕ} {bytes : List ℕ} (z : List ℕ) → Says t t₁ r bytes → z ≡ replicate (length (mid_of r (length t₁ - r) t₁)) 0
    → let t' = put_mid r (length t₁ - r) t₁ z in Printed (length t) bytes r t' × (take r t' ≡ bytes)
unfolding lent
printed_whole {t} {t₁} {r} {bytes} z S e =
    let m : length (drop r t₁) ≡ length t₁ - r = omega (arith, length-drop r t₁) in
    let k : z ≡ replicate (length t₁ - r) 0 = e ∙ ap (λ (j : ℕ). replicate j 0) (ap length (take_all (length t₁ - r) (drop r t₁) (omega arith)) ∙ m) in
    let n : length (take r t₁) ≡ r = length-take-le r t₁ (omega (arith, S.long, S.inside)) in
    let c : r ≡ length bytes = sym n ∙ ap length S.said in
    let l : put_mid r (length t₁ - r) t₁ z ≡ bytes ++ replicate (length t - length bytes) 0 =
    ap₂ ◌++◌ S.said (ap₂ ◌++◌ (k ∙ ap₂ (λ (a b : ℕ). replicate (a - b) 0) S.long c) (drop_of_length-le (drop r t₁) (omega arith)) ∙ append-nil _) in
    (record { counted = c; left = l }, ap₂ take c l ∙ take_at bytes _ (length bytes) refl)
