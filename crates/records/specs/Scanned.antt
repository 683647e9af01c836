-- The tokenizer of `ghosts`: the pieces in which a text comes do not matter, what is spoilt stays spoilt, and what is kept are at
-- most 4,096 words below 2^32.
use Rattle.std.specs.Prelude.{◌≡◌, refl, Bool, true, false, cond, ◌&&◌, ◌||◌, ℕ, suc, ◌+◌, ◌-◌, ◌*◌, ◌^◌, ◌<◌, ◌≤◌, eqb, ltb, leb, length}
use Rattle.std.proofs.Common.{ap, ◌∙◌, subst, ⊎_elim, true≢false, arith, ltb-true}
use mathlib.Core.List.Memᴰ
use mathlib.Core.List.{List, [], ◌∷◌, ◌++◌, Memᴰ}
use Rattle.model.specs.Answer.{Answer, refused, done, require}
use Rattle.model.specs.Ghosts.{Scan, fresh, spoilt, close, digit, scan_byte, scan, backwards, words_of}
use Rattle.base.specs.Tests.{split}

-- a text in two pieces
pub scan_append : (a b : List ℕ) (s : Scan) → scan (a ++ b) s ≡ scan b (scan a s)
unfolding scan
scan_append [] b s = refl
scan_append (c ∷ a) b s = scan_append a b (scan_byte c s)

-- a text in any pieces
abbrev pub scan_pieces : List (List ℕ) → Scan → Scan
scan_pieces [] s = s
scan_pieces (a ∷ as') s = scan_pieces as' (scan a s)

-- the text that the pieces are
abbrev pub joined : List (List ℕ) → List ℕ
joined [] = []
joined (a ∷ as') = a ++ joined as'

-- it is scanned as the pieces are
pub scan_joined : (as' : List (List ℕ)) (s : Scan) → scan (joined as') s ≡ scan_pieces as' s
unfolding scan
scan_joined [] s = refl
scan_joined (a ∷ as') s = scan_append a (joined as') s ∙ scan_joined as' (scan a s)

-- the words at the end of a text, from the tokenizer's state
abbrev pub words_at : Scan → Answer (List ℕ)
words_at s = require (close s).fine 2 λ _. done (backwards (close s).words [])

-- of a text in pieces
pub words_pieces : (as' : List (List ℕ)) → words_of (joined as') ≡ words_at (scan_pieces as' fresh)
unfolding words_of
words_pieces as' = ap words_at (scan_joined as' fresh)

-- one byte more
pub scan_snoc : (a : List ℕ) (c : ℕ) (s : Scan) → scan (a ++ (c ∷ [])) s ≡ scan_byte c (scan a s)
unfolding scan
scan_snoc a c s = scan_append a (c ∷ []) s

-- SPOILT

-- nothing mends a bad text
pub scan_spoilt : (a : List ℕ) → scan a spoilt ≡ spoilt
unfolding scan scan_byte
scan_spoilt [] = refl
scan_spoilt (c ∷ a) = scan_spoilt a

-- a byte after a bad text
pub byte_bad : (c : ℕ) (s : Scan) → s.fine ≡ false → scan_byte c s ≡ spoilt
unfolding scan_byte
byte_bad c s e = rw (e, scan_byte)

-- what is not well stays so
pub scan_bad : (a : List ℕ) (s : Scan) → s.fine ≡ false → (scan a s).fine ≡ false
unfolding scan
scan_bad [] s e = e
scan_bad (c ∷ a) s e = ap (λ (r : Scan). (scan a r).fine) (byte_bad c s e) ∙ ap (λ (r : Scan). r.fine) (scan_spoilt a)

-- nor does the text's end
pub close_bad : (s : Scan) → s.fine ≡ false → (close s).fine ≡ false
unfolding close
close_bad s e = split s.inside (λ i. split (ltb s.total 4096) (λ t. cc) (λ t. cc)) (λ i. cc)

-- so the text is refused
pub words_bad : (s : Scan) → s.fine ≡ false → words_at s ≡ refused 2
words_bad s e = cc (close_bad s e)

-- WHAT IS KEPT

-- the words are counted, at most 4,096 and each below 2^32, as is the value so far
pub record Kept (s : Scan) : Type 0 where
  pub counted : length s.words ≡ s.total
  pub few : s.total ≤ 4096
  pub small : s.value < 2 ^ 32
  pub words_small : (w : ℕ) → Memᴰ w s.words → w < 2 ^ 32

-- at the begin
pub fresh_kept : Kept fresh
fresh_kept = record { counted = refl; few = omega arith; small = omega arith; words_small = λ w m. absurd (Memᴰ.not-nil m) }

-- a spoilt text keeps nothing
spoilt_kept : Kept spoilt
spoilt_kept = record { counted = refl; few = omega arith; small = omega arith; words_small = λ w m. absurd (Memᴰ.not-nil m) }

-- a case of a test, kept in both cases
cond_kept : (b : Bool) {s r : Scan} → (b ≡ true → Kept s) → (b ≡ false → Kept r) → Kept (cond b s r)
cond_kept true f g = f refl
cond_kept false f g = g refl

-- where a word ends
pub close_kept : (s : Scan) → Kept s → Kept (close s)
unfolding close
close_kept s h =
    cond_kept s.inside
    (λ i. cond_kept (ltb s.total 4096)
    (λ l. record {
      counted = ap suc h.counted;
      few = ltb-true s.total 4096 l;
      small = omega arith;
      words_small = λ w m. ⊎_elim (λ e. omega (arith, h.small)) (λ k. h.words_small w k) (Memᴰ.cases_cons m);
    })
    (λ l. spoilt_kept))
    (λ i. h)

-- at a digit
digit_kept : (d : ℕ) (s : Scan) → Kept s → Kept (digit d s)
unfolding digit
digit_kept d s h =
    cond_kept (ltb (10 * s.value + d) (2 ^ 32))
    (λ l. record { counted = h.counted; few = h.few; small = ltb-true (10 * s.value + d) (2 ^ 32) l; words_small = h.words_small })
    (λ l. spoilt_kept)

-- at any byte
byte_kept : (c : ℕ) (s : Scan) → Kept s → Kept (scan_byte c s)
unfolding scan_byte
byte_kept c s h =
    split s.fine
    (λ f. rw (f, scan_byte) (cond_kept (eqb c 32 || eqb c 10) (λ e. close_kept s h) (λ e.
    cond_kept (leb 48 c && leb c 57) (λ d. digit_kept (c - 48) s h) (λ d. spoilt_kept))))
    (λ f. rw (byte_bad c s f) spoilt_kept)

-- after any text
pub scan_kept : (a : List ℕ) (s : Scan) → Kept s → Kept (scan a s)
unfolding scan
scan_kept [] s h = h
scan_kept (c ∷ a) s h = scan_kept a (scan_byte c s) (byte_kept c s h)

-- a list turned round is as long
pub length_backwards : (l r : List ℕ) → length (backwards l r) ≡ length l + length r
length_backwards [] r = omega arith
length_backwards (x ∷ l) r = length_backwards l (x ∷ r) ∙ omega arith

-- what holds of all words holds of them turned round
backwards_all : (P : ℕ → Type 0) (l r : List ℕ) → ((w : ℕ) → Memᴰ w l → P w) → ((w : ℕ) → Memᴰ w r → P w)
    → (w : ℕ) → Memᴰ w (backwards l r) → P w
backwards_all P [] r f g w m = g w m
backwards_all P (x ∷ l) r f g w m =
    backwards_all P l (x ∷ r) (λ v k. f v (Memᴰ.tail k))
    (λ v k. ⊎_elim (λ e. f v (Memᴰ.head e)) (λ j. g v j) (Memᴰ.cases_cons k)) w m

-- the words of a text, if it is not refused
pub record WordsRead (ws : List ℕ) : Type 0 where
  pub few : length ws ≤ 4096
  pub small : (w : ℕ) → Memᴰ w ws → w < 2 ^ 32

-- at most 4,096 words, each below 2^32
pub words_read : (bytes ws : List ℕ) → words_of bytes ≡ done ws → WordsRead ws
unfolding words_of
words_read bytes ws e =
    let s : Scan = close (scan bytes fresh) in
    let h : Kept s = close_kept (scan bytes fresh) (scan_kept bytes fresh fresh_kept) in
    split s.fine
    (λ f. subst WordsRead {x = backwards s.words []} {y = ws} (cc) (record {
      few = rw length_backwards (omega (arith, h.counted, h.few));
      small = backwards_all (λ w. w < 2 ^ 32) s.words [] h.words_small (λ w m. absurd (Memᴰ.not-nil m));
    }))
    (λ f. absurd (true≢false (cc)))
