-- Words printed with a blank behind each are read back: `words_spaced`.
use Rattle.std.specs.Prelude.{◌≡◌, refl, true, false, List, [], ◌∷◌, ◌++◌, ℕ, ◌+◌, ◌^◌, ◌<◌, ◌≤◌, length}
use Rattle.std.proofs.Common.{sym, ap, ◌∙◌, append_assoc, append-nil, add-zero, add-one, arith, lt-ltb}
use Rattle.model.specs.Answer.{done}
use Rattle.model.specs.Ghosts.{Scan, fresh, close, scan_byte, scan, backwards, words_of, number}
use Rattle.records.specs.Scanned.{scan_append, scan_snoc}
use Rattle.records.specs.Digits.{scan_number}

-- a text of words, a blank behind each
abbrev pub spaced : List ℕ → List ℕ
spaced [] = []
spaced (w ∷ ws) = number w ++ (32 ∷ spaced ws)

-- all are words
abbrev pub Words : List ℕ → Type 0
Words [] = Unit {0}
Words (w ∷ ws) = (w < 2 ^ 32) × Words ws

-- between two words, all well
pub record Between (s : Scan) : Type 0 where
  pub fine : s.fine ≡ true
  pub outside : s.inside ≡ false
  pub empty : s.value ≡ 0

-- s, after these words too
abbrev after : Scan → List ℕ → Scan
after s ws = record { words = backwards ws s.words; total = s.total + length ws; inside = false; value = 0; fine = true }

-- a word and a blank
scan_word : (w : ℕ) (s : Scan) → w < 2 ^ 32 → Between s → s.total < 4096 → scan (number w ++ (32 ∷ [])) s ≡ after s (w ∷ [])
unfolding scan scan_byte close
scan_word w s h b l = scan_snoc (number w) 32 s ∙ cc (scan_number w s h b.fine b.empty, lt-ltb s.total 4096 l, b.fine, add-one s.total)

-- words, a blank behind each
scan_spaced : (ws : List ℕ) (s : Scan) → Words ws → Between s → s.total + length ws ≤ 4096 → scan (spaced ws) s ≡ after s ws
unfolding scan
scan_spaced [] s h b l = λ i. record { words = s.words; total = sym (add-zero s.total) i; inside = b.outside i; value = b.empty i; fine = b.fine i }
scan_spaced (w ∷ ws) s h b l =
    ap (λ (t : List ℕ). scan t s) (sym (append_assoc (number w) (32 ∷ []) (spaced ws)))
    ∙ scan_append (number w ++ (32 ∷ [])) (spaced ws) s
    ∙ ap (scan (spaced ws)) (scan_word w s h.0 b (omega arith))
    ∙ scan_spaced ws (after s (w ∷ [])) h.1 (record { fine = refl; outside = refl; empty = refl }) (omega arith)
    ∙ ap (λ (n : ℕ). record { words = backwards ws (w ∷ s.words); total = n; inside = false; value = 0; fine = true }) (omega arith)

-- a list turned round twice
backwards_twice : (l a b : List ℕ) → backwards (backwards l a) b ≡ backwards a (l ++ b)
backwards_twice [] a b = refl
backwards_twice (x ∷ l) a b = backwards_twice l (x ∷ a) b

-- up to 4,096 words are read back
pub words_spaced : (ws : List ℕ) → Words ws → length ws ≤ 4096 → words_of (spaced ws) ≡ done ws
unfolding words_of close
words_spaced ws h l =
    rw (scan_spaced ws fresh h (record { fine = refl; outside = refl; empty = refl }) (omega arith))
    (ap done (backwards_twice ws [] [] ∙ append-nil ws))
