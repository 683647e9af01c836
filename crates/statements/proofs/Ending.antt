-- The finished record: the words that stand in the buffer at the end are the record, zeros behind it.
use Rattle.std.proofs.Common.{Ok, Err}
use mathlib.Core.Path.{◌≡◌, refl, sym, ap, ap₂, ◌∙◌}
use mathlib.Core.Bool.{Bool, true, false, ◌&&◌}
use mathlib.Core.List.{List, [], ◌∷◌, ◌++◌, map, append_assoc}
use Prim.Native.Nat.{ℕ, suc, ◌+◌, ◌*◌, ◌-◌, ◌%◌, ◌^◌, ◌≤◌, ◌<◌}
use native.Mathlib.Decide.{dec_le}
use native.Mathlib.Omega.{arith}
use lib.Dec.{leb}
use lib.ListN.{length, get_or, take, drop, set, replicate, length-append, length-map, length-drop, get_or-map}
use lib.Seq.{length-paste, take-paste, take-add, length-take-le, get_or-take, get_or-drop, ext_get_or}
use borrow.Author.Tests.{le-leb, lt-leb, lt-ltb, le-ltb}
use Rattle.model.specs.Words.{word}
use Rattle.model.specs.Record.{Entry, writable, lent}
use Rattle.base.specs.Tests.{and_both}
use Rattle.refusal.specs.declared.Refusal.TheVariants.{ShortStore}
use Rattle.statements.specs.declared.Out.{Out}
use Rattle.statements.specs.Kept.{room, Fits, Kept, counts, Finished}
use Rattle.statements.specs.Moved.{closed, cleared}

-- the words from a on are one half of each entry
words_are : (f : Entry → ℕ) (out : List ℕ) (a e : ℕ) (es : List Entry) → e ≡ length es → a + e ≤ length out
    → ((i : ℕ) → i < length es → get_or out (a + i) (f (0, 0)) ≡ f (get_or es i (0, 0))) → take e (drop a out) ≡ map f es
words_are f out a e es n h w =
    let long : length (take e (drop a out)) ≡ e = length-take-le e (drop a out) (rw length-drop (omega arith)) in
    ext_get_or (f (0, 0)) (take e (drop a out)) (map f es) (long ∙ n ∙ sym (length-map es f))
    (λ i l. get_or-take e (drop a out) i _ (omega arith) ∙ get_or-drop a out i _ ∙ w i (omega arith) ∙ sym (get_or-map f es i (0, 0)))

-- the two counts in front
set_counts : (out t : List ℕ) (k e : ℕ) → 2 ≤ length out → set (set (take 2 out ++ t) 0 k) 1 e ≡ k ∷ e ∷ t
set_counts [] t k e h = absurd (omega arith)
set_counts (x ∷ []) t k e h = absurd (omega arith)
set_counts (x ∷ y ∷ out) t k e h = refl

-- what closes up, is cleared behind and has its counts
record_closed : (out : List ℕ) (k e : ℕ) (es : List Entry) → e ≡ length es → 2 + room (length out) + e ≤ length out → e ≤ room (length out)
    → ((i : ℕ) → i < length es → word out (2 + i) ≡ (get_or es i (0, 0)).0)
    → ((i : ℕ) → i < length es → word out (2 + room (length out) + i) ≡ (get_or es i (0, 0)).1)
    → set (set (cleared (closed out (room (length out)) e) (2 + e + e)) 0 k) 1 e
    ≡ lent (length out) (k ∷ length es ∷ (map (λ p. p.0) es ++ map (λ p. p.1) es))
unfolding cleared closed lent
record_closed out k e es n h l ops args =
    let r : ℕ = room (length out) in
    let long : e ≤ length (drop (2 + r) out) = rw length-drop (omega arith) in
    let firsts : List ℕ = map (λ (p : Entry). p.0) es in
    let seconds : List ℕ = map (λ (p : Entry). p.1) es in
    let zeros : List ℕ = replicate (length out - (2 + e + e)) 0 in
    let both : length (firsts ++ seconds) ≡ e + e = rw (length-append, length-map, length-map) (omega arith) in
    let size : length (closed out r e) ≡ length out = length-paste out (2 + e) (drop (2 + r) out) e (omega arith) long in
    let front : take (2 + e + e) (closed out r e) ≡ take 2 out ++ firsts ++ seconds =
    take-paste out (2 + e) (drop (2 + r) out) e (omega arith) long
    ∙ ap₂ ◌++◌
    (take-add 2 e out ∙ ap (λ (t : List ℕ). take 2 out ++ t) (words_are (λ p. p.0) out 2 e es n (omega arith) ops))
    (words_are (λ p. p.1) out (2 + r) e es n (omega arith) args) in
    let tail : length out - suc (suc (length (firsts ++ seconds))) ≡ length out - (2 + e + e) = omega arith in
    let whole : cleared (closed out r e) (2 + e + e) ≡ take 2 out ++ (firsts ++ seconds ++ zeros) =
    ap₂ (λ (t : List ℕ) (m : ℕ). t ++ replicate (m - (2 + e + e)) 0) front size
    ∙ ap (λ (t : List ℕ). t ++ zeros) (append_assoc (take 2 out) firsts seconds)
    ∙ append_assoc (take 2 out) (firsts ++ seconds) zeros in
    ap (λ (t : List ℕ). set (set t 0 k) 1 e) whole
    ∙ set_counts out (firsts ++ seconds ++ zeros) k e (omega arith)
    ∙ ap₂ (λ (m j : ℕ). k ∷ m ∷ (firsts ++ seconds ++ replicate j 0)) n (sym tail)

-- THE FINISHED RECORD

-- the buffer is zeroed where no record can be written
pub finished_zeroed : {k : ℕ} {es : List Entry} {out : List ℕ} {o : Out} {out' : List ℕ} → (Kept k es out o → writable (length out) es ≡ false)
    → out' ≡ replicate (length out) 0 → Finished k es out o out' (Err ShortStore)
finished_zeroed w e = record {
  answer = λ K l. rw (w K) refl;
  written = λ K l c d. absurd (cc);
  counted = λ c d. absurd (cc);
  zeroed = λ x d. (cc, e);
}

-- a buffer of less than two words
pub not_counts : (n : ℕ) (es : List Entry) → n < 2 → writable n es ≡ false
unfolding writable
not_counts n es h = cc (lt-leb (2 + 2 * length es) n (omega arith))

-- no room for the entries
pub not_room : {k : ℕ} {es : List Entry} {out : List ℕ} {o : Out} → room (length out) < o.entries → Kept k es out o → writable (length out) es ≡ false
unfolding writable room
not_room {es = es} {out} h K = elim (dec_le (length es) (room (length out))) [
  | yes l ↦ absurd (omega (arith, (K.fits l).entries))
  | no l ↦ cc (lt-leb (2 + 2 * length es) (length out) (omega arith))
]

-- the second of two tests fails: so does the conjunction
and_second : (a : Bool) {b : Bool} → b ≡ false → a && b ≡ false
and_second true e = e
and_second false e = refl

-- more entries than a word can hold
pub not_number : {k : ℕ} {es : List Entry} {out : List ℕ} {o : Out} → o.entries ≤ room (length out) → 2 ^ 32 ≤ o.entries
    → Kept k es out o → writable (length out) es ≡ false
unfolding writable
not_number {es = es} {out} l h K = elim (dec_le (length es) (room (length out))) [
  | yes f ↦ and_second (leb (2 + 2 * length es) (length out)) (le-ltb (length es) (2 ^ 32) (omega (arith, (K.fits f).entries)))
  | no f ↦ absurd (omega (arith, K.over (omega arith)))
]

-- what fits
fits_of : {k : ℕ} {es : List Entry} {out : List ℕ} {o : Out} → o.entries ≤ room (length out) → Kept k es out o → Fits k es out o
fits_of {es = es} {out} l K = elim (dec_le (length es) (room (length out))) [
  | yes f ↦ K.fits f
  | no f ↦ absurd (omega (arith, K.over (omega arith)))
]

-- the record is written
pub finished_written : {k : ℕ} {es : List Entry} {out : List ℕ} {o : Out} {out' : List ℕ} → 2 ≤ length out → o.entries ≤ room (length out) → o.entries < 2 ^ 32
    → out' ≡ set (set (cleared (closed out (room (length out)) o.entries) (2 + o.entries + o.entries)) 0 (o.statements % 2 ^ 32)) 1 (o.entries % 2 ^ 32)
    → Finished k es out o out' (Ok (counts o.statements o.entries))
unfolding writable room
finished_written {k} {es} {out} {o} h l s e = record {
  answer = λ K d.
      let F = fits_of l K in
      rw (and_both (le-leb (2 + 2 * length es) (length out) (omega (arith, F.entries))) (lt-ltb (length es) (2 ^ 32) (omega (arith, F.entries))))
      (ap₂ (λ (s n : ℕ). Ok (counts s n)) F.statements F.entries);
  written = λ K d c t.
      let F = fits_of l K in
      let a : o.statements % 2 ^ 32 ≡ k = omega (arith, F.statements, F.entries) in
      let b : o.entries % 2 ^ 32 ≡ o.entries = omega arith in
      e ∙ ap₂ (λ (x y : ℕ). set (set (cleared (closed out (room (length out)) o.entries) (2 + o.entries + o.entries)) 0 x) 1 y) a b
      ∙ record_closed out k o.entries es F.entries (omega arith) l F.ops F.args;
  counted = λ c t. cc;
  zeroed = λ x t. absurd (cc);
}
