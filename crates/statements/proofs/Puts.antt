-- A statement record that grows: it starts empty, nothing put changes nothing, two puts are one. How many entries a put counts, and
-- what one entry more does.
use mathlib.Core.Path.{◌≡◌, refl, sym, ap, ◌∙◌, subst}
use mathlib.Core.Bool.{Bool}
use mathlib.Core.List.{List, [], ◌∷◌, ◌++◌, append_assoc, append-nil}
use Prim.Native.Nat.{ℕ, zero, suc, ◌+◌, ◌≤◌, ◌<◌}
use native.Mathlib.Nat.{add_assoc}
use native.Mathlib.Decide.{dec_le}
use native.Mathlib.Omega.{arith}
use lib.ListN.{length, get_or, length-append}
use Rattle.model.specs.Words.{word}
use Rattle.model.specs.Record.{Entry}
use Rattle.statements.specs.declared.Out.{Out}
use Rattle.statements.specs.declared.Point.{Point}
use Rattle.statements.specs.Kept.{begun, at_point, Alike, room, Counted, Kept, Puts}

-- THE LAWS THAT CALLERS CITE

-- at the beginning the counts are in range
pub counted_begun : (out : List ℕ) {b : Bool} {p : Point} → Counted out (begun b p)
counted_begun out = record { statements = omega arith; entries = omega arith }

-- and no statement is held
pub kept_begun : (out : List ℕ) {b : Bool} {p : Point} → Kept 0 [] out (begun b p)
kept_begun out = record {
  fits = λ h. record { statements = refl; entries = refl; ops = λ i l. absurd (omega arith); args = λ i l. absurd (omega arith) };
  over = λ h. absurd (omega arith);
}

-- another point changes nothing
pub alike_at : (o : Out) (p : Point) → Alike o (at_point o p)
alike_at o p = record { statements = refl; entries = refl; recording = refl }

pub alike_same : (o : Out) → Alike o o
alike_same o = record { statements = refl; entries = refl; recording = refl }

pub alike_then : {o p q : Out} → Alike o p → Alike p q → Alike o q
alike_then A B = record { statements = B.statements ∙ A.statements; entries = B.entries ∙ A.entries; recording = B.recording ∙ A.recording }

pub counted_alike : {out : List ℕ} {o p : Out} → Alike o p → Counted out o → Counted out p
counted_alike A C = record { statements = omega (arith, A.statements, A.entries, C.statements); entries = omega (arith, A.entries, C.entries) }

pub kept_alike : {k : ℕ} {es : List Entry} {out : List ℕ} {o p : Out} → Alike o p → Kept k es out o → Kept k es out p
kept_alike A K = record {
  fits = λ h. let F = K.fits h in record { statements = A.statements ∙ F.statements; entries = A.entries ∙ F.entries; ops = F.ops; args = F.args };
  over = λ h. A.entries ∙ K.over h;
}

-- what is put from o on is put from another that is like it
pub puts_alike : {n : ℕ} {a b : List ℕ} {o p q : Out} {es : List Entry} → Alike o p → Puts n a p b q es → Puts n a o b q es
puts_alike A P = record {
  same = P.same;
  recording = P.recording ∙ A.recording;
  counted = P.counted;
  kept = λ k ds K. P.kept k ds (kept_alike A K);
}

-- no more statements, and no more entries, is no change
kept_same : {k j : ℕ} {es fs : List Entry} {out : List ℕ} {o : Out} → k ≡ j → es ≡ fs → Kept k es out o → Kept j fs out o
kept_same {k} {j} {es} {fs} {out} {o} d e K =
    subst (λ (l : List Entry). Kept j l out o) e (subst (λ (n : ℕ). Kept n es out o) d K)

-- nothing is put
pub puts_none : {out : List ℕ} {o : Out} → Counted out o → Puts 0 out o out o []
puts_none C = record { same = refl; recording = refl; counted = C; kept = λ k es K. kept_same (omega arith) (sym (append-nil es)) K }

-- two puts: their numbers add, their entries are appended
pub puts_then : {m n : ℕ} {a b c : List ℕ} {o p q : Out} {es fs : List Entry} → Puts m a o b p es → Puts n b p c q fs → Puts (m + n) a o c q (es ++ fs)
puts_then {m} {n} {es = es} {fs = fs} P Q = record {
  same = Q.same ∙ P.same;
  recording = Q.recording ∙ P.recording;
  counted = Q.counted;
  kept = λ k ds K. kept_same (add_assoc k m n) (append_assoc ds es fs) (Q.kept (k + m) (ds ++ es) (P.kept k ds K));
}

-- HOW MANY ENTRIES A PUT COUNTS

-- n entries, as f gives them
tabulated : (ℕ → Entry) → ℕ → List Entry
tabulated f zero = []
tabulated f (suc n) = f 0 ∷ tabulated (λ i. f (suc i)) n

-- as many as were asked for
length_tabulated : (f : ℕ → Entry) (n : ℕ) → length (tabulated f n) ≡ n
unfolding tabulated
length_tabulated f zero = refl
length_tabulated f (suc n) = ap suc (length_tabulated (λ i. f (suc i)) n)

-- each as f gives it
getD_tabulated : (f : ℕ → Entry) (n i : ℕ) (d : Entry) → i < n → get_or (tabulated f n) i d ≡ f i
unfolding tabulated
getD_tabulated f zero i d h = absurd (omega arith)
getD_tabulated f (suc n) zero d h = refl
getD_tabulated f (suc n) (suc i) d h = getD_tabulated (λ i. f (suc i)) n i d (omega arith)

-- counts in range are the counts of some entries
some_kept : {out : List ℕ} {o : Out} → Counted out o → (es : List Entry) × (length es ≡ o.entries) × Kept o.statements es out o
some_kept {out} {o} C =
    let f : ℕ → Entry = λ i. (word out (2 + i), word out (2 + room (length out) + i)) in
    let n : length (tabulated f o.entries) ≡ o.entries = length_tabulated f o.entries in
    let at : (i : ℕ) → i < length (tabulated f o.entries) → f i ≡ get_or (tabulated f o.entries) i (0, 0) =
    λ i l. sym (getD_tabulated f o.entries i (0, 0) (omega arith)) in
    let kept : Kept o.statements (tabulated f o.entries) out o = record {
      fits = λ h. record {
        statements = refl;
        entries = sym n;
        ops = λ i l. ap (λ (e : Entry). e.0) (at i l);
        args = λ i l. ap (λ (e : Entry). e.1) (at i l);
      };
      over = λ h. omega (arith, C.entries);
    } in
    (tabulated f o.entries, n, kept)

-- a put within the room counts its entries
pub puts_count : {n : ℕ} {a b : List ℕ} {o p : Out} {new : List Entry} → Counted a o → Puts n a o b p new
    → p.entries ≤ room (length b) → p.entries ≡ o.entries + length new
puts_count {n} {a} {b} {o} {p} {new} C P h =
    let W = some_kept C in
    let K : Kept (o.statements + n) (W.0 ++ new) b p = P.kept o.statements W.0 W.2 in
    elim (dec_le (length (W.0 ++ new)) (room (length b))) [
      | yes l ↦ omega (arith, (K.fits l).entries, length-append W.0 new, W.1)
      | no l ↦ absurd (omega (arith, K.over (omega arith)))
    ]

-- entries that are put are behind no fewer: within the room they were within it before
pub puts_room : {n : ℕ} {a b : List ℕ} {o p : Out} {new : List Entry} → Puts n a o b p new → (es : List Entry)
    → length (es ++ new) ≤ room (length b) → length es ≤ room (length a)
puts_room {a = a} {b} {new = new} P es h =
    let s : room (length b) ≡ room (length a) = ap room P.same in
    omega (arith, s, length-append es new)
