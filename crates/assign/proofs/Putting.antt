-- Items put in a row.
use mathlib.Core.Path.{◌≡◌, refl, sym, ap, ◌∙◌, subst}
use mathlib.Core.Bool.{Bool, true}
use mathlib.Core.List.{List, [], ◌∷◌, ◌++◌}
use Prim.Native.Nat.{ℕ, ◌+◌, ◌≤◌}
use native.Mathlib.Omega.{arith}
use lib.ListN.{length, set, length-set, length-append}
use Rattle.std.specs.Prelude.{Option, Some, None}
use Rattle.model.specs.Record.{Entry}
use Rattle.assign.specs.Puts.{moved, putting, puttings, Room, Puts, ending}
use Rattle.assign.specs.declared.give.Pen.{Pen}

-- a put word or two
length_putting : (total : Option ℕ) (at : ℕ) (e : Entry) (out : List ℕ) → length (putting total at e out) ≡ length out
unfolding putting
length_putting (Some t) at e out = length-set (set out (1 + at) e.0) (1 + t + at) e.1 ∙ length-set out (1 + at) e.0
length_putting None at e out = refl

module _ (total : Option ℕ) where
  puttings_append : (es fs : List Entry) (at : ℕ) (out : List ℕ) → puttings total at (es ++ fs) out ≡ puttings total (at + length es) fs (puttings total at es out)
  unfolding puttings
  puttings_append [] fs at out = let z : at + 0 ≡ at = omega arith in rw z refl
  puttings_append (e ∷ es) fs at out =
      let z : at + 1 + length es ≡ at + length (e ∷ es) = omega arith in
      rw (← z) (puttings_append es fs (at + 1) (putting total at e out))

  length_puttings : (es : List Entry) (at : ℕ) (out : List ℕ) → length (puttings total at es out) ≡ length out
  unfolding puttings
  length_puttings [] at out = refl
  length_puttings (e ∷ es) at out = length_puttings es (at + 1) (putting total at e out) ∙ length_putting total at e out

module _ {out : List ℕ} {p : Pen} where
  -- nothing is put
  pub puts_none : (from : ℕ) → Puts out p out (moved p from p.at) from []
  unfolding puttings
  puts_none from = let z : p.at + 0 ≡ p.at = omega arith in record { written = refl; pen = rw z refl }

  pub puts_begun : Puts out p out p p.from []
  puts_begun = puts_none p.from

  -- one item, counted or written
  pub puts_counted : (e : Entry) {q : Pen} → q ≡ moved p p.from (p.at + 1) → p.total ≡ None → Puts out p out q p.from (e ∷ [])
  unfolding puttings putting
  puts_counted e d f = record { written = rw f refl; pen = d }

  pub puts_written : (o a : ℕ) {q : Pen} {t : ℕ} → q ≡ moved p p.from (p.at + 1) → p.total ≡ Some t
      → Puts out p (set (set out (1 + p.at) o) (1 + t + p.at) a) q p.from ((o, a) ∷ [])
  unfolding puttings putting
  puts_written o a d t = record { written = rw t refl; pen = d }

  -- es, then fs
  pub puts_then : {out₁ out₂ : List ℕ} {q r : Pen} {f g : ℕ} {es fs : List Entry} → Puts out p out₁ q f es → Puts out₁ q out₂ r g fs → Puts out p out₂ r g (es ++ fs)
  puts_then {out₁} {out₂} {q} {r} {f} {g} {es} {fs} P Q =
      let t : q.total ≡ p.total = ap (λ (x : Pen). x.total) P.pen in
      let a : q.at ≡ p.at + length es = ap (λ (x : Pen). x.at) P.pen in
      let z : p.at + length es + length fs ≡ p.at + length (es ++ fs) = omega (arith, length-append es fs) in
      let u : moved q g (q.at + length fs) ≡ moved p g (p.at + length (es ++ fs)) = rw (t, a, z) refl in
      record {
        written = Q.written ∙ rw (t, a, P.written) (sym (puttings_append p.total es fs p.at out));
        pen = Q.pen ∙ u;
      }

  -- the same where nothing is read between
  pub puts_more : {out₁ out₂ : List ℕ} {q r : Pen} {es fs : List Entry} → Puts out p out₁ q p.from es → Puts out₁ q out₂ r q.from fs → Puts out p out₂ r p.from (es ++ fs)
  puts_more {out₁} {out₂} {q} {r} {es} {fs} P Q =
      let z : q.from ≡ p.from = ap (λ (x : Pen). x.from) P.pen in
      puts_then P (subst (λ (f : ℕ). Puts out₁ q out₂ r f fs) z Q)

  -- the buffer stays as long
  pub puts_length : {out₁ : List ℕ} {q : Pen} {f : ℕ} {es : List Entry} → Puts out p out₁ q f es → length out₁ ≡ length out
  puts_length {out₁} {q} {f} {es} P = ap (λ (x : List ℕ). length x) P.written ∙ length_puttings p.total es p.at out

  -- where reading goes on
  pub pen_from : {out₁ : List ℕ} {q : Pen} {f : ℕ} {es : List Entry} → Puts out p out₁ q f es → q.from ≡ f
  pen_from P = ap (λ (x : Pen). x.from) P.pen

  -- room for less
  pub room_less : {n : ℕ} (m : ℕ) → Room out p n → m ≤ n → Room out p m
  room_less m R l = record {
    few = omega (arith, R.few);
    fits = λ t e. omega (arith, R.fits t e);
    long = R.long;
  }

  -- and behind what is put
  pub room_then : {out₁ : List ℕ} {q : Pen} {f : ℕ} {es : List Entry} {n : ℕ} (m : ℕ) → Puts out p out₁ q f es → Room out p n → length es + m ≤ n → Room out₁ q m
  room_then {out₁} {q} {f} {es} {n} m P R l =
      let t : q.total ≡ p.total = ap (λ (x : Pen). x.total) P.pen in
      let a : q.at ≡ p.at + length es = ap (λ (x : Pen). x.at) P.pen in
      let k = puts_length P in
      record {
        few = omega (arith, R.few, a);
        fits = λ n e. omega (arith, R.fits n (sym t ∙ e), a);
        long = λ n e. omega (arith, R.long n (sym t ∙ e), k);
      }

-- what is done with a place
pub ending_deref : {out out₁ out₂ : List ℕ} {p q r : Pen} {d : Bool} {a : ℕ} → d ≡ true → Puts out p out₁ q p.from ((1, 0) ∷ []) → Puts out₁ q out₂ r q.from ((a, 0) ∷ [])
    → Puts out p out₂ r p.from (ending d a)
ending_deref e P Q = rw e (puts_more P Q)
