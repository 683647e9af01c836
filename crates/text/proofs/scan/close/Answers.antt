-- `text::scan::close` meets its contract. Assumes nothing.
use borrow.Author.Tests.{lt-ltb, le-ltb}
use mathlib.Core.Path.{◌≡◌, refl, ap, ◌∙◌}
use mathlib.Core.Bool.{true, false}
use mathlib.Core.List.{List, [], ◌∷◌, ◌++◌}
use Prim.Native.Nat.{ℕ, suc, ◌+◌, ◌≤◌, ◌<◌}
use native.Mathlib.Numerals.{add-one}
use native.Mathlib.Omega.{arith}
use lib.ListN.{length, set, length-set}
use lib.Seq.{take-suc-set}
use Rattle.std.specs.Prelude.{Option, None, Some}
use Rattle.model.specs.Ghosts as Model
use Rattle.model.specs.Ghosts.{close, backwards}
use Rattle.text.specs.declared.scan.Scan.{Scan}
use Rattle.text.specs.Reading.{Held, Well, Steps}
use Rattle.text.proofs.Stepped.{stays, spoils, stays_spoilt, steps_as}
use Rattle.text.proofs.scan.close.Goals as goal

-- m, with the word that was being read
abbrev ended : Model.Scan → Model.Scan
ended m = record { words = m.value ∷ m.words; total = suc m.total; inside = false; value = 0; fine = m.fine }

module _ (m : Model.Scan) where
  -- between words
  close_outside : m.inside ≡ false → close m ≡ m
  unfolding close
  close_outside e = rw (e, close)

  -- past the last word that there is room for
  close_full : m.inside ≡ true → 4096 ≤ m.total → close m ≡ Model.spoilt
  unfolding close
  close_full e h = rw (e, le-ltb m.total 4096 h, close)

  -- in a word
  close_word : m.inside ≡ true → m.total < 4096 → close m ≡ ended m
  unfolding close
  close_word e h = rw (e, lt-ltb m.total 4096 h, close)

-- a list turned round, before another
backwards_append : (l a b : List ℕ) → backwards l a ++ b ≡ backwards l (a ++ b)
backwards_append [] a b = refl
backwards_append (x ∷ l) a b = backwards_append l (x ∷ a) b

close_spoilt : close Model.spoilt ≡ Model.spoilt
unfolding close
close_spoilt = refl

-- the word that is being read is kept
keeps : (m : Model.Scan) (s : Scan) (v : ℕ) (words : List ℕ) → length words ≡ 4096 → Well m s words → Held m (Some v) → s.total < 4096
    → Well (ended m) (record { total = s.total + 1; value = None }) (set words s.total v)
keeps m s v words n h k l =
    record {
      total = add-one s.total ∙ ap suc h.total;
      value = (refl, refl);
      fine = h.fine;
      front = rw (← h.total, take-suc-set words s.total v (omega (arith, n)), h.total, h.front, k.1)
          (backwards_append m.words [] (v ∷ []));
    }

module _ (o : Option Scan) (words : List ℕ) (n : length words ≡ 4096) where
  -- all is spoilt already
  spoilt_before : o ≡ None → Steps close o words None words
  spoilt_before e = rw e (stays_spoilt words n close_spoilt)

  module _ (s : Scan) (e : o ≡ Some s) where
    outside : s.value ≡ None → Steps close o words (Some s) words
    outside d = rw e (steps_as (λ m h. close_outside m (rw d at h.at.value).0) (stays words n))

    module _ (v : ℕ) (d : s.value ≡ Some v) where
      full : 4096 ≤ s.total → Steps close o words None words
      full l = rw e (steps_as (λ m h. close_full m (rw d at h.at.value).0 (omega (arith, h.at.total))) (spoils words n))

      word_ends : s.total < 4096 → Steps close o words (Some (record { total = s.total + 1; value = None })) (set words s.total v)
      word_ends l =
          rw e (record {
            room = length-set words s.total v ∙ n;
            reads = λ m h.
                let k : Held m (Some v) = rw d at h.at.value in
                rw (close_word m k.0 (omega (arith, h.at.total))) (record { room = length-set words s.total v ∙ n; at = keeps m s v words n h.at k l });
          })

pub returns-in_err-s : goal.returns-in_err-s
returns-in_err-s c = rw c.from_residual.ensures (spoilt_before _ _ c.requires c.in_err-s.was)

pub returns-in_default : goal.returns-in_default
returns-in_default c = outside _ _ c.requires _ c.in_ok-s.was c.in_default.is

pub returns-then-s-ge-MOST_WORDS : goal.returns-then-s-ge-MOST_WORDS
returns-then-s-ge-MOST_WORDS c = full _ _ c.requires _ c.in_ok-s.was _ c.in-Some.is c.if-s-ge-MOST_WORDS.true

pub returns : goal.returns
returns c = word_ends _ _ c.requires _ c.in_ok-s.was _ c.in-Some.is c.if-s-ge-MOST_WORDS.false
