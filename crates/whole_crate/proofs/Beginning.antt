-- What the tests before the first function say to the call that model defines: it goes on, or is refused.
use mathlib.Core.Path.{◌≡◌, refl, sym, ap, ◌∙◌}
use mathlib.Core.Bool.{true, false, ◌&&◌}
use mathlib.Core.List.{List}
use Prim.Native.Nat.{ℕ, ◌-◌, ◌≤◌, ◌<◌}
use native.Mathlib.Omega.{arith}
use Rattle.std.specs.Prelude.{Ok, Err}
use lib.ListN.{length, drop, length-drop}
use lib.Dec.{eqb, leb}
use borrow.Author.Tests.{eq-eqb, ne_eqb, le-leb, lt-leb}
use Rattle.model.specs.Words.{word}
use Rattle.model.specs.Types.{types_ok}
use Rattle.model.specs.Crate.{spare, stopped_at, crate_statements}
use Rattle.base.specs.Tests.{clash, split}
use Rattle.refusal.specs.Refusal.{number}
use Rattle.refusal.specs.declared.Refusal.{Refusal}
use Rattle.refusal.specs.declared.Refusal.TheVariants.{BadTypes, BadFunction}
use Rattle.type_record.specs.Sizes.{Offsets}
use Rattle.whole_crate.specs.Called.{Ended, Begun}

-- the count passes
counts : (words : List ℕ) → 1 ≤ length words → word words 0 ≤ 64 → leb 1 (length words) && leb (word words 0) 64 ≡ true
counts words h f = cc (le-leb 1 (length words) h, le-leb (word words 0) 64 f)

-- how many words there are after the last record
left : (words : List ℕ) {r : ℕ} → Ended words (word words 0) r → length (spare (word words 0) (drop 1 words)) ≡ length words - r
left words {r} E = ap (λ (l : List ℕ). length l) (sym E.rest) ∙ length-drop r words

module _ {Γ words offs : List ℕ} where
  -- one of them refuses
  denied_by : {k : Refusal} → ((nforms nwhats nout : ℕ) → crate_statements Γ nforms nwhats nout words ≡ stopped_at Γ nforms nwhats nout (number k) 0)
      → Begun Γ words offs (Err k)
  denied_by {k} g = record {
    denied = λ e q. let z : k ≡ e = cc in rw z at g;
    passed = λ z. clash (cc);
    ready = λ z. clash (cc);
    counted = λ z. clash (cc);
  }

  -- there is no count, or it is above 64
  uncounted : leb 1 (length words) && leb (word words 0) 64 ≡ false → Begun Γ words offs (Err BadFunction)
  unfolding crate_statements
  uncounted e = denied_by (λ m w o. rw e refl)

  pub no_words : length words ≡ 0 → Begun Γ words offs (Err BadFunction)
  no_words z = uncounted (cc (lt-leb 1 (length words) (omega arith)))

  pub too_many : 64 < word words 0 → Begun Γ words offs (Err BadFunction)
  too_many l = uncounted (split (leb 1 (length words)) (λ e. cc (lt-leb (word words 0) 64 l)) (λ e. cc))

  module _ (h : 1 ≤ length words) (f : word words 0 ≤ 64) where
    -- the types are refused
    pub bad_types : types_ok Γ ≡ false → Begun Γ words offs (Err BadTypes)
    unfolding crate_statements
    bad_types e = denied_by (λ m w o. rw (counts words h f, e) refl)

    module _ (t : types_ok Γ ≡ true) {r : ℕ} (E : Ended words (word words 0) r) where
      pub words_after : r < length words → Begun Γ words offs (Err BadFunction)
      unfolding crate_statements
      words_after l =
          let s : eqb (length (spare (word words 0) (drop 1 words))) 0 ≡ false = ne_eqb (length (spare (word words 0) (drop 1 words))) 0 (λ e. absurd (omega (arith, left words E, e))) in
          denied_by (λ m w o. rw (counts words h f, t, s) refl)

      pub all_pass : length words ≤ r → Offsets Γ offs → Begun Γ words offs (Ok tt)
      unfolding crate_statements
      all_pass l O =
          let s : eqb (length (spare (word words 0) (drop 1 words))) 0 ≡ true = eq-eqb (length (spare (word words 0) (drop 1 words))) 0 (omega (arith, left words E)) in
          record {
            denied = λ e q. clash (cc);
            passed = λ z m w o. rw (counts words h f, t, s) refl;
            ready = λ z. record { typed = t; offsets = O };
            counted = λ z. (h, f);
          }
