-- Each number below n is the rank of one of n blocks.
use mathlib.Core.Path.{◌≡◌, sym, ◌∙◌}
use mathlib.Core.Logic.{◌≢◌}
use mathlib.Core.Bool.{cond}
use Prim.Native.Nat.{ℕ, zero, suc, ◌<◌}
use native.Mathlib.Decide.{ℕ_discrete}
use native.Mathlib.Omega.{arith}
use lib.Dec.{eqb}
use borrow.Author.Tests.{eq-eqb, ne_eqb}
use Rattle.queue.specs.Waiting.{Ranking}

-- as f, but f n in the place of n
past : (ℕ → ℕ) → ℕ → ℕ → ℕ
past f n b = cond (eqb (f b) n) (f n) (f b)

module _ (f : ℕ → ℕ) (n : ℕ) where
  past_there : (b : ℕ) → f b ≡ n → past f n b ≡ f n
  unfolding past
  past_there b e = rw (eq-eqb (f b) n e)

  past_else : (b : ℕ) → f b ≢ n → past f n b ≡ f b
  unfolding past
  past_else b d = rw (ne_eqb (f b) n d)

  module _ (S : Ranking f (suc n)) where
    -- where another meets n, f n is below it
    last_below : (b : ℕ) → b < n → f b ≡ n → f n < n
    last_below b l e =
        let no : f n ≢ n = λ d. let q = S.once b n (omega arith) (omega arith) (e ∙ sym d) in omega arith in
        omega (arith, S.below n (omega arith), no)

    -- it ranks the numbers below n
    past_ranking : Ranking (past f n) n
    past_ranking = record {
      few = omega (arith, S.few);
      below = λ b l. elim (ℕ_discrete (f b) n) [
        | yes e ↦ rw (past_there b e) (last_below b l e)
        | no d ↦ rw (past_else b d) (omega (arith, S.below b (omega arith)))
      ];
      once = λ b c l k q. elim (ℕ_discrete (f b) n) [
        | yes e ↦ elim (ℕ_discrete (f c) n) [
          | yes d ↦ S.once b c (omega arith) (omega arith) (e ∙ sym d)
          | no d ↦ absurd (omega (arith, S.once n c (omega arith) (omega arith) (sym (past_there b e) ∙ q ∙ past_else c d)))
        ]
        | no e ↦ elim (ℕ_discrete (f c) n) [
          | yes d ↦ absurd (omega (arith, S.once b n (omega arith) (omega arith) (sym (past_else b e) ∙ q ∙ past_there c d)))
          | no d ↦ S.once b c (omega arith) (omega arith) (sym (past_else b e) ∙ q ∙ past_else c d)
        ]
      ];
    }

    -- where it meets r below n, f does
    past_meets : (b : ℕ) {r : ℕ} → b < n → past f n b ≡ r → r < n → (c : ℕ) × (c < suc n) × (f c ≡ r)
    past_meets b l e k = elim (ℕ_discrete (f b) n) [
      | yes d ↦ (n, omega arith, sym (past_there b d) ∙ e)
      | no d ↦ (b, omega arith, sym (past_else b d) ∙ e)
    ]

    -- where it meets f n, f meets n
    past_last : (b : ℕ) → b < n → past f n b ≡ f n → f b ≡ n
    past_last b l e = elim (ℕ_discrete (f b) n) [
      | yes d ↦ d
      | no d ↦ absurd (omega (arith, S.once b n (omega arith) (omega arith) (sym (past_else b d) ∙ e)))
    ]

pub onto : (n : ℕ) (f : ℕ → ℕ) → Ranking f n → (r : ℕ) → r < n → (b : ℕ) × (b < n) × (f b ≡ r)
onto zero f S r l = absurd (omega arith)
onto (suc n) f S r l =
    let ih = onto n (past f n) (past_ranking f n S) in
    elim (ℕ_discrete r n) [
      | yes e ↦ elim (ℕ_discrete (f n) n) [
        | yes d ↦ (n, omega arith, d ∙ sym e)
        | no d ↦
            let (b, k, q) = ih (f n) (omega (arith, S.below n (omega arith))) in
            (b, omega arith, past_last f n S b k q ∙ sym e)
      ]
      | no d ↦
          let h : r < n = omega arith in
          let (b, k, q) = ih r h in
          past_meets f n S b k q h
    ]
