-- A loop that tests p at 0, 1, .. below n and stops at the first that fails: its invariant is `all p i ≡ true`. Assumes nothing.
-- b is what the test's call gave at i.
use mathlib.Core.Path.{◌≡◌, refl, sym, ◌∙◌}
use mathlib.Core.Bool.{Bool, true, false, not}
use Prim.Native.Nat.{ℕ, ◌+◌, ◌≤◌, ◌<◌}
use native.Mathlib.Numerals.{add-one}
use borrow.Author.Tests.{not-true}
use Rattle.model.specs.Words.{all}
use Rattle.base.specs.Below.{all_suc, all_fails, all_fewer}

module _ (p : ℕ → Bool) where
  -- where the loop begins
  pub all_none : all p 0 ≡ true
  unfolding all
  all_none = refl

  -- a turn whose test passes
  pub all_next : (i : ℕ) → all p i ≡ true → p i ≡ true → all p (i + 1) ≡ true
  all_next i e h = rw add-one (all_suc p i e ∙ h)

  -- a turn whose test fails
  pub all_stop : (n i : ℕ) {b : Bool} → i < n → b ≡ p i → not b ≡ true → false ≡ all p n
  all_stop n i {b} l h f = sym (all_fails p n i l (sym h ∙ not-true b f))

  -- behind the loop
  pub all_done : (n i : ℕ) → n ≤ i → all p i ≡ true → true ≡ all p n
  all_done n i l e = sym (all_fewer p n i l e)

-- the turns that tactics take alone
pub ruleset turns = (all_none, all_next)
