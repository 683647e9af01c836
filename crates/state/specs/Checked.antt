-- What the check of a state record answers.
use Rattle.std.specs.Prelude.{◌≡◌, Bool, true, false, List, ℕ, ◌≤◌, length, Option, MatchOption}
use Rattle.model.specs.State.{levels}
use Rattle.records.specs.Absent.{Absent, AbsentAll}
use Rattle.state.specs.Found.{Found, FoundAll}

-- i of n words have been looked at, and both arrays have them all
abbrev pub ComeTo : ℕ → ℕ → List ℕ → List ℕ → Type 0
ComeTo i n fs ws = (i ≤ n) × (n ≤ length fs) × (n ≤ length ws)

module _ (Γ fs ws : List ℕ) (n : ℕ) where
  -- r: where the tree of type t at i ends, of n words in all and open at d levels at the most, or none if it is not there
  abbrev pub Checked : ℕ → ℕ → ℕ → Option ℕ → Type 0
  Checked d i t r = MatchOption r (Absent Γ fs ws n d i t) (λ e. Found Γ fs ws n d i t e)

  -- trees of these types
  abbrev pub CheckedAll : ℕ → ℕ → List ℕ → Option ℕ → Type 0
  CheckedAll d i ts r = MatchOption r (AbsentAll Γ fs ws n d i ts) (λ e. FoundAll Γ fs ws n d i ts e)

  -- the trees of all locals, which end with the n words
  abbrev pub CheckedLocals : List ℕ → Bool → Type 0
  CheckedLocals locals r = (r ≡ true → FoundAll Γ fs ws n levels 0 locals n) × (r ≡ false → FoundAll Γ fs ws n levels 0 locals n → ⊥)
