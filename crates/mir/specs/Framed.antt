-- A function record among other words: where it ends by its sizes as written.
use Rattle.std.specs.Prelude.{◌≡◌, List, ℕ, ◌-◌, ◌≤◌, ◌<◌, ◌^◌, length, take, drop}
use Rattle.model.specs.Words.{word}
use Rattle.model.specs.Crate.{first_record, behind}

-- r is word i, or 0 past the end, as a number of 32 bits
abbrev pub WordAt : List ℕ → ℕ → ℕ → Type 0
WordAt ws i r = (r ≡ word ws i) × (r < 2 ^ 32)

-- the record that begins at word `at` ends at r, or the words do
pub record Framed (ws : List ℕ) (at r : ℕ) : Type 0 where
  pub begins : at ≤ r
  pub within : r ≤ length ws
  pub first : take (r - at) (drop at ws) ≡ first_record (drop at ws)
  pub rest : drop r ws ≡ behind (drop at ws)
