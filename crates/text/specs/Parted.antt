-- Where the function record begins in the words of both records.
use Rattle.std.specs.Prelude.{◌≡◌, List, ℕ, ◌≤◌, length, take, drop}
use Rattle.model.specs.Types.{types_length}
use Rattle.model.specs.Ghosts.{function_words}

-- r parts the words as model does
pub record Parted (ws : List ℕ) (r : ℕ) : Type 0 where
  pub within : r ≤ length ws
  pub types : take r ws ≡ take (types_length ws) ws
  pub function : drop r ws ≡ function_words ws
