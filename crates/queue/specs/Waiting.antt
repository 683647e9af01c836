-- The blocks' ranks, and which blocks wait, by the bits of their ranks.
use Rattle.std.specs.Prelude.{◌≡◌, Bool, ◌&&◌, List, ℕ, ◌≤◌, ◌<◌, ltb, length}
use Rattle.model.specs.Words.{word}
use Rattle.queue.specs.Bits.{has}

-- "Ranks are 0 to B − 1, each once" (document 01, refusal 2), of n blocks, at most 256
pub record Ranking (rank : ℕ → ℕ) (n : ℕ) : Type 0 where
  pub few : n ≤ 256
  pub below : (b : ℕ) → b < n → rank b < n
  pub once : (b c : ℕ) → b < n → c < n → rank b ≡ rank c → b ≡ c

-- the inverse of the ranks: the block of each
pub record Inverse (rank : ℕ → ℕ) (n : ℕ) (blocks : List ℕ) : Type 0 where
  pub long : n ≤ length blocks
  pub block : (b : ℕ) → b < n → word blocks (rank b) ≡ b

-- the set of waiting blocks, of n: those whose rank has its bit set
unfoldable pub waiting : (ℕ → ℕ) → ℕ → List ℕ → ℕ → Bool
waiting rank n bits b = ltb b n && has bits (rank b)
