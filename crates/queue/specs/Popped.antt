-- What `insert` and `pop` do to the set of waiting blocks: by model's `put` and `lowest`.
use Rattle.std.specs.Prelude.{◌≡◌, Bool, true, false, List, ℕ, ◌<◌, Option}
use Rattle.std.proofs.Math.Option as Math
use Rattle.model.specs.Rounds.{lowest, put}
use Rattle.refusal.specs.Refusal.{found}
use Rattle.queue.specs.Waiting.{Ranking, Inverse, waiting}

-- INSERT

-- the block b of rank r waits too, whatever the ranks are
abbrev pub Inserts : List ℕ → ℕ → List ℕ → Type 0
Inserts bits r bits' = (rank : ℕ → ℕ) (n b : ℕ) → Ranking rank n → b < n → rank b ≡ r
    → waiting rank n bits' ≡ put (waiting rank n bits) b true

-- POP

-- the set without the block popped
abbrev pub without : (ℕ → Bool) → Math.Option ℕ → ℕ → Bool
without waits Math.none = waits
without waits (Math.some b) = put waits b false

-- the waiting block of lowest rank is popped, and waits no more
pub record Pops (rank : ℕ → ℕ) (n : ℕ) (waits waits' : ℕ → Bool) (r : Option ℕ) : Type 0 where
  pub answer : found r ≡ lowest rank waits n
  pub rest : waits' ≡ without waits (lowest rank waits n)

-- whatever the ranks are whose inverse is lent
abbrev pub Popping : List ℕ → ℕ → List ℕ → List ℕ → Option ℕ → Type 0
Popping blocks n bits bits' r = (rank : ℕ → ℕ) → Ranking rank n → Inverse rank n blocks
    → Pops rank n (waiting rank n bits) (waiting rank n bits') r
