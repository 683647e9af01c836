-- A state in a share of the store: 512 words of forms, and 512 of variants.
use Rattle.std.specs.Prelude.{◌≡◌, List, ℕ, ◌≤◌, length}
use Rattle.state.specs.Spliced.{fronted}
use Rattle.state.specs.declared.nodes.State.{State}

-- the two arrays are a share
abbrev pub Share : List ℕ → List ℕ → Type 0
Share fs ws = (length fs ≡ 512) × (length ws ≡ 512)

-- n words stand there, no more than a state has
abbrev pub Has : ℕ → List ℕ → Type 0
Has n a = (n ≤ 512) × (n ≤ length a)

-- of both
abbrev pub HoldsNodes : ℕ → List ℕ → List ℕ → Type 0
HoldsNodes n fs ws = (n ≤ 512) × (n ≤ length fs) × (n ≤ length ws)

-- s is the state of n nodes that they hold
abbrev pub Loads : List ℕ → List ℕ → ℕ → State → Type 0
Loads fs ws n s = (s.forms ≡ fronted fs n) × (s.whats ≡ fronted ws n) × (s.nodes ≡ n)

-- they hold the arrays of s
abbrev pub Saves : State → List ℕ → List ℕ → Type 0
Saves s fs ws = (fs ≡ s.forms) × (ws ≡ s.whats)
