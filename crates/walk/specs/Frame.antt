-- A tree, or a state, with the place of one node left open: `plug` puts a tree there; before and behind are the codes of the
-- other nodes.
use Rattle.std.specs.Prelude.{◌≡◌, List, ◌++◌, ℕ}
use Rattle.model.specs.Tree.{Tree}
use Rattle.model.specs.State.{Code, codes}

pub record Frame (Γ : List ℕ) {A : Type 0} (code : A → List Code) : Type 0 where
  pub plug : Tree → A
  pub before : List Code
  pub behind : List Code
  pub coded : (z : Tree) → code (plug z) ≡ before ++ (codes Γ z ++ behind)
