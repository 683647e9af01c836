-- What the check of a state record finds, and the fields of a node as parts of a type record.
use Rattle.std.specs.Prelude.{◌≡◌, List, ℕ, ◌+◌, ◌≤◌, ◌<◌, get_or}
use Rattle.model.specs.Types.{ntypes, count, part}
use Rattle.model.specs.Tree.{Tree, Forest, size, sizes}
use Rattle.model.specs.Typing.{depth, depths}
use Rattle.model.specs.Collect.{firsts}
use Rattle.records.specs.Here.{Coded, CodedAll}

-- the n parts of u from part j on are there, and are types
pub record Fields (Γ : List ℕ) (u j n : ℕ) : Type 0 where
  pub known : u < ntypes Γ
  pub inside : j + n ≤ count Γ u
  pub types : (k : ℕ) → k < n → part Γ u (j + k) < ntypes Γ

-- a tree of type t from i up to e, of n words in all, open at d levels at the most
pub record Found (Γ fs ws : List ℕ) (n d i t e : ℕ) : Type 0 where
  pub tree : Tree
  pub coded : Coded Γ fs ws i t tree
  pub end : e ≡ i + size tree
  pub deep : depth tree ≤ d
  pub within : e ≤ n

-- trees of these types
pub record FoundAll (Γ fs ws : List ℕ) (n d i : ℕ) (ts : List ℕ) (e : ℕ) : Type 0 where
  pub trees : Forest
  pub coded : CodedAll Γ fs ws i ts trees
  pub end : e ≡ i + sizes trees
  pub deep : depths trees ≤ d
  pub within : e ≤ n

module _ (Γ fs ws : List ℕ) where
  -- a tree of type t that stands at i ends at e
  abbrev pub Ends : ℕ → ℕ → ℕ → Type 0
  Ends i t e = (x : Tree) → Coded Γ fs ws i t x → e ≡ i + size x

  -- trees of these types
  abbrev pub EndsAll : ℕ → List ℕ → ℕ → Type 0
  EndsAll i ts e = (xs : Forest) → CodedAll Γ fs ws i ts xs → e ≡ i + sizes xs

  -- where the trees of all locals stand, that of local l begins at i
  abbrev pub LocalAt : List ℕ → ℕ → ℕ → Type 0
  LocalAt locals l i = (E : Forest) → CodedAll Γ fs ws 0 locals E → i ≡ sizes (firsts l E)

-- the node at i is open
abbrev pub OpenAt : List ℕ → ℕ → Type 0
OpenAt fs i = get_or fs i 0 ≡ 0 → ⊥
