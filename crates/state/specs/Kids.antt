-- The children of an open node.
use Rattle.std.specs.Prelude.{◌≡◌, List, ◌∷◌, ℕ, ◌+◌, ◌-◌, ◌≤◌, ◌<◌}
use Rattle.model.specs.Types.{ntypes, parts, kids}
use Rattle.state.specs.Found.{Fields}
use Rattle.state.specs.declared.kids.Kids.{Kids}

-- the types of these children
abbrev pub kid_types : List ℕ → Kids → List ℕ
kid_types Γ ks = parts Γ ks.owner ks.first ks.count

-- the children are parts that are there, and are types
abbrev pub KidsIn : List ℕ → Kids → Type 0
KidsIn Γ ks = Fields Γ ks.owner ks.first ks.count

-- the children of a node of type t that is open at variant v, as parts
pub record KidsOf (Γ : List ℕ) (t v : ℕ) (r : Kids) : Type 0 where
  pub fields : KidsIn Γ r
  pub all : kid_types Γ r ≡ kids Γ t v

-- a child is left, of at most 16384 parts
pub record SomeKids (ks : Kids) : Type 0 where
  pub some : 0 < ks.count
  pub few : ks.first + ks.count ≤ 16384

-- the children behind the first
abbrev pub rest_kids : Kids → Kids
rest_kids ks = record { owner = ks.owner; first = ks.first + 1; count = ks.count - 1 }

-- t is the type of the first child, and the others are there too
pub record FirstKid (Γ : List ℕ) (ks : Kids) (t : ℕ) : Type 0 where
  pub known : t < ntypes Γ
  pub all : kid_types Γ ks ≡ t ∷ kid_types Γ (rest_kids ks)
  pub left : SomeKids ks
  pub rest : KidsIn Γ (rest_kids ks)
