-- What contracts say of trees in the two arrays of a state: that a tree's codes stand from i on (`Coded`), that some tree stands
-- there (`Here`), that codes have been written behind the first k words (`Written`), that a state has its shape (`Shaped`).
use Rattle.std.specs.Prelude.{◌≡◌, true, List, ◌++◌, map, ℕ, ◌+◌, ◌≤◌, length, take, drop}
use Rattle.model.specs.Tree.{Tree, Forest, size, sizes}
use Rattle.model.specs.Typing.{Fit, Fits, depths}
use Rattle.model.specs.State.{State, Code, most, levels, codes, codess, zeros}

-- the forms of codes
abbrev pub firsts : List Code → List ℕ
firsts cs = map (λ c. c.0) cs

-- their whats
abbrev pub seconds : List Code → List ℕ
seconds cs = map (λ c. c.1) cs

-- the tree x fits the type t, and its codes are the words from i on
pub record Coded (Γ fs ws : List ℕ) (i t : ℕ) (x : Tree) : Type 0 where
  pub fits : Fit Γ t x
  pub formed : take (size x) (drop i fs) ≡ firsts (codes Γ x)
  pub said : take (size x) (drop i ws) ≡ seconds (codes Γ x)

-- trees of these types, one behind the other
pub record CodedAll (Γ fs ws : List ℕ) (i : ℕ) (ts : List ℕ) (xs : Forest) : Type 0 where
  pub fits : Fits Γ ts xs
  pub formed : take (sizes xs) (drop i fs) ≡ firsts (codess Γ xs)
  pub said : take (sizes xs) (drop i ws) ≡ seconds (codess Γ xs)

-- some tree is there
pub record Here (Γ fs ws : List ℕ) (i t : ℕ) : Type 0 where
  pub tree : Tree
  pub coded : Coded Γ fs ws i t tree

-- some trees are there
pub record Heres (Γ fs ws : List ℕ) (i : ℕ) (ts : List ℕ) : Type 0 where
  pub trees : Forest
  pub coded : CodedAll Γ fs ws i ts trees

-- behind the first k words of fs and ws, which are kept, stand the codes of y, up to k'
pub record Written (Γ fs ws fs' ws' : List ℕ) (k k' : ℕ) (y : Tree) : Type 0 where
  pub end : k' ≡ k + size y
  pub formed : take k' fs' ≡ take k fs ++ firsts (codes Γ y)
  pub said : take k' ws' ≡ take k ws ++ seconds (codes Γ y)

-- behind the first k words stand the codes of ys, up to k'
pub record WrittenAll (Γ fs ws fs' ws' : List ℕ) (k k' : ℕ) (ys : Forest) : Type 0 where
  pub end : k' ≡ k + sizes ys
  pub formed : take k' fs' ≡ take k fs ++ firsts (codess Γ ys)
  pub said : take k' ws' ≡ take k ws ++ seconds (codess Γ ys)

-- both arrays of a state have 512 entries, zero past the node count
pub record Shaped (s : State) : Type 0 where
  pub few : s.nodes ≤ most
  pub forms_long : length s.forms ≡ most
  pub whats_long : length s.whats ≡ most
  pub forms_zero : zeros (drop s.nodes s.forms) ≡ true
  pub whats_zero : zeros (drop s.nodes s.whats) ≡ true

-- the state record s holds the state E
pub record Holds (Γ locals : List ℕ) (s : State) (E : Forest) : Type 0 where
  pub shape : Shaped s
  pub trees : CodedAll Γ s.forms s.whats 0 locals E
  pub count : s.nodes ≡ sizes E
  pub deep : depths E ≤ levels
