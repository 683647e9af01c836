-- What the join of trees in preorder arrays leaves: where both are read up to, what is written, and the flag.
use Rattle.std.specs.Prelude.{◌≡◌, Bool, Option, Some, None, List, ℕ, ◌+◌, ◌≤◌, ◌<◌, length, set}
use Rattle.model.specs.Tree.{Tree, Forest, size, sizes, settle, settles, join, joins, meet, meets, flags, flagss}
use Rattle.records.specs.Here.{Coded, CodedAll, Written, WrittenAll}
use Rattle.join.specs.declared.ends.Marks.{Marks}
use Rattle.join.specs.declared.ends.Ends.{Ends}

-- the two arrays in which trees stand
pub record Arrays : Type 0 where
  pub forms : List ℕ
  pub whats : List ℕ

abbrev pub arrays : List ℕ → List ℕ → Arrays
arrays fs ws = record { forms = fs; whats = ws }

-- a node's form and variant are stored at k
abbrev pub stored : Arrays → ℕ → ℕ → ℕ → Arrays
stored a k f v = arrays (set a.forms k f) (set a.whats k v)

-- the two arrays that are written have 512 entries, and k of them are written
pub record Room (of ow : List ℕ) (k : ℕ) : Type 0 where
  pub forms : length of ≡ 512
  pub whats : length ow ≡ 512
  pub low : k ≤ 512

abbrev pub marks : ℕ → ℕ → ℕ → Marks
marks a b out = record { first = a; second = b; out = out }

-- read and written up to p, and c tells whether the first tree changed
abbrev pub ended : Marks → Bool → Ends
ended p c = record { to = p; changed = c }

-- both trees are read up to a and b, c tells whether the first changed, and W is written
pub record Done (W : ℕ → Type 0) (a b : ℕ) (c : Bool) (r : Ends) : Type 0 where
  pub first : r.to.first ≡ a
  pub second : r.to.second ≡ b
  pub changed : r.changed ≡ c
  pub written : W r.to.out

-- n is just past what is to be written: past 512 there is no room
abbrev pub Out : ℕ → (ℕ → Type 0) → ℕ → ℕ → Bool → Option Ends → Type 0
Out n W a b c None = 512 < n
Out n W a b c (Some e) = (n ≤ 512) × Done W a b c e

-- the arrays o have become o'
module _ (Γ : List ℕ) (o o' : Arrays) (k : ℕ) where
  -- a tree behind the first k words
  abbrev pub Wrote : Tree → ℕ → ℕ → Bool → Option Ends → Type 0
  Wrote y a b c r = Out (k + size y) (λ e. Written Γ o.forms o.whats o'.forms o'.whats k e y) a b c r

  -- trees behind the first k words
  abbrev pub WroteAll : Forest → ℕ → ℕ → Bool → Option Ends → Type 0
  WroteAll ys a b c r = Out (k + sizes ys) (λ e. WrittenAll Γ o.forms o.whats o'.forms o'.whats k e ys) a b c r

-- THE CONTRACTS: whichever trees stand there

-- what is left of the tree of type t at i of s, where it meets a folded one, is written to o from k on
pub record Settled (Γ : List ℕ) (o o' : Arrays) (k : ℕ) (s : Arrays) (i t : ℕ) (m : Bool) (r : Option Ends) : Type 0 where
  pub tree : (x : Tree) → Coded Γ s.forms s.whats i t x → Wrote Γ o o' k (settle Γ m x) (i + size x) 0 (meet Γ m x).0 r

-- of the trees of these types
pub record SettledAll (Γ : List ℕ) (o o' : Arrays) (k : ℕ) (s : Arrays) (i : ℕ) (ts : List ℕ) (m : Bool) (r : Option Ends) : Type 0 where
  pub trees : (xs : Forest) → CodedAll Γ s.forms s.whats i ts xs → WroteAll Γ o o' k (settles Γ m xs) (i + sizes xs) 0 (meets Γ m xs).0 r

-- the join of the trees of type t of s and of e, which stand where p says, is written to o from there on
pub record Met (Γ : List ℕ) (o o' s e : Arrays) (p : Marks) (t : ℕ) (m : Bool) (r : Option Ends) : Type 0 where
  pub tree : (x y : Tree) → Coded Γ s.forms s.whats p.first t x → Coded Γ e.forms e.whats p.second t y
      → Wrote Γ o o' p.out (join Γ m x y) (p.first + size x) (p.second + size y) (flags Γ m x y).0 r

-- of the trees of these types
pub record MetAll (Γ : List ℕ) (o o' s e : Arrays) (p : Marks) (ts : List ℕ) (m : Bool) (r : Option Ends) : Type 0 where
  pub trees : (xs ys : Forest) → CodedAll Γ s.forms s.whats p.first ts xs → CodedAll Γ e.forms e.whats p.second ts ys
      → WroteAll Γ o o' p.out (joins Γ m xs ys) (p.first + sizes xs) (p.second + sizes ys) (flagss Γ m xs ys).0 r
