-- What the collectors over preorder arrays leave: where the trees are read up to, and what is recorded of them.
use Rattle.std.specs.Prelude.{◌≡◌, ◌↔◌, Bool, IsTrue, Result, Ok, Err, List, ℕ, ◌+◌, ◌-◌, ◌*◌, ◌≤◌, ◌<◌, length, get_or}
use Rattle.model.specs.Types.{parts}
use Rattle.model.specs.Answer.{Answer, refused, done}
use Rattle.model.specs.Tree.{Tree, Forest, size, sizes}
use Rattle.model.specs.Typing.{depth, depths}
use Rattle.model.specs.Collect.{unfolds, unfoldss, collect, collects, folds, foldss}
use Rattle.model.specs.Record.{Entry}
use Rattle.records.specs.Here.{Coded, CodedAll}
use Rattle.refusal.specs.declared.Refusal.{Refusal}
use Rattle.refusal.specs.Refusal.{number}
use Rattle.state.specs.Found.{Fields}
use Rattle.state.specs.declared.kids.Kids.{Kids}
use Rattle.statements.specs.declared.Out.{Out}
use Rattle.statements.specs.Kept.{Puts, point_of}
use Rattle.collectors.specs.declared.got.Got.{Got}
use Rattle.collectors.specs.declared.got.Children.{Children}
use Rattle.collectors.specs.Trail.{trail, lines, lines_of, way}

-- r tells whether the n words from i on are zeros
abbrev pub Zeros : List ℕ → ℕ → ℕ → Bool → Type 0
Zeros fs i n r = IsTrue r ↔ ((k : ℕ) → k < n → get_or fs (i + k) 0 ≡ 0)

-- the trees are read up to i and j, and o is what is recorded
abbrev pub read_to : ℕ → ℕ → Out → Got
read_to i j o = record { first = i; second = j; out = o }

-- the types of children
abbrev pub types_of : List ℕ → Kids → List ℕ
types_of Γ k = parts Γ k.owner k.first k.count

-- the items to the next of the children, and to those behind it
abbrev pub ways : List ℕ → List ℕ → Children → ℕ → List Entry
ways ops args k = way (trail ops args k.depth) k.way

-- the children behind the next, which ends at i and j
abbrev pub left : Children → ℕ → ℕ → Children
left k i j = record {
  first = i;
  second = j;
  kids = record { owner = k.kids.owner; first = k.kids.first + 1; count = k.kids.count - 1 };
  way = record { full = k.way.full; kind = k.way.kind; variant = k.way.variant; child = k.way.child + 1 };
  depth = k.depth;
}

-- there is a next one, and its numbers are small
pub record Room (k : Children) : Type 0 where
  pub some : 0 < k.kids.count
  pub part : k.kids.first < 16384
  pub child : k.way.child < 16384

-- a tree stands at i, and a path of n items has room for the ways in it
pub record Stands (Γ fs ws : List ℕ) (i t n : ℕ) : Type 0 where
  pub tree : Tree
  pub coded : Coded Γ fs ws i t tree
  pub room : n + 2 * depth tree ≤ 129

-- trees of these types stand there, and paths of n items have room
pub record StandAll (Γ fs ws : List ℕ) (i : ℕ) (ts : List ℕ) (n : ℕ) : Type 0 where
  pub trees : Forest
  pub coded : CodedAll Γ fs ws i ts trees
  pub room : n + 2 * depths trees ≤ 129

-- the children that are left are parts of a type, and words hold their numbers and their variant
pub record Siblings (Γ : List ℕ) (k : Children) : Type 0 where
  pub fields : Fields Γ k.kids.owner k.kids.first k.kids.count
  pub child : k.way.child + k.kids.count ≤ 16384
  pub variant : k.way.variant < 65536

module _ (out : List ℕ) (o : Out) (out' : List ℕ) where
  -- the trees are read up to i and j, and k statements, of these entries, are recorded; the point stays
  pub record Ended (g : Got) (i j k : ℕ) (es : List Entry) : Type 0 where
    pub first : g.first ≡ i
    pub second : g.second ≡ j
    pub puts : Puts k out o out' g.out es
    pub point : g.out.point ≡ o.point

  -- a result tells a collector's answer: its statements are recorded, of the entries that es gives, or it is refused with the same number
  pub data Tells {A : Type 0} (es : List A → List Entry) (i j : ℕ) : Result Got Refusal → Answer (List A) → Type 0 where
    tells_refused : {e : Refusal} → Tells es i j (Err e) (refused (number e))
    tells_done : {g : Got} {cs : List A} → Ended g i j (length cs) (es cs) → Tells es i j (Ok g) (done cs)

-- THE CONTRACTS, at the point of o: of the tree that q leads to, or of trees that q leads to by their numbers, whichever stand there

module _ (Γ : List ℕ) (out : List ℕ) (o : Out) (out' : List ℕ) (r : Result Got Refusal) where
  -- what opens it is told
  pub record Opening (q : List Entry) (fs ws : List ℕ) (i t : ℕ) : Type 0 where
    pub tree : (x : Tree) → Coded Γ fs ws i t x → Tells out o out' (lines (point_of o) q) 0 (i + size x) r (unfolds Γ x)

  -- what opens them
  pub record OpeningAll (q : ℕ → List Entry) (fs ws : List ℕ) (i : ℕ) (ts : List ℕ) : Type 0 where
    pub trees : (xs : Forest) → CodedAll Γ fs ws i ts xs → Tells out o out' (lines_of (point_of o) q) 0 (i + sizes xs) r (unfoldss Γ xs)

  -- what leads from it to another is told
  pub record Leading (q : List Entry) (fs ws : List ℕ) (i : ℕ) (gs vs : List ℕ) (j t : ℕ) : Type 0 where
    pub tree : (x y : Tree) → Coded Γ fs ws i t x → Coded Γ gs vs j t y
        → Tells out o out' (lines (point_of o) q) (i + size x) (j + size y) r (collect Γ x y)

  -- what leads from them to others
  pub record LeadingAll (q : ℕ → List Entry) (fs ws : List ℕ) (i : ℕ) (gs vs : List ℕ) (j : ℕ) (ts : List ℕ) : Type 0 where
    pub trees : (xs ys : Forest) → CodedAll Γ fs ws i ts xs → CodedAll Γ gs vs j ts ys
        → Tells out o out' (lines_of (point_of o) q) (i + sizes xs) (j + sizes ys) r (collects Γ xs ys)

module _ (Γ : List ℕ) (out : List ℕ) (o : Out) (out' : List ℕ) (g : Got) where
  -- what a return owes of it is told, and never refused
  pub record Owing (q : List Entry) (fs ws : List ℕ) (i t : ℕ) : Type 0 where
    pub tree : (x : Tree) → Coded Γ fs ws i t x → Tells out o out' (lines (point_of o) q) (i + size x) 0 (Ok g) (done (folds Γ x))

  -- what a return owes of them
  pub record OwingAll (q : ℕ → List Entry) (fs ws : List ℕ) (i : ℕ) (ts : List ℕ) : Type 0 where
    pub trees : (xs : Forest) → CodedAll Γ fs ws i ts xs → Tells out o out' (lines_of (point_of o) q) (i + sizes xs) 0 (Ok g) (done (foldss Γ xs))
