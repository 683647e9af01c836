-- The way to the node that a collector stands at, as entries of a record, and the entries of the statements below that node.
use Rattle.std.specs.Prelude.{◌≡◌, List, [], ◌∷◌, ◌++◌, map, ℕ, ◌+◌, ◌≤◌, ◌<◌, length, take}
use Rattle.model.specs.State.{pairs}
use Rattle.model.specs.Place.{Statement, At}
use Rattle.model.specs.Collect.{hop}
use Rattle.model.specs.Record.{Entry, elem_entry, verb_entry}
use Rattle.type_record.specs.Kinds.{kind_code}
use Rattle.collectors.specs.declared.path.Way.{Way}

-- the first n items of the two arrays
abbrev pub trail : List ℕ → List ℕ → ℕ → List Entry
trail ops args n = pairs (take n ops) (take n args)

-- the two arrays have 130 words each
pub record Long (ops args : List ℕ) : Type 0 where
  pub first : length ops ≡ 130
  pub second : length args ≡ 130

-- the first n items are as they were
pub record Keeps (ops args ops' args' : List ℕ) (n : ℕ) : Type 0 where
  pub items : trail ops' args' n ≡ trail ops args n

-- the item behind the first n is op with arg
pub record Added (ops args ops' args' : List ℕ) (n op arg : ℕ) : Type 0 where
  pub items : trail ops' args' (n + 1) ≡ trail ops args n ++ ((op, arg) ∷ [])

-- the numbers of a way fit words
pub record Short (w : Way) : Type 0 where
  pub variant : w.variant < 4294967296
  pub child : w.child < 4294967296

-- the elements of a way to the child i
abbrev pub elems : Way → ℕ → List Entry
elems w i = map elem_entry (hop w.full (kind_code w.kind) w.variant i)

-- the items of ops' and args' up to r are those of ops and args up to n, and the way w
pub record Hopped (ops args ops' args' : List ℕ) (n : ℕ) (w : Way) (r : ℕ) : Type 0 where
  pub low : n ≤ r
  pub high : r ≤ n + 2
  pub items : trail ops' args' r ≡ trail ops args n ++ elems w w.child

-- a statement at the point p, on the tree that q leads to
unfoldable pub line : Entry → List Entry → Statement → List Entry
line p q c = p ∷ verb_entry c.verb ∷ (q ++ map elem_entry c.place)

-- statements on that tree
unfoldable pub lines : Entry → List Entry → List Statement → List Entry
lines p q [] = []
lines p q (c ∷ cs) = line p q c ++ lines p q cs

-- statements on several trees, where q leads to the tree of a number
unfoldable pub lines_of : Entry → (ℕ → List Entry) → List At → List Entry
lines_of p q [] = []
lines_of p q (a ∷ as') = line p (q a.number) a.what ++ lines_of p q as'

-- from q, the way w, or to the child i behind its child
unfoldable pub way : List Entry → Way → ℕ → List Entry
way q w i = q ++ elems w (w.child + i)

-- to the local i behind local l
unfoldable pub root : ℕ → ℕ → List Entry
root l i = (0, l + i) ∷ []
