-- Rows as document 01's table has them: a type, an input, a result. Trees are written by their shapes, and the row's type makes
-- them trees; `computed_row` is what the definitions give, `stated_row` what the row says.
use mathlib.Core.Bool.{Bool, true, false}
use mathlib.Core.List.{List, [], ◌∷◌, map}
use mathlib.Core.Option.{Option, none as accepted, some}
use Prim.Native.Nat.{ℕ}
use Rattle.model.specs.Answer.{Answer, refused, done, ◌>>=◌}
use Rattle.model.specs.Types.{kids}
use Rattle.model.specs.Tree.{Tree, leaf, node, Forest, nil, more, join, flags, Flags}
use Rattle.model.specs.Source.{first, second, modified}
use Rattle.model.specs.Place.{Place, Verb, Fold, Unfold, dash, At}
use Rattle.model.specs.Walk.{project_at}
use Rattle.model.specs.Collect.{collects, folds_at_ret, first_clashes}
use Rattle.model.specs.Record.{forget}

-- SHAPES

mutual
  -- F: folded; else unfolded, at the variant v
  pub data Shape : Type 0 where
    F : Shape
    open_at : (v : ℕ) → Shapes → Shape

  pub data Shapes : Type 0 where
    none : Shapes
    also : Shape → Shapes → Shapes

-- a struct of two fields
abbrev pub S : Shape → Shape → Shape
S a b = open_at 0 (also a (also b none))

-- a tuple of one
abbrev pub T : Shape → Shape
T a = open_at 0 (also a none)

-- a pointer
abbrev pub * : Shape → Shape
* a = open_at 0 (also a none)

abbrev pub V0 : Shape
V0 = open_at 0 none

abbrev pub V1 : Shape → Shape
V1 a = open_at 1 (also a none)

-- ROWS

-- the join of two trees, not inside a mutable reference; the use of a place, _1 and elements, in a tree; from one tree to another;
-- a tree at return
pub data Input : Type 0 where
  join_of : Shape → Shape → Input
  use_in : Shape → Place → Input
  from_to : Shape → Shape → Input
  at_return : Shape → Input

-- a tree, and whether the first was changed, and the second; statements; a refusal
pub data Result (A B : Type 0) : Type 0 where
  gives : A → B → Result A B
  records : List At → Result A B
  refuses : ℕ → Result A B

-- what a row says
abbrev pub Stated : Type 0
Stated = Result Shape Flags

-- what the definitions give. Of a join: the join, and what the source's own recursion leaves in the first tree and in the second; the flags,
-- and those of the source's own recursion
abbrev pub Computed : Type 0
Computed = Result (Tree × Tree × Tree) (Flags × Flags)

pub record Row : Type 0 where
  pub type : ℕ
  pub input : Input
  pub result : Stated

abbrev pub row : ℕ → Input → Stated → Row
row t i r = record { type = t; input = i; result = r }

-- F; no, yes
abbrev pub no : Bool
no = false

abbrev pub yes : Bool
yes = true

-- one statement, on _1 and elements; what is told beside it (document 02, F-4) isn't in the table
abbrev pub says : Verb → Place → Stated
says w p = records (record { number = 1; what = record { verb = w; place = p; told = dash } } ∷ [])

abbrev pub fold_1 : Place → Stated
fold_1 = says Fold

abbrev pub unfold_1 : Place → Stated
unfold_1 = says Unfold

-- WHAT A ROW SAYS, AND WHAT THE DEFINITIONS GIVE

abbrev pub recorded : Answer (List At) → Computed
recorded (refused r) = refuses r
recorded (done as') = records (map forget as')

module _ (Γ : List ℕ) where
  -- the tree of a shape, at a type
  unfoldable mutual
    pub tree : Shape → ℕ → Tree
    tree F t = leaf t
    tree (open_at v ns) t = node t v (trees ns (kids Γ t v))

    pub trees : Shapes → List ℕ → Forest
    trees none ts = nil
    trees (also s ss) [] = nil
    trees (also s ss) (t ∷ ts) = more (tree s t) (trees ss ts)

  -- a state of two locals: the return place, opaque, and _1, an argument
  unfoldable pub state : Tree → Forest
  state s = more (leaf 0) (more s nil)

  unfoldable pub computes : ℕ → Input → Computed
  computes t (join_of a b) =
      let s = tree a t in
      let e = tree b t in
      gives (join Γ false s e, first Γ false s e, second Γ false s e) (flags Γ false s e, modified Γ false s e)
  computes t (use_in a p) = recorded (project_at Γ 1 p (state (tree a t)) >>= λ r. done r.1)
  computes t (from_to a b) = recorded (collects Γ (state (tree a t)) (state (tree b t)))
  computes t (at_return a) = records (folds_at_ret Γ 1 (state (tree a t)))

  unfoldable pub means : ℕ → Stated → Computed
  means t (gives a x) = gives (tree a t, tree a t, tree a t) (x, x)
  means t (records as') = records as'
  means t (refuses r) = refuses r

  unfoldable pub computed_row : Row → Computed
  unfolding computes state tree
  computed_row r = computes r.type r.input

  unfoldable pub stated_row : Row → Computed
  unfolding means tree
  stated_row r = means r.type r.result

-- THE CLASHES: the refusal of a row from one tree to another, and the first clash of its two trees

abbrev pub refusal_of : Stated → Option ℕ
refusal_of (gives a x) = accepted
refusal_of (records as') = accepted
refusal_of (refuses r) = some r

abbrev pub clash_stated : Input → Stated → Option ℕ
clash_stated (join_of a b) r = accepted
clash_stated (use_in a p) r = accepted
clash_stated (from_to a b) r = refusal_of r
clash_stated (at_return a) r = accepted

unfoldable pub stated_clash : Row → Option ℕ
stated_clash r = clash_stated r.input r.result

module _ (Γ : List ℕ) where
  abbrev pub clash_computed : ℕ → Input → Option ℕ
  clash_computed t (join_of a b) = accepted
  clash_computed t (use_in a p) = accepted
  clash_computed t (from_to a b) = first_clashes Γ (state Γ (tree Γ a t)) (state Γ (tree Γ b t))
  clash_computed t (at_return a) = accepted

  unfoldable pub computed_clash : Row → Option ℕ
  unfolding state tree
  computed_clash r = clash_computed r.type r.input
