-- Places and statements. A `Place` is relative to a tree: the elements on the way from its root. A local's place is the
-- local's number and a place relative to its tree. Refusal 4's limits.
use Rattle.std.proofs.Math.Bool.{Bool}
use Rattle.std.specs.Prelude.{true, false, cond, ◌&&◌, List, [], ◌∷◌, length, eqb, ltb, leb}
use Prim.Native.Nat.{ℕ, suc}

-- index: `Index` and `ConstantIndex`
pub data Elem : Type 0 where
  deref : Elem
  field : ℕ → Elem
  downcast : ℕ → Elem
  index : Elem

abbrev pub Place : Type 0
Place = List Elem

-- a local and a place in its tree
pub record Spot : Type 0 where
  pub local : ℕ
  pub place : Place

-- STATEMENTS

pub data Verb : Type 0 where
  Fold Unfold : Verb

pub record Statement : Type 0 where
  pub verb : Verb
  pub place : Place
  pub told : ℕ  -- what a reader is told beside it (document 02, F-4): of an unfold from a use where the opening began, of a fold from a use 0

-- of a statement that is collected: `-`
abbrev pub dash : ℕ
dash = 255

-- the whole tree
abbrev pub here : Verb → Statement
here w = record { verb = w; place = []; told = dash }

-- the same statement, seen from one element further up
abbrev pub push : Elem → Statement → Statement
push e c = record { verb = c.verb; place = e ∷ c.place; told = c.told }

abbrev pub under : Place → Statement → Statement
under [] c = c
under (e ∷ q) c = push e (under q c)

-- a statement on one of several trees, by its number: the children of a node, or the locals of a state
pub record At : Type 0 where
  pub number : ℕ
  pub what : Statement

abbrev pub first : Statement → At
first c = record { number = 0; what = c }

abbrev pub later : At → At
later a = record { number = suc a.number; what = a.what }

-- THE WALKED PLACE

-- does the walk end before this?
abbrev pub stops : Place → Bool
stops [] = true
stops (deref ∷ p) = false
stops (field i ∷ p) = false
stops (downcast v ∷ p) = false
stops (index ∷ p) = true

-- the walked place: up to the first index
unfoldable pub walked : Place → Place
walked [] = []
walked (deref ∷ p) = deref ∷ walked p
walked (field i ∷ p) = field i ∷ walked p
walked (downcast v ∷ p) = downcast v ∷ walked p
walked (index ∷ p) = []

-- the place holds no index, so all of it is walked
abbrev pub no_index : Place → Bool
no_index [] = true
no_index (deref ∷ p) = no_index p
no_index (field i ∷ p) = no_index p
no_index (downcast v ∷ p) = no_index p
no_index (index ∷ p) = false

-- the walked place without its last element
abbrev pub base : Place → Place
base [] = []
base (e ∷ p) = cond (stops p) [] (e ∷ base p)

-- REFUSAL 4

-- deref and field elements before an index
unfoldable pub steps : Place → ℕ
steps [] = 0
steps (deref ∷ p) = suc (steps p)
steps (field i ∷ p) = suc (steps p)
steps (downcast v ∷ p) = steps p
steps (index ∷ p) = 0

-- a used or folded place doesn't end in downcast with no index before
abbrev pub usable : Place → Bool
usable [] = true
usable (deref ∷ p) = usable p
usable (field i ∷ p) = usable p
usable (downcast v ∷ []) = false
usable (downcast v ∷ (e ∷ p)) = usable (e ∷ p)
usable (index ∷ p) = true

-- a known local, at most 128 elements, at most `limit` deref and field elements before an index
unfoldable pub spot_ok : ℕ → ℕ → Spot → Bool
spot_ok limit locals q = ltb q.local locals && leb (length q.place) 128 && leb (steps q.place) limit

-- of a place that is used; of a fold statement; of an unfold statement, which may end in downcast
unfoldable pub used_ok : ℕ → Spot → Bool
used_ok locals q = spot_ok 63 locals q && usable q.place

unfoldable pub fold_ok : ℕ → Spot → Bool
fold_ok locals q = spot_ok 64 locals q && usable q.place

unfoldable pub unfold_ok : ℕ → Spot → Bool
unfold_ok locals q = spot_ok 63 locals q

-- EQUAL PLACES

unfoldable pub same_elem : Elem → Elem → Bool
same_elem deref deref = true
same_elem deref (field j) = false
same_elem deref (downcast w) = false
same_elem deref index = false
same_elem (field i) deref = false
same_elem (field i) (field j) = eqb i j
same_elem (field i) (downcast w) = false
same_elem (field i) index = false
same_elem (downcast v) deref = false
same_elem (downcast v) (field j) = false
same_elem (downcast v) (downcast w) = eqb v w
same_elem (downcast v) index = false
same_elem index deref = false
same_elem index (field j) = false
same_elem index (downcast w) = false
same_elem index index = true

unfoldable pub same_place : Place → Place → Bool
same_place [] [] = true
same_place [] (d ∷ q) = false
same_place (e ∷ p) [] = false
same_place (e ∷ p) (d ∷ q) = same_elem e d && same_place p q

unfoldable pub same_spot : Spot → Spot → Bool
same_spot a b = eqb a.local b.local && same_place a.place b.place
