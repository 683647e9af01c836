-- What a step along an open node finds, and how far open nodes lead. Items say the elements of a place (`route`); the item
-- of an unfold, which no place has, is read as `index`.
use Rattle.std.specs.Prelude.{◌≡◌, true, List, [], ◌∷◌, ℕ, zero, suc, ◌+◌, ◌<◌, length, Result, Ok, Err}
use Rattle.model.specs.Words.{word}
use Rattle.model.specs.Answer.{Answer, refused, done, ◌>>=◌}
use Rattle.model.specs.Types.{ntypes}
use Rattle.model.specs.Tree.{Tree, unfolded}
use Rattle.model.specs.State.{codes}
use Rattle.model.specs.Place.{Elem, deref, field, downcast, index, Place}
use Rattle.model.specs.Walk.{enter, opening, inside, walk, next, reached, changed, passed}
use Rattle.model.specs.Block.{elem_of}
use Rattle.records.specs.Here.{Coded}
use Rattle.refusal.specs.Refusal.{number}
use Rattle.refusal.specs.declared.Refusal.{Refusal}
use Rattle.walk.specs.Frame.{Frame}
use Rattle.walk.specs.declared.step.Node.{Node}

-- the elements that n items say, from item i on
unfoldable pub route : List ℕ → List ℕ → ℕ → ℕ → Place
route ops args i zero = []
route ops args i (suc n) = elem_of (word ops i) (word args i) ∷ route ops args (suc i) n

-- what a step does at a node: it enters it, or it is an unfold's
unfoldable pub acts : List ℕ → Elem → Tree → Answer Tree
acts Γ deref = enter Γ deref
acts Γ (field i) = enter Γ (field i)
acts Γ (downcast v) = enter Γ (downcast v)
acts Γ index = opening Γ

-- the step e leads from the open tree x, at i, to a tree of type u, at n
pub record Stepped (Γ fs ws : List ℕ) (i : ℕ) (e : Elem) (x : Tree) (n u : ℕ) : Type 0 where
  pub tree : Tree
  pub here : Coded Γ fs ws n u tree
  pub known : u < ntypes Γ
  pub frame : Frame Γ (codes Γ)
  pub place : n ≡ i + length frame.before
  pub whole : frame.plug tree ≡ x
  pub leads : (act : Tree → Answer Tree) → acts Γ e x >>= inside e act ≡ act tree >>= λ z. done (frame.plug z)
  pub ends : next Γ e x ≡ tree
  pub was_open : unfolded x ≡ true

-- what a step along an open tree gives
abbrev pub Steps : (Γ fs ws : List ℕ) (i : ℕ) (e : Elem) (x : Tree) → Result Node Refusal → Type 0
Steps Γ fs ws i e x (Ok n) = Stepped Γ fs ws i e x n.node n.typ
Steps Γ fs ws i e x (Err r) = (act : Tree → Answer Tree) → acts Γ e x >>= inside e act ≡ refused (number r)

-- along the tree at i, of type t
abbrev pub StepsAt : (Γ fs ws : List ℕ) (i t : ℕ) (e : Elem) → Result Node Refusal → Type 0
StepsAt Γ fs ws i t e r = (x : Tree) → Coded Γ fs ws i t x → Steps Γ fs ws i e x r

-- the walk of p from x goes through open nodes, and on as that of q from y
pub record Way (Γ : List ℕ) (p : Place) (x : Tree) (q : Place) (y : Tree) : Type 0 where
  pub frame : Frame Γ (codes Γ)
  pub whole : frame.plug y ≡ x
  pub leads : (act : Tree → Answer Tree) → walk Γ act p x ≡ walk Γ act q y >>= λ z. done (frame.plug z)
  pub changes : changed Γ p x ≡ changed Γ q y
  pub reaches : reached Γ p x ≡ reached Γ q y
  pub passes : passed Γ p x + length q ≡ passed Γ q y + length p  -- the elements between are passed
