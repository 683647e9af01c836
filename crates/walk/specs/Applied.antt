-- What the code that opens and folds nodes does to the two arrays of a state, as lists of codes.
use Rattle.std.specs.Prelude.{◌≡◌, Bool, true, cond, List, [], ◌∷◌, ◌++◌, map, ℕ, suc, ◌+◌, ◌-◌, ◌≤◌, ◌<◌, length, set, replicate, Option, Some, None, Ok}
use Rattle.model.specs.Types.{ntypes, kind, form}
use Rattle.model.specs.Tree.{Tree}
use Rattle.model.specs.State.{Code, codes, padded}
use Rattle.model.specs.Place.{Elem, Place, no_index}
use Rattle.model.specs.Block.{elem_of}
use Rattle.records.specs.Here.{Coded, firsts, seconds}
use Rattle.state.specs.declared.nodes.State.{State}
use Rattle.walk.specs.Way.{route}
use Rattle.walk.specs.Fresh.{folded, variant, grows, sprout, trail, stub, mark}
use Rattle.walk.specs.declared.step.Fresh.{Fresh}
use Rattle.walk.specs.declared.step.More.{More}
use Rattle.walk.specs.declared.along.Walk.{Walk}
use Rattle.walk.specs.declared.apply.Pen.{Pen}

-- the state s has these codes
pub record Encoded (s : State) (cs : List Code) : Type 0 where
  pub forms : s.forms ≡ padded (firsts cs)
  pub whats : s.whats ≡ padded (seconds cs)
  pub nodes : s.nodes ≡ length cs
  pub few : length cs ≤ 512

-- v at i, unless the node there is open already
unfoldable pub marked : Bool → List ℕ → ℕ → ℕ → List ℕ
marked was_open l i v = cond was_open l (set l i v)

-- the node at i is written as the step e opens it, unless f has it open already
abbrev pub Marks : List ℕ → Fresh → Elem → ℕ → List ℕ → List ℕ → List ℕ → List ℕ → Type 0
Marks Γ f e i fs ws fs' ws' = (fs' ≡ marked f.opened fs i (form (kind Γ f.typ))) × (ws' ≡ marked f.opened ws i (variant e))

-- over n zeros from i on stand the codes cs, each as h says, then zeros as before
abbrev pub Inked : (Code → ℕ) → ℕ → ℕ → List ℕ → List ℕ → List Code → Type 0
Inked h i n l l' cs = (a c : List ℕ) → l ≡ a ++ (replicate n 0 ++ c) → length a ≡ i → l' ≡ a ++ (map h cs ++ (replicate (n - length cs) 0 ++ c))

-- the items from..end are there, and few
abbrev pub Stretch : List ℕ → List ℕ → ℕ → ℕ → Type 0
Stretch ops args from end = (from ≤ end) × (end ≤ length ops) × (end ≤ length args) × (end ≤ 256)

-- there is room for what the walk by types opens, from i on
pub record Room (Γ : List ℕ) (es : Place) (t i : ℕ) (fs ws : List ℕ) : Type 0 where
  pub end : Fresh
  pub leads : sprout Γ (folded t 0) es ≡ Ok end
  pub forms : i + suc end.added ≤ length fs
  pub whats : i + suc end.added ≤ length ws

-- what it opens is written there
pub record Penned (Γ : List ℕ) (es : Place) (t i : ℕ) (fs ws fs' ws' : List ℕ) (p : Pen) (g : Fresh) : Type 0 where
  pub fresh : p.fresh ≡ g
  pub at : p.at ≡ i + length (trail Γ (folded t 0) es)
  pub forms : (n : ℕ) → suc g.added ≤ n → Inked (λ c. c.0) i n fs fs' (trail Γ (folded t 0) es ++ stub Γ g)
  pub whats : (n : ℕ) → suc g.added ≤ n → Inked (λ c. c.1) i n ws ws' (trail Γ (folded t 0) es ++ stub Γ g)

-- wherever the walk by types leads
abbrev pub Pens : List ℕ → Place → ℕ → ℕ → List ℕ → List ℕ → List ℕ → List ℕ → Pen → Type 0
Pens Γ es t i fs ws fs' ws' p = (g : Fresh) → sprout Γ (folded t 0) es ≡ Ok g → Penned Γ es t i fs ws fs' ws' p g

-- the element that one step more is
abbrev pub element : More → Elem
element m = elem_of m.op m.arg

-- one step more, if there is one, leads from f to g
abbrev pub Adds : List ℕ → Fresh → Option More → Fresh → Type 0
Adds Γ f None g = f ≡ g
Adds Γ f (Some m) g = grows Γ f (element m) ≡ Ok g

-- the codes of the node that the walk has come to, with one step more or none
unfoldable pub tip : List ℕ → Fresh → Option More → List Code
tip Γ f None = stub Γ f
tip Γ f (Some m) = mark Γ f (element m) ∷ []

-- codes, and zeros behind them, n in all
unfoldable pub filled : List Code → ℕ → List Code
filled cs n = cs ++ replicate (n - length cs) (0, 0)

-- the elements that the walk w opens nodes for
abbrev pub opening : List ℕ → List ℕ → Walk → Place
opening ops args w = route ops args w.passed (w.walked - w.passed)

-- the walk w of the state s is to be carried out: by types it leads to `before`, and from there with one step more, if there
-- is one, to what w says; the state has room for what that adds
pub record Opens (Γ ops args : List ℕ) (s : State) (w : Walk) (more : Option More) : Type 0 where
  pub known : w.typ < ntypes Γ
  pub least : w.passed ≤ w.walked
  pub in_ops : w.walked ≤ length ops
  pub in_args : w.walked ≤ length args
  pub few : w.walked ≤ 256
  pub plain : no_index (opening ops args w) ≡ true
  pub before : Fresh
  pub leads : sprout Γ (folded w.typ 0) (opening ops args w) ≡ Ok before
  pub adds : Adds Γ before more w.fresh
  pub front : List Code
  pub back : List Code
  pub coded : Encoded s (front ++ ((0, 0) ∷ back))
  pub at : length front ≡ w.node
  pub room : s.nodes + w.fresh.added ≤ 512

-- it is: r has the codes of what was opened in the place of the folded node
pub record Carried (Γ ops args : List ℕ) (s : State) (w : Walk) (more : Option More) (r : State) : Type 0 where
  pub coded : (b e : List Code) (f : Fresh) → Encoded s (b ++ ((0, 0) ∷ e)) → length b ≡ w.node
      → sprout Γ (folded w.typ 0) (opening ops args w) ≡ Ok f
      → Encoded r (b ++ (filled (trail Γ (folded w.typ 0) (opening ops args w) ++ tip Γ f more) (suc w.fresh.added) ++ e))

-- the node at i of the state s, of type t, is to be folded: its codes stand between those of the others
pub record Folds (Γ : List ℕ) (s : State) (i t : ℕ) : Type 0 where
  pub tree : Tree
  pub here : Coded Γ s.forms s.whats i t tree
  pub front : List Code
  pub back : List Code
  pub coded : Encoded s (front ++ (codes Γ tree ++ back))
  pub at : length front ≡ i

-- it is: r has one folded node's code in the place of its codes
pub record Folded (Γ : List ℕ) (s : State) (i t : ℕ) (r : State) : Type 0 where
  pub coded : (b e : List Code) (x : Tree) → Coded Γ s.forms s.whats i t x → Encoded s (b ++ (codes Γ x ++ e)) → length b ≡ i → Encoded r (b ++ ((0, 0) ∷ e))
