-- What a walk along a place finds: how far open nodes lead (`Passes`), how far types lead from there (`onward`), and where
-- it ends (`Walks`). The place is said by items from the second on; the first is the root.
use Rattle.std.specs.Prelude.{◌≡◌, true, List, ℕ, suc, ◌+◌, ◌-◌, ◌<◌, ◌≤◌, length, Result, Ok, Err}
use Rattle.std.proofs.Math.Option.{some}
use Rattle.model.specs.Answer.{Answer, refused}
use Rattle.model.specs.Types.{ntypes}
use Rattle.model.specs.Tree.{Tree, leaf, type}
use Rattle.model.specs.Place.{Place, Spot, walked, stops, no_index}
use Rattle.model.specs.Walk.{walk}
use Rattle.model.specs.Calls.{spot_of}
use Rattle.records.specs.Here.{Coded}
use Rattle.refusal.specs.Refusal.{number}
use Rattle.refusal.specs.declared.Refusal.{Refusal}
use Rattle.walk.specs.Way.{route, Way}
use Rattle.walk.specs.Fresh.{folded, sprout}
use Rattle.walk.specs.declared.step.Fresh.{Fresh}
use Rattle.walk.specs.declared.along.Onward.{Onward}
use Rattle.walk.specs.declared.along.Through.{Through}
use Rattle.walk.specs.declared.along.Walk.{Walk}

-- the items are a place of 128 elements at the most
pub record Short (ops args : List ℕ) : Type 0 where
  pub spot : Spot
  pub is : spot_of ops args ≡ some spot
  pub short : length spot.place ≤ 128

-- the elements from item i on
abbrev pub rest : List ℕ → List ℕ → ℕ → Place
rest ops args i = route ops args i (length ops - i)

-- the number of elements of the items' place that are walked, counted with the root
unfoldable pub extent : List ℕ → List ℕ → ℕ
extent ops args = suc (length (walked (rest ops args 1)))

-- those from item i on
abbrev pub walked_from : List ℕ → List ℕ → ℕ → Place
walked_from ops args i = route ops args i (extent ops args - i)

-- what types lead to along n elements
abbrev pub led : ℕ → Result Fresh Refusal → Result Onward Refusal
led n (Ok f) = Ok (record { walked = n; fresh = f })
led n (Err r) = Err r

-- how far types lead from item i on, from a folded node of type t
abbrev pub onward : List ℕ → List ℕ → List ℕ → ℕ → ℕ → Result Onward Refusal
onward Γ ops args i t = led (extent ops args) (sprout Γ (folded t 0) (walked_from ops args i))

module _ (Γ fs ws ops args : List ℕ) where
  -- open nodes lead from x, at i, along the items before item a, to a tree of type t, at n
  pub record Midway (i : ℕ) (x : Tree) (a n t : ℕ) : Type 0 where
    pub tree : Tree
    pub here : Coded Γ fs ws n t tree
    pub known : t < ntypes Γ
    pub way : Way Γ (rest ops args 1) x (rest ops args a) tree
    pub place : n ≡ i + length way.frame.before

  -- and no further, or to the item e
  pub record Passing (e i : ℕ) (x : Tree) (th : Through) : Type 0 where
    pub midway : Midway i x th.at th.node th.typ
    pub least : 1 ≤ th.at
    pub most : th.at ≤ e
    pub folded : th.at < e → midway.tree ≡ leaf th.typ

  -- how far open nodes lead from x, at i
  abbrev pub Passes : ℕ → Tree → Result Through Refusal → Type 0
  Passes i x (Ok th) = Passing (extent ops args) i x th
  Passes i x (Err r) = (act : Tree → Answer Tree) → walk Γ act (rest ops args 1) x ≡ refused (number r)

  -- from the tree at i, of type t
  abbrev pub PassesAt : ℕ → ℕ → Result Through Refusal → Type 0
  PassesAt i t r = (x : Tree) → Coded Γ fs ws i t x → Passes i x r

  -- where the walk of p from x, at i, ends
  pub record Site (i : ℕ) (p : Place) (x : Tree) (w : Walk) : Type 0 where
    pub passing : Passing w.walked i x (record { at = w.passed; node = w.node; typ = w.typ })
    pub within : w.walked ≤ length ops
    pub far : w.walked ≡ suc (length (walked p))
    pub plain : no_index (route ops args w.passed (w.walked - w.passed)) ≡ true
    pub last : stops (rest ops args w.walked) ≡ true
    pub fresh : sprout Γ (folded w.typ 0) (route ops args w.passed (w.walked - w.passed)) ≡ Ok w.fresh
    pub array : (z : Tree) → type z ≡ w.fresh.typ → (act : Tree → Answer Tree) → walk Γ act (rest ops args w.walked) z ≡ act z

  -- what the walk of p from x, at i, gives
  abbrev pub Walks : ℕ → Place → Tree → Result Walk Refusal → Type 0
  Walks i p x (Ok w) = Site i p x w
  Walks i p x (Err r) = (act : Tree → Answer Tree) → walk Γ act p x ≡ refused (number r)

  -- of the items' place, from the tree at i, of type t
  abbrev pub WalksAt : ℕ → ℕ → Result Walk Refusal → Type 0
  WalksAt i t r = (x : Tree) (q : Spot) → Coded Γ fs ws i t x → spot_of ops args ≡ some q → Walks i q.place x r
