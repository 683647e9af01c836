-- The walk along a place (`Env::ensure_unfolded`), and what is done with it: the projection (`Env::projection`), the downcast
-- of a match arm (`Env::downcast`), one statement carried out, a list of them.
-- What is done at the node reached is handed in, so that one definition serves: `walk done p` only walks, `walk folding p`
-- then folds, `walk opening p` then opens one level, `walk (enter (downcast v)) p` then opens the variant v.
use Rattle.std.specs.Prelude.{List, [], ◌∷◌, map, Bool, true, false, not, ◌||◌, eqb, leb}
use Rattle.std.proofs.Math.Bool.{cond}
use Rattle.std.proofs.Math.Option.{Option, none, some}
use Prim.Native.Nat.{ℕ, zero, suc}
use Rattle.model.specs.Answer.{Answer, refused, done, ◌>>=◌, require, run}
use Rattle.model.specs.Types.{kind, kids, pointer, fielded, shut, casts}
use Rattle.model.specs.Tree.{Tree, leaf, node, Forest, nil, more, sizes, type, unfolded, leaves}
use Rattle.model.specs.State.{most}
use Rattle.model.specs.Place.{Elem, deref, field, downcast, index, Place, Spot, Verb, Fold, Unfold, Statement, At, first, later, no_index, base}

-- f at the tree number i; 5 if there is none
abbrev pub nth : ℕ → (Tree → Answer Tree) → Forest → Answer Forest
nth i f nil = refused 5
nth zero f (more s ss) = f s >>= λ u. done (more u ss)
nth (suc i) f (more s ss) = nth i f ss >>= λ us. done (more s us)

-- f at the child number i
abbrev pub child : ℕ → (Tree → Answer Tree) → Tree → Answer Tree
child i f (leaf t) = refused 5
child i f (node t v ns) = nth i f ns >>= λ us. done (node t v us)

-- f where the element leads: a downcast and an index stay at the node
abbrev pub inside : Elem → (Tree → Answer Tree) → Tree → Answer Tree
inside deref f = child 0 f
inside (field i) f = child i f
inside (downcast v) f = f
inside index f = f

-- `PlaceNode::ensure_folded`
abbrev pub folding : Tree → Answer Tree
folding s = done (leaf (type s))

module _ (Γ : List ℕ) where
  -- a folded node of the type t, opened one level
  unfoldable pub opened : ℕ → ℕ → Tree
  opened t v = node t v (leaves (kids Γ t v))

  -- unfold at the node reached: "a folded node opens one level, children folded; a folded enum is 7; an unfolded node stays".
  -- Where the walked place ends in downcast the node is open already
  unfoldable pub opening : Tree → Answer Tree
  opening (leaf t) = cond (shut (kind Γ t)) (refused 5) (cond (eqb (kind Γ t) 7) (refused 7) (done (opened t 0)))
  opening (node t v ns) = done (node t v ns)

  -- the node is opened for the element, if it is not open (`PlaceNode::deref`, `fields`, `downcast`)
  unfoldable pub enter : Elem → Tree → Answer Tree
  enter deref (leaf t) = cond (pointer (kind Γ t)) (done (opened t 0)) (refused 5)
  enter deref (node t v ns) = cond (pointer (kind Γ t)) (done (node t v ns)) (refused 5)
  enter (field i) (leaf t) = cond (fielded (kind Γ t)) (done (opened t 0)) (refused 5)
  enter (field i) (node t v ns) = cond (pointer (kind Γ t)) (refused 5) (done (node t v ns))
  enter (downcast v) (leaf t) = cond (casts Γ t v) (done (opened t v)) (refused 5)
  enter (downcast v) (node t w ns) = cond (casts Γ t v) (cond (eqb v w) (done (node t w ns)) (refused 6)) (refused 5)
  enter index (leaf t) = cond (eqb (kind Γ t) 4) (done (leaf t)) (refused 5)
  enter index (node t v ns) = cond (eqb (kind Γ t) 4) (done (node t v ns)) (refused 5)

  unfoldable pub step : Elem → (Tree → Answer Tree) → Tree → Answer Tree
  step e f s = enter e s >>= inside e f

  -- the walk; `act` at the node reached
  unfoldable pub walk : (Tree → Answer Tree) → Place → Tree → Answer Tree
  walk act [] s = act s
  walk act (deref ∷ p) s = step deref (walk act p) s
  walk act (field i ∷ p) s = step (field i) (walk act p) s
  walk act (downcast v ∷ p) s = step (downcast v) (walk act p) s
  walk act (index ∷ p) s = step index act s

-- THE WALK'S TWO FLAGS, for a walk that is not refused

-- the tree number i
abbrev pub pick : ℕ → Forest → Tree
pick i nil = leaf 0
pick zero (more s ss) = s
pick (suc i) (more s ss) = pick i ss

abbrev pub branch : ℕ → Tree → Tree
branch i (leaf t) = leaf t
branch i (node t v ns) = pick i ns

module _ (Γ : List ℕ) where
  -- the tree, opened at the variant v if it is folded
  unfoldable pub wide : ℕ → Tree → Tree
  wide v (leaf t) = opened Γ t v
  wide v (node t w ns) = node t w ns

  -- where an element leads
  abbrev pub next : Elem → Tree → Tree
  next deref s = branch 0 (wide 0 s)
  next (field i) s = branch i (wide 0 s)
  next (downcast v) s = wide v s
  next index s = s

  -- the node reached
  unfoldable pub reached : Place → Tree → Tree
  reached [] s = s
  reached (deref ∷ p) s = reached p (next deref s)
  reached (field i ∷ p) s = reached p (next (field i) s)
  reached (downcast v ∷ p) s = reached p (next (downcast v) s)
  reached (index ∷ p) s = s

  -- has a step opened a folded node? (`modified`)
  unfoldable pub changed : Place → Tree → Bool
  changed [] s = false
  changed (deref ∷ p) s = not (unfolded s) || changed p (next deref s)
  changed (field i ∷ p) s = not (unfolded s) || changed p (next (field i) s)
  changed (downcast v ∷ p) s = not (unfolded s) || changed p (next (downcast v) s)
  changed (index ∷ p) s = false

  -- "how many elements it had passed before the step that first changed a tree, and the walked length where none did" (F-4)
  unfoldable pub passed : Place → Tree → ℕ
  passed [] s = 0
  passed (deref ∷ p) s = cond (unfolded s) (suc (passed p (next deref s))) 0
  passed (field i ∷ p) s = cond (unfolded s) (suc (passed p (next (field i) s))) 0
  passed (downcast v ∷ p) s = cond (unfolded s) (suc (passed p (next (downcast v) s))) 0
  passed (index ∷ p) s = 0

  -- THE PROJECTION (`ProjResult`): "if the walk changed a tree the answer is Unfold, recorded for the walked place without its
  -- last element; else Fold exactly if the node reached was unfolded; else nothing". The tree after, and the statement
  unfoldable pub project : Place → Tree → Answer (Tree × List Statement)
  project p s = walk Γ done p s >>= λ u. cond (changed p s)
      (done (u, record { verb = Unfold; place = base p; told = passed p s } ∷ []))
      (cond (unfolded (reached p s))
      (walk Γ folding p s >>= λ w. done (w, record { verb = Fold; place = p; told = 0 } ∷ []))
      (done (u, [])))

  -- of the local number i of a state
  unfoldable pub project_at : ℕ → Place → Forest → Answer (Forest × List At)
  project_at i p nil = refused 4
  project_at zero p (more s ss) = project p s >>= λ r. done (more r.0 ss, map first r.1)
  project_at (suc i) p (more s ss) = project_at i p ss >>= λ r. done (more s r.0, map later r.1)

  -- CARRYING OUT

  abbrev pub act : Verb → Tree → Answer Tree
  act Fold = folding
  act Unfold = opening Γ

  unfoldable pub carry : Statement → Tree → Answer Tree
  carry c = walk Γ (act c.verb) c.place

  -- one statement on one tree of several
  unfoldable pub carry_at : At → Forest → Answer Forest
  carry_at a = nth a.number (carry a.what)

  abbrev pub carries : List Statement → Tree → Answer Tree
  carries = run carry

  -- a list of statements on a state, with no limit on nodes on the way
  abbrev pub carries_at : List At → Forest → Answer Forest
  carries_at = run carry_at

  -- IN A RUN

  -- refusal 9: the result would have over 512 nodes
  unfoldable pub fitting : Forest → Answer Forest
  fitting E = require (leb (sizes E) most) 9 (λ _. done E)

  -- a place is used: the state after, and what is recorded
  unfoldable pub projection : Spot → Forest → Answer (Forest × List At)
  projection q E = project_at q.local q.place E >>= λ r. fitting r.0 >>= λ D. done (D, r.1)

  -- a match arm's own unfolding: walk the place read, then downcast to the variant
  unfoldable pub cast_at : Spot → ℕ → Forest → Answer Forest
  cast_at q v E = nth q.local (walk Γ (enter Γ (downcast v)) q.place) E

  unfoldable pub downcasting : Spot → ℕ → Forest → Answer Forest
  downcasting q v E = cast_at q v E >>= fitting

  -- a place walked in a state, and no more
  abbrev pub walk_at : Spot → Forest → Answer Forest
  walk_at q E = nth q.local (walk Γ done q.place) E

  -- "a match first walks its place, for its type alone (no enum is 5; changes are dropped, 9 isn't tested)"
  unfoldable pub enum_at : Spot → Forest → Answer ℕ
  enum_at q E = walk_at q E >>= λ D.
      require (eqb (kind Γ (type (reached q.place (pick q.local E)))) 7) 5 (λ _. done (type (reached q.place (pick q.local E))))

  -- what a match is on: the enum at its place; or none, where the place holds an index that the walk accepts: an array's element (F-1)
  unfoldable pub subject_at : Spot → Forest → Answer (Option ℕ)
  subject_at q E = elim (no_index q.place) [
    | true ↦ enum_at q E >>= λ t. done (some t)
    | false ↦ walk_at q E >>= λ D. done none
  ]
