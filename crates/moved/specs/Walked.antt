-- A walk along a place goes along with moved types, and so does one statement carried out. The projection is in Projected.
use Rattle.std.specs.Prelude.{◌≡◌, true, eqb}
use Rattle.std.proofs.Math.Path.{refl}
use mathlib.Core.List.{List, [], ◌∷◌}
use Prim.Native.Nat.{ℕ, zero, suc}
use Rattle.std.proofs.Common.{eqb-true}
use Rattle.std.proofs.lemmas.Bool.{eqb-false}
use Rattle.model.specs.Answer.{Answer, done}
use Rattle.model.specs.Types.{kind, kids, pointer, fielded, shut, casts}
use Rattle.model.specs.Tree.{Tree, leaf, node, Forest, nil, more}
use Rattle.model.specs.Typing.{Openable}
use Rattle.model.specs.Place.{Elem, deref, field, downcast, index, Place, Spot, Verb, Fold, Unfold, Statement, At}
use Rattle.model.specs.Walk.{nth, child, inside, folding, opened, opening, enter, step, walk, act, carry, carry_at, cast_at, walk_at}
use Rattle.base.specs.Tests.{split}
use Rattle.base.specs.Answer.{split_answer, answer_map}
use Rattle.base.specs.Kinds.{pointer_not_shut, pointer_not_enum, fielded_not_shut, fielded_not_enum, openable_zero}
use Rattle.laws.specs.Walked.{openable_cast}
use Rattle.moved.specs.Moves.{Moves}
use Rattle.moved.specs.Retyped.{retype, retypes, leaves_moved}

module _ (f : ℕ → ℕ) where
  -- b does to the moved tree what a does to the tree
  abbrev pub Follows : (Tree → Answer Tree) → (Tree → Answer Tree) → Type 0
  Follows a b = (s : Tree) → b (retype f s) ≡ answer_map (retype f) (a s)

  -- to walk and no more
  pub done_moved : Follows done done
  done_moved s = refl

  -- to fold
  pub folding_moved : Follows folding folding
  unfolding retype
  folding_moved (leaf t) = refl
  folding_moved (node t v ns) = refl

  module _ (a b : Tree → Answer Tree) (k : Follows a b) where
    -- at one tree of several
    nth_moved : (i : ℕ) (ss : Forest) → nth i b (retypes f ss) ≡ answer_map (retypes f) (nth i a ss)
    unfolding retype
    nth_moved i nil = refl
    nth_moved zero (more s ss) = split_answer (a s) (λ r e. cc (k s)) (λ u e. cc (k s))
    nth_moved (suc i) (more s ss) = split_answer (nth i a ss) (λ r e. cc (nth_moved i ss)) (λ u e. cc (nth_moved i ss))

    -- at a child
    child_moved : (i : ℕ) → Follows (child i a) (child i b)
    unfolding retype
    child_moved i (leaf t) = refl
    child_moved i (node t v ns) = split_answer (nth i a ns) (λ r e. cc (nth_moved i ns)) (λ u e. cc (nth_moved i ns))

    -- where an element leads
    inside_moved : (e : Elem) → Follows (inside e a) (inside e b)
    inside_moved deref = child_moved 0
    inside_moved (field i) = child_moved i
    inside_moved (downcast v) = k
    inside_moved index = k

module _ {f : ℕ → ℕ} {Γ Δ : List ℕ} (h : Moves f Γ Δ) where
  -- a type has the variant that it had
  casts_moved : (t v : ℕ) → casts Δ (f t) v ≡ casts Γ t v
  unfolding casts
  casts_moved t v = split (eqb (kind Γ t) 7)
      (λ e. cc (h.kinds t, h.counts t (eqb-true (kind Γ t) 7 e)))
      (λ e. cc (h.kinds t))

  -- a node opened one level
  opened_moved : (t v : ℕ) → Openable Γ t v → opened Δ (f t) v ≡ retype f (opened Γ t v)
  unfolding opened retype
  opened_moved t v o = cc (h.children t v o, leaves_moved f (kids Γ t v))

  -- of a pointer
  pub opened_pointer : (t : ℕ) → pointer (kind Γ t) ≡ true → opened Δ (f t) 0 ≡ retype f (opened Γ t 0)
  opened_pointer t e = opened_moved t 0 (openable_zero t (pointer_not_shut (kind Γ t) e) (pointer_not_enum (kind Γ t) e))

  -- of what a field opens
  pub opened_fielded : (t : ℕ) → fielded (kind Γ t) ≡ true → opened Δ (f t) 0 ≡ retype f (opened Γ t 0)
  opened_fielded t e = opened_moved t 0 (openable_zero t (fielded_not_shut (kind Γ t) e) (fielded_not_enum (kind Γ t) e))

  -- of what can be cast
  pub opened_cast : (t v : ℕ) → casts Γ t v ≡ true → opened Δ (f t) v ≡ retype f (opened Γ t v)
  opened_cast t v e = opened_moved t v (openable_cast Γ t v e)

  -- to open
  opening_moved : Follows f (opening Γ) (opening Δ)
  unfolding opening retype
  opening_moved (leaf t) = split (shut (kind Γ t)) (λ e. cc (h.kinds t)) (λ e. split (eqb (kind Γ t) 7)
      (λ d. cc (h.kinds t))
      (λ d. cc (h.kinds t, opened_moved t 0 (openable_zero t e (eqb-false (kind Γ t) 7 d)))))
  opening_moved (node t v ns) = refl

  -- for an element
  enter_moved : (e : Elem) → Follows f (enter Γ e) (enter Δ e)
  unfolding enter retype
  enter_moved deref (leaf t) = split (pointer (kind Γ t)) (λ e. cc (h.kinds t, opened_pointer t e)) (λ e. cc (h.kinds t))
  enter_moved deref (node t v ns) = split (pointer (kind Γ t)) (λ e. cc (h.kinds t)) (λ e. cc (h.kinds t))
  enter_moved (field i) (leaf t) = split (fielded (kind Γ t)) (λ e. cc (h.kinds t, opened_fielded t e)) (λ e. cc (h.kinds t))
  enter_moved (field i) (node t v ns) = split (pointer (kind Γ t)) (λ e. cc (h.kinds t)) (λ e. cc (h.kinds t))
  enter_moved (downcast v) (leaf t) = split (casts Γ t v) (λ e. cc (casts_moved t v, opened_cast t v e)) (λ e. cc (casts_moved t v))
  enter_moved (downcast v) (node t w ns) = split (casts Γ t v)
      (λ e. split (eqb v w) (λ d. cc (casts_moved t v)) (λ d. cc (casts_moved t v)))
      (λ e. cc (casts_moved t v))
  enter_moved index (leaf t) = split (eqb (kind Γ t) 4) (λ e. cc (h.kinds t)) (λ e. cc (h.kinds t))
  enter_moved index (node t v ns) = split (eqb (kind Γ t) 4) (λ e. cc (h.kinds t)) (λ e. cc (h.kinds t))

  -- a step
  step_moved : (a b : Tree → Answer Tree) → Follows f a b → (e : Elem) → Follows f (step Γ e a) (step Δ e b)
  unfolding step
  step_moved a b k e s = split_answer (enter Γ e s)
      (λ r d. cc (enter_moved e s))
      (λ u d. cc (enter_moved e s, inside_moved f a b k e u))

  -- a walk
  module _ (a b : Tree → Answer Tree) (k : Follows f a b) where
    pub walk_moved : (p : Place) → Follows f (walk Γ a p) (walk Δ b p)
    unfolding walk
    walk_moved [] = k
    walk_moved (deref ∷ p) = step_moved (walk Γ a p) (walk Δ b p) (walk_moved p) deref
    walk_moved (field i ∷ p) = step_moved (walk Γ a p) (walk Δ b p) (walk_moved p) (field i)
    walk_moved (downcast v ∷ p) = step_moved (walk Γ a p) (walk Δ b p) (walk_moved p) (downcast v)
    walk_moved (index ∷ p) = step_moved a b k index

  -- CARRYING OUT

  -- what a statement does at its place
  act_moved : (w : Verb) → Follows f (act Γ w) (act Δ w)
  act_moved Fold = folding_moved f
  act_moved Unfold = opening_moved

  -- a statement
  carry_moved : (c : Statement) → Follows f (carry Γ c) (carry Δ c)
  unfolding carry
  carry_moved c = walk_moved (act Γ c.verb) (act Δ c.verb) (act_moved c.verb) c.place

  -- on a state
  pub carry_at_moved : (a : At) (E : Forest) → carry_at Δ a (retypes f E) ≡ answer_map (retypes f) (carry_at Γ a E)
  unfolding carry_at
  carry_at_moved a E = nth_moved f (carry Γ a.what) (carry Δ a.what) (carry_moved a.what) a.number E

  -- walked, and no more
  pub walk_at_moved : (q : Spot) (E : Forest) → walk_at Δ q (retypes f E) ≡ answer_map (retypes f) (walk_at Γ q E)
  walk_at_moved q E = nth_moved f _ _ (walk_moved done done (done_moved f) q.place) q.local E

  -- and cast to a variant
  pub cast_at_moved : (q : Spot) (v : ℕ) (E : Forest) → cast_at Δ q v (retypes f E) ≡ answer_map (retypes f) (cast_at Γ q v E)
  unfolding cast_at
  cast_at_moved q v E = nth_moved f _ _ (walk_moved (enter Γ (downcast v)) (enter Δ (downcast v)) (enter_moved (downcast v)) q.place) q.local E
