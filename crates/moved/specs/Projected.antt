-- The flags of a walk that is accepted, and the node reached, go along with moved types; so does a place used, and what a match is on.
use Rattle.std.specs.Prelude.{◌≡◌, true, eqb, leb}
use Rattle.std.proofs.Math.Path.{refl}
use mathlib.Core.List.{List, [], ◌∷◌}
use Rattle.std.proofs.Math.Option.{some, map}
use Prim.Native.Nat.{ℕ, zero, suc}
use Rattle.model.specs.Answer.{Answer, done, ◌>>=◌}
use Rattle.model.specs.Types.{kind, pointer, fielded, casts}
use Rattle.model.specs.Tree.{Tree, leaf, node, Forest, nil, more, sizes, type, unfolded}
use Rattle.model.specs.State.{most}
use Rattle.model.specs.Place.{Elem, deref, field, downcast, index, Place, Spot, no_index}
use Rattle.model.specs.Walk.{nth, child, enter, step, folding, walk, pick, branch, wide, next, reached, changed, passed, project, project_at, fitting, projection, cast_at, downcasting, walk_at, enum_at, subject_at}
use Rattle.base.specs.Tests.{split}
use Rattle.base.specs.Answer.{split_answer, Good, good_refused, good_done, good_bind, good_cond, good_at, good_self, good_same, good_and, answer_map}
use Rattle.laws.specs.Steps.{moves, step_law, nth_law, swap_old}
use Rattle.laws.specs.Refusals.{enum_kind}
use Rattle.moved.specs.Moves.{Moves}
use Rattle.moved.specs.Retyped.{retype, retypes, type_moved, unfolded_moved, sizes_moved}
use Rattle.moved.specs.Walked.{done_moved, folding_moved, opened_pointer, opened_fielded, opened_cast, walk_moved, walk_at_moved, cast_at_moved}

-- a value with another beside it that stays
abbrev pub first_map : {A B C : Type 0} → (A → B) → A × C → B × C
first_map h r = (h r.0, r.1)

-- WHERE AN ELEMENT LEADS

module _ (f : ℕ → ℕ) (g : Tree → Answer Tree) where
  -- the tree number i, if there is one
  pick_moved : (i : ℕ) (ss : Forest) → Good (λ us. pick i (retypes f ss) ≡ retype f (pick i ss)) (nth i g ss)
  unfolding retype
  pick_moved i nil = good_refused
  pick_moved zero (more s ss) = good_bind (good_self (g s)) (λ u e. good_done refl)
  pick_moved (suc i) (more s ss) = good_bind (pick_moved i ss) (λ us e. good_done e)

  -- the child number i
  branch_moved : (i : ℕ) (s : Tree) → Good (λ u. branch i (retype f s) ≡ retype f (branch i s)) (child i g s)
  unfolding retype
  branch_moved i (leaf t) = good_refused
  branch_moved i (node t v ns) = good_bind (pick_moved i ns) (λ us e. good_done e)

module _ {f : ℕ → ℕ} {Γ Δ : List ℕ} (h : Moves f Γ Δ) where
  -- n is the tree s, opened at the variant v, and so it is where the types are moved
  record Opens (v : ℕ) (s n : Tree) : Type 0 where
    here : wide Γ v s ≡ n
    there : wide Δ v (retype f s) ≡ retype f n

  -- for a pointee
  wide_deref : (s : Tree) → Good (Opens 0 s) (enter Γ deref s)
  unfolding enter wide retype
  wide_deref (leaf t) = good_cond _ (pointer (kind Γ t)) (λ e. good_done (record { here = refl; there = opened_pointer h t e })) (λ e. good_refused)
  wide_deref (node t v ns) = good_cond _ (pointer (kind Γ t)) (λ e. good_done (record { here = refl; there = refl })) (λ e. good_refused)

  -- for a field
  wide_field : (i : ℕ) (s : Tree) → Good (Opens 0 s) (enter Γ (field i) s)
  unfolding enter wide retype
  wide_field i (leaf t) = good_cond _ (fielded (kind Γ t)) (λ e. good_done (record { here = refl; there = opened_fielded h t e })) (λ e. good_refused)
  wide_field i (node t v ns) = good_cond _ (pointer (kind Γ t)) (λ e. good_refused) (λ e. good_done (record { here = refl; there = refl }))

  -- for a variant
  wide_cast : (v : ℕ) (s : Tree) → Good (Opens v s) (enter Γ (downcast v) s)
  unfolding enter wide retype
  wide_cast v (leaf t) = good_cond _ (casts Γ t v) (λ e. good_done (record { here = refl; there = opened_cast h t v e })) (λ e. good_refused)
  wide_cast v (node t w ns) = good_cond _ (casts Γ t v)
      (λ e. good_cond _ (eqb v w) (λ d. good_done (record { here = refl; there = refl })) (λ d. good_refused))
      (λ e. good_refused)

  -- so where it leads
  next_moved : (e : Elem) (g : Tree → Answer Tree) (s : Tree)
      → Good (λ u. next Δ e (retype f s) ≡ retype f (next Γ e s)) (step Γ e g s)
  unfolding step
  next_moved deref g s = good_bind (wide_deref s) (λ n o. good_same (λ u k. cc (o.here, o.there)) (branch_moved f g 0 n))
  next_moved (field i) g s = good_bind (wide_field i s) (λ n o. good_same (λ u k. cc (o.here, o.there)) (branch_moved f g i n))
  next_moved (downcast v) g s = good_bind (wide_cast v s) (λ n o. good_same (λ u k. cc (o.here, o.there)) (good_self (g n)))
  next_moved index g s = good_same (λ u k. refl) (good_self (enter Γ index s >>= g))

  -- THE WALK'S FLAGS

  -- the node reached and the flags of a walk
  pub record SameWalk (p : Place) (s : Tree) : Type 0 where
    pub reaches : reached Δ p (retype f s) ≡ retype f (reached Γ p s)
    pub changes : changed Δ p (retype f s) ≡ changed Γ p s
    pub passes : passed Δ p (retype f s) ≡ passed Γ p s

  -- to a child, and on from there
  same_child : (e : Elem) → moves e ≡ true → (p : Place) → ((x : Tree) → Good (λ y. SameWalk p x) (walk Γ done p x)) → (s : Tree)
      → Good (λ u. (next Δ e (retype f s) ≡ retype f (next Γ e s)) × SameWalk p (next Γ e s)) (step Γ e (walk Γ done p) s)
  same_child e m p k s = good_same (λ u c. (c.0, rw c.1.old c.1.rel)) (good_and (next_moved e (walk Γ done p) s) (step_law Γ e m k s))

  -- of every walk that is accepted
  same_walk : (p : Place) (s : Tree) → Good (λ u. SameWalk p s) (walk Γ done p s)
  unfolding walk step reached changed passed
  same_walk [] s = good_done (record { reaches = refl; changes = refl; passes = refl })
  same_walk (deref ∷ p) s = good_same
      (λ u c. record { reaches = cc (c.0, c.1.reaches); changes = cc (c.0, c.1.changes, unfolded_moved f s); passes = cc (c.0, c.1.passes, unfolded_moved f s) })
      (same_child deref refl p (same_walk p) s)
  same_walk (field i ∷ p) s = good_same
      (λ u c. record { reaches = cc (c.0, c.1.reaches); changes = cc (c.0, c.1.changes, unfolded_moved f s); passes = cc (c.0, c.1.passes, unfolded_moved f s) })
      (same_child (field i) refl p (same_walk p) s)
  same_walk (downcast v ∷ p) s = good_bind (wide_cast v s) (λ n o. good_same
      (λ u c. record { reaches = cc (o.here, o.there, c.reaches); changes = cc (o.here, o.there, c.changes, unfolded_moved f s); passes = cc (o.here, o.there, c.passes, unfolded_moved f s) })
      (same_walk p n))
  same_walk (index ∷ p) s = good_same (λ u e. record { reaches = refl; changes = refl; passes = refl }) (good_self (step Γ index done s))

  -- of a place of a state
  record Found (q : Spot) (E : Forest) : Type 0 where
    picks : pick q.local (retypes f E) ≡ retype f (pick q.local E)
    same : SameWalk q.place (pick q.local E)

  -- where it is walked
  walk_found : (q : Spot) (E : Forest) → Good (λ D. Found q E) (walk_at Γ q E)
  walk_found q E = good_same (λ D k. record { picks = k.0; same = rw (swap_old k.1.3) k.1.2 })
      (good_and (pick_moved f (walk Γ done q.place) q.local E) (nth_law (same_walk q.place) q.local E))

  -- THE PROJECTION

  -- of a tree
  project_moved : (p : Place) (s : Tree) → project Δ p (retype f s) ≡ answer_map (first_map (retype f)) (project Γ p s)
  unfolding project
  project_moved p s =
      let w = walk_moved h done done (done_moved f) p s in
      let z = walk_moved h folding folding (folding_moved f) p s in
      split_answer (walk Γ done p s)
      (λ r e. cc)
      (λ u e.
      let k = good_at (same_walk p s) e in
      let o = unfolded_moved f (reached Γ p s) in
      split (changed Γ p s)
      (λ c. cc (k.changes, k.passes))
      (λ c. split (unfolded (reached Γ p s))
      (λ d. split_answer (walk Γ folding p s) (λ r b. cc (k.changes, k.reaches)) (λ y b. cc (k.changes, k.reaches)))
      (λ d. cc (k.changes, k.reaches))))

  -- of a state
  project_at_moved : (i : ℕ) (p : Place) (E : Forest) → project_at Δ i p (retypes f E) ≡ answer_map (first_map (retypes f)) (project_at Γ i p E)
  unfolding project_at retype
  project_at_moved i p nil = refl
  project_at_moved zero p (more s ss) = split_answer (project Γ p s) (λ r e. cc (project_moved p s)) (λ u e. cc (project_moved p s))
  project_at_moved (suc i) p (more s ss) = split_answer (project_at Γ i p ss)
      (λ r e. cc (project_at_moved i p ss))
      (λ u e. cc (project_at_moved i p ss))

  -- IN A RUN

  -- the test of the nodes
  fitting_moved : (E : Forest) → fitting Δ (retypes f E) ≡ answer_map (retypes f) (fitting Γ E)
  unfolding fitting
  fitting_moved E = split (leb (sizes E) most) (λ e. cc (sizes_moved f E)) (λ e. cc (sizes_moved f E))

  -- a place is used
  pub projection_moved : (q : Spot) (E : Forest) → projection Δ q (retypes f E) ≡ answer_map (first_map (retypes f)) (projection Γ q E)
  unfolding projection
  projection_moved q E =
      let w = project_at_moved q.local q.place E in
      split_answer (project_at Γ q.local q.place E)
      (λ r e. cc)
      (λ x e. split_answer (fitting Γ x.0) (λ r d. cc (fitting_moved x.0)) (λ D d. cc (fitting_moved x.0)))

  -- a match arm's unfolding
  pub downcasting_moved : (q : Spot) (v : ℕ) (E : Forest) → downcasting Δ q v (retypes f E) ≡ answer_map (retypes f) (downcasting Γ q v E)
  unfolding downcasting
  downcasting_moved q v E =
      let w = cast_at_moved h q v E in
      split_answer (cast_at Γ q v E) (λ r e. cc) (λ D e. cc (fitting_moved D))

  -- WHAT A MATCH IS ON

  -- the enum, whose number is moved
  enum_at_moved : (q : Spot) (E : Forest) → enum_at Δ q (retypes f E) ≡ answer_map f (enum_at Γ q E)
  unfolding enum_at
  enum_at_moved q E =
      let w = walk_at_moved h q E in
      split_answer (walk_at Γ q E)
      (λ r e. cc)
      (λ D e.
      let k = good_at (walk_found q E) e in
      let s = reached Γ q.place (pick q.local E) in
      let y = k.same.reaches in
      split (eqb (kind Γ (type s)) 7)
      (λ c. cc (k.picks, type_moved f s, h.kinds (type s)))
      (λ c. cc (k.picks, type_moved f s, h.kinds (type s))))

  -- or an array's element
  pub subject_at_moved : (q : Spot) (E : Forest) → subject_at Δ q (retypes f E) ≡ answer_map (map f) (subject_at Γ q E)
  unfolding subject_at
  subject_at_moved q E = split (no_index q.place)
      (λ c. let w = enum_at_moved q E in split_answer (enum_at Γ q E) (λ r e. cc) (λ t e. cc))
      (λ c. let w = walk_at_moved h q E in split_answer (walk_at Γ q E) (λ r e. cc) (λ D e. cc))

-- a match is on an enum, if it is on a type at all
pub subject_at_kind : (Γ : List ℕ) (q : Spot) (E : Forest) → Good (λ o. (t : ℕ) → o ≡ some t → kind Γ t ≡ 7) (subject_at Γ q E)
unfolding subject_at
subject_at_kind Γ q E = split (no_index q.place)
    (λ c. rw (c, subject_at) (good_bind (enum_kind Γ q E) (λ t k. good_done (λ u e. cc))))
    (λ c. rw (c, subject_at) (good_bind (good_self (walk_at Γ q E)) (λ D k. good_done (λ u e. cc))))
