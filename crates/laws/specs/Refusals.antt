-- Which refusals there are: the walk is refused with 5 or 6, Unfold with 7 too, and collecting with 6 or 7.
use Rattle.std.specs.Prelude.{◌≡◌, length, eqb, leb}
use Rattle.std.proofs.Math.Path.{refl}
use mathlib.Core.List.{List, [], ◌∷◌}
use Prim.Native.Nat.{ℕ, zero, suc, ◌<◌}
use Rattle.std.proofs.Common.{arith, eqb-true}
use Rattle.model.specs.Answer.{Answer, done}
use Rattle.model.specs.Types.{pointer, fielded, casts, shut, kind}
use Rattle.model.specs.Tree.{Tree, leaf, node, Forest, nil, more, unfolded, sizes, type}
use Rattle.model.specs.Typing.{fit_none, Fits, fit_more}
use Rattle.model.specs.State.{most}
use Rattle.model.specs.Place.{Elem, deref, field, downcast, index, Place, Verb, Fold, Unfold, Statement, At, Spot, no_index}
use Rattle.model.specs.Walk.{nth, child, inside, enter, step, walk, opening, act, carry, carry_at, pick, walk_at, enum_at, subject_at, fitting, reached, project_at, downcasting, projection, changed, project, cast_at}
use Rattle.model.specs.Collect.{folded, unfolds, unfoldss, collect, collects}
use Rattle.model.specs.Rounds.{elem}
use Rattle.model.specs.Promised.{OneOf}
use Rattle.base.specs.Tests.{split, cond_split}
use Rattle.base.specs.Only.{Only, only_refused, only_done, only_bind, only_require, only_more}
use Rattle.base.specs.Answer.{good_require, good_done, good_bind, good_self, Good}

module _ (ns : List ℕ) (five : OneOf ns 5) where
  -- one tree of several
  nth_only : {f : Tree → Answer Tree} → ((s : Tree) → Only ns (f s)) → (i : ℕ) (ks : Forest) → Only ns (nth i f ks)
  nth_only h i nil = only_refused five
  nth_only h zero (more s ss) = only_bind (h s) (λ u. only_done)
  nth_only h (suc i) (more s ss) = only_bind (nth_only h i ss) (λ us. only_done)

  -- a child
  child_only : {f : Tree → Answer Tree} → ((s : Tree) → Only ns (f s)) → (i : ℕ) (s : Tree) → Only ns (child i f s)
  child_only h i (leaf t) = only_refused five
  child_only h i (node t v ks) = only_bind (nth_only h i ks) (λ us. only_done)

  -- behind an element
  inside_only : {f : Tree → Answer Tree} → ((s : Tree) → Only ns (f s)) → (e : Elem) (s : Tree) → Only ns (inside e f s)
  inside_only h deref s = child_only h 0 s
  inside_only h (field i) s = child_only h i s
  inside_only h (downcast v) s = h s
  inside_only h index s = h s

  module _ (six : OneOf ns 6) (Γ : List ℕ) where
    -- a node opened for an element
    enter_only : (e : Elem) (s : Tree) → Only ns (enter Γ e s)
    unfolding enter
    enter_only deref (leaf t) = cond_split (Only ns) (pointer (kind Γ t)) (λ e. only_done) (λ e. only_refused five)
    enter_only deref (node t v ks) = cond_split (Only ns) (pointer (kind Γ t)) (λ e. only_done) (λ e. only_refused five)
    enter_only (field i) (leaf t) = cond_split (Only ns) (fielded (kind Γ t)) (λ e. only_done) (λ e. only_refused five)
    enter_only (field i) (node t v ks) = cond_split (Only ns) (pointer (kind Γ t)) (λ e. only_refused five) (λ e. only_done)
    enter_only (downcast v) (leaf t) = cond_split (Only ns) (casts Γ t v) (λ e. only_done) (λ e. only_refused five)
    enter_only (downcast v) (node t w ks) = cond_split (Only ns) (casts Γ t v)
        (λ e. cond_split (Only ns) (eqb v w) (λ d. only_done) (λ d. only_refused six))
        (λ e. only_refused five)
    enter_only index (leaf t) = cond_split (Only ns) (eqb (kind Γ t) 4) (λ e. only_done) (λ e. only_refused five)
    enter_only index (node t v ks) = cond_split (Only ns) (eqb (kind Γ t) 4) (λ e. only_done) (λ e. only_refused five)

    -- a step
    step_only : {f : Tree → Answer Tree} → ((s : Tree) → Only ns (f s)) → (e : Elem) (s : Tree) → Only ns (step Γ e f s)
    unfolding step
    step_only h e s = only_bind (enter_only e s) (inside_only h e)

    -- a walk is refused as its steps are
    pub walk_only : {f : Tree → Answer Tree} → ((s : Tree) → Only ns (f s)) → (q : Place) (s : Tree) → Only ns (walk Γ f q s)
    unfolding walk
    walk_only h [] s = h s
    walk_only h (deref ∷ q) s = step_only (walk_only h q) deref s
    walk_only h (field i ∷ q) s = step_only (walk_only h q) (field i) s
    walk_only h (downcast v ∷ q) s = step_only (walk_only h q) (downcast v) s
    walk_only h (index ∷ q) s = step_only h index s

    -- a place used
    project_only : (q : Place) (s : Tree) → Only ns (project Γ q s)
    unfolding project
    project_only q s = only_bind (walk_only (λ u. only_done) q s) (λ u. cond_split (Only ns) (changed Γ q s) (λ e. only_done)
        (λ e. cond_split (Only ns) (unfolded (reached Γ q s))
        (λ d. only_bind (walk_only (λ w. only_done) q s) (λ w. only_done))
        (λ d. only_done)))

    -- of a local that there is
    project_at_only : (i : ℕ) (q : Place) {ts : List ℕ} {E : Forest} → Fits Γ ts E → i < length ts → Only ns (project_at Γ i q E)
    unfolding project_at
    project_at_only i q fit_none l = absurd (omega arith)
    project_at_only zero q (fit_more {s} f fs) l = only_bind (project_only q s) (λ r. only_done)
    project_at_only (suc i) q (fit_more f fs) l = only_bind (project_at_only i q fs (omega arith)) (λ r. only_done)

-- the numbers of a walk
abbrev pub walking : List ℕ
walking = 5 ∷ 6 ∷ []

-- of what a run does with a state
abbrev pub running : List ℕ
running = 5 ∷ 6 ∷ 9 ∷ []

-- of a statement carried out
abbrev pub carrying : List ℕ
carrying = 5 ∷ 6 ∷ 7 ∷ []

-- of collecting
abbrev pub collecting : List ℕ
collecting = 6 ∷ 7 ∷ []

module _ (Γ : List ℕ) where
  -- a walk
  pub walk_refusals : (q : Place) (s : Tree) → Only walking (walk Γ done q s)
  unfolding elem
  walk_refusals q s = walk_only walking refl refl Γ (λ u. only_done) q s

  -- the test of a result
  pub fitting_refusals : (E : Forest) → Only (9 ∷ []) (fitting Γ E)
  unfolding fitting elem
  fitting_refusals E = only_require (9 ∷ []) (leb (sizes E) most) 9 (λ _. done E) refl (λ b. only_done)

  -- a place used
  pub projection_refusals : (q : Spot) {ts : List ℕ} {E : Forest} → Fits Γ ts E → q.local < length ts → Only running (projection Γ q E)
  unfolding projection elem
  projection_refusals q f l = only_bind (project_at_only running refl refl Γ q.local q.place f l)
      (λ r. only_bind (only_more refl (fitting_refusals r.0)) (λ D. only_done))

  -- a match arm
  pub cast_refusals : (q : Spot) (v : ℕ) (E : Forest) → Only walking (cast_at Γ q v E)
  unfolding cast_at elem
  cast_refusals q v E = nth_only walking refl (walk_only walking refl refl Γ (enter_only walking refl refl Γ (downcast v)) q.place) q.local E

  -- the same within 512 nodes
  pub downcasting_refusals : (q : Spot) (v : ℕ) (E : Forest) → Only running (downcasting Γ q v E)
  unfolding downcasting elem
  downcasting_refusals q v E = only_bind (only_more refl (cast_refusals q v E)) (λ D. only_more refl (fitting_refusals D))

  -- the type of a place that is matched on: an enum's
  pub enum_kind : (q : Spot) (E : Forest) → Good (λ t. kind Γ t ≡ 7) (enum_at Γ q E)
  unfolding enum_at
  enum_kind q E =
      let t = type (reached Γ q.place (pick q.local E)) in
      good_bind (good_self (walk_at Γ q E)) (λ D e.
      good_require _ (eqb (kind Γ t) 7) 5 (λ _. done t) (λ d. good_done (eqb-true (kind Γ t) 7 d)))

  -- and the refusals of looking for it
  pub enum_refusals : (q : Spot) (E : Forest) → Only walking (enum_at Γ q E)
  unfolding enum_at elem
  enum_refusals q E =
      let t = type (reached Γ q.place (pick q.local E)) in
      only_bind (nth_only walking refl (walk_refusals q.place) q.local E) (λ D. only_require walking (eqb (kind Γ t) 7) 5 (λ _. done t) refl (λ b. only_done))

  -- and of looking for what a match is on
  pub subject_refusals : (q : Spot) (E : Forest) → Only walking (subject_at Γ q E)
  unfolding subject_at elem
  subject_refusals q E = split (no_index q.place)
      (λ i. rw (i, subject_at) (only_bind (enum_refusals q E) (λ t. only_done)))
      (λ i. rw (i, subject_at) (only_bind (nth_only walking refl (walk_refusals q.place) q.local E) (λ D. only_done)))

  -- to open
  opening_only : (s : Tree) → Only carrying (opening Γ s)
  unfolding opening elem
  opening_only (leaf t) = cond_split (Only carrying) (shut (kind Γ t)) (λ e. only_refused refl)
      (λ e. cond_split (Only carrying) (eqb (kind Γ t) 7) (λ d. only_refused refl) (λ d. only_done))
  opening_only (node t v ns) = only_done

  -- what a statement does at the place
  act_only : (w : Verb) (s : Tree) → Only carrying (act Γ w s)
  act_only Fold s = only_done
  act_only Unfold s = opening_only s

  -- a statement carried out
  pub carry_refusals : (c : Statement) (s : Tree) → Only carrying (carry Γ c s)
  unfolding carry elem
  carry_refusals c s = walk_only carrying refl refl Γ (act_only c.verb) c.place s

  -- on one of several trees
  pub carry_at_refusals : (a : At) (E : Forest) → Only carrying (carry_at Γ a E)
  unfolding carry_at elem
  carry_at_refusals a E = nth_only carrying refl (carry_refusals a.what) a.number E

  -- a fold is refused as its walk is
  pub fold_refusals : (a : At) (E : Forest) → a.what.verb ≡ Fold → Only walking (carry_at Γ a E)
  unfolding carry_at carry elem
  fold_refusals a E e = nth_only walking refl (λ s. rw e (walk_only walking refl refl Γ (λ u. only_done) a.what.place s)) a.number E

module _ (Γ : List ℕ) where
  -- what opens a folded tree
  mutual
    unfolding unfolds elem

    pub unfolds_refusals : (e : Tree) → Only collecting (unfolds Γ e)
    unfolds_refusals (leaf t) = only_done
    unfolds_refusals (node t v ns) = cond_split (Only collecting) (folded ns)
        (λ e. cond_split (Only collecting) (eqb (kind Γ t) 7) (λ d. only_refused refl) (λ d. only_done))
        (λ e. only_bind (unfoldss_refusals ns) (λ a. only_done))

    pub unfoldss_refusals : (es : Forest) → Only collecting (unfoldss Γ es)
    unfoldss_refusals nil = only_done
    unfoldss_refusals (more e es) = only_bind (unfolds_refusals e) (λ a. only_bind (unfoldss_refusals es) (λ b. only_done))

  -- collecting
  mutual
    unfolding collect elem

    pub collect_refusals : (s e : Tree) → Only collecting (collect Γ s e)
    collect_refusals (leaf t) e = unfolds_refusals e
    collect_refusals (node t v ns) (leaf u) = only_done
    collect_refusals (node t v ns) (node u w ms) = cond_split (Only collecting) (eqb v w)
        (λ e. only_bind (collects_refusals ns ms) (λ a. only_done))
        (λ e. only_refused refl)

    pub collects_refusals : (ss es : Forest) → Only collecting (collects Γ ss es)
    collects_refusals nil es = only_done
    collects_refusals (more s ss) nil = only_done
    collects_refusals (more s ss) (more e es) = only_bind (collect_refusals s e) (λ a. only_bind (collects_refusals ss es) (λ b. only_done))
