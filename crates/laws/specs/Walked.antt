-- The walk keeps the type (Fit), and so does all that is made of it: statements, and a match arm, which is
-- `walk_fit (enter_fit (downcast v)) p`. The projection is in Projection.
use Rattle.std.specs.Prelude.{◌≡◌, true, ℕ, zero, suc, eqb}
use mathlib.Core.List.{List, [], ◌∷◌}
use Rattle.std.proofs.Common.{arith}
use borrow.Author.Tests.{eqb-true, ltb-true, eqb-false}
use Rattle.model.specs.Answer.{Answer}
use Rattle.model.specs.Types.{pointer, fielded, casts, kids, count, shut, kind}
use Rattle.model.specs.Tree.{Tree, Forest}
use Rattle.model.specs.Typing.{Openable, Fit, Fits, fit_leaf, fit_node, fit_none, fit_more}
use Rattle.model.specs.Place.{Elem, deref, field, downcast, index, Place, Verb, Fold, Unfold, Statement, At}
use Rattle.model.specs.Walk.{nth, child, inside, enter, opened, step, walk, opening, folding, act, carry, carry_at, carries_at}
use Rattle.base.specs.Tests.{split, and_left, and_right}
use Rattle.base.specs.Answer.{Good, good_refused, good_done, good_bind, good_cond, run_keeps}
use Rattle.base.specs.Kinds.{pointer_not_shut, pointer_not_enum, fielded_not_shut, fielded_not_enum, openable_by, openable_zero}
use Rattle.laws.specs.Typing.{fits_leaves}

module _ (Γ : List ℕ) where
  -- what can be cast to a variant may be open at it
  pub openable_cast : (t v : ℕ) → casts Γ t v ≡ true → Openable Γ t v
  unfolding casts shut
  openable_cast t v e = split (eqb (kind Γ t) 7)
      (λ d.
      let h = eqb-true (kind Γ t) 7 d in
      openable_by (cc) (λ n. absurd (n h)) (λ r. ltb-true v (count Γ t) (rw d at e)))
      (λ d.
      let c = rw d at e in
      let h = eqb-true (kind Γ t) 6 (and_left (eqb (kind Γ t) 6) (eqb v 0) c) in
      openable_by (cc) (λ n. eqb-true v 0 (and_right (eqb (kind Γ t) 6) (eqb v 0) c)) (λ r. absurd (omega arith)))

  -- what keeps the type of a tree keeps it below an element
  abbrev pub Keeps : (Tree → Answer Tree) → Type 0
  Keeps f = (t : ℕ) (s : Tree) → Fit Γ t s → Good (Fit Γ t) (f s)

  -- on one tree of several
  pub nth_fit : {f : Tree → Answer Tree} → Keeps f → (i : ℕ) {ts : List ℕ} {ns : Forest} → Fits Γ ts ns → Good (Fits Γ ts) (nth i f ns)
  nth_fit h i fit_none = good_refused
  nth_fit h zero (fit_more {t} {s} f fs) = good_bind (h t s f) (λ u g. good_done (fit_more g fs))
  nth_fit h (suc i) (fit_more f fs) = good_bind (nth_fit h i fs) (λ us gs. good_done (fit_more f gs))

  -- at a child
  child_fit : {f : Tree → Answer Tree} → Keeps f → (i : ℕ) → Keeps (child i f)
  child_fit h i t s fit_leaf = good_refused
  child_fit h i t s (fit_node o fs) = good_bind (nth_fit h i fs) (λ us gs. good_done (fit_node o gs))

  -- behind an element
  inside_fit : {f : Tree → Answer Tree} → Keeps f → (e : Elem) → Keeps (inside e f)
  inside_fit h deref = child_fit h 0
  inside_fit h (field i) = child_fit h i
  inside_fit h (downcast v) = h
  inside_fit h index = h

  -- a node opened one level
  pub opened_fit : {t v : ℕ} → Openable Γ t v → Fit Γ t (opened Γ t v)
  unfolding opened
  opened_fit {t} {v} o = fit_node o (fits_leaves (kids Γ t v))

  -- a node opened for an element
  pub enter_fit : (e : Elem) → Keeps (enter Γ e)
  unfolding enter pointer fielded
  enter_fit deref t s fit_leaf = good_cond _ (pointer (kind Γ t)) (λ e. good_done (opened_fit (openable_zero t (pointer_not_shut (kind Γ t) e) (pointer_not_enum (kind Γ t) e)))) (λ e. good_refused)
  enter_fit deref t s (fit_node o fs) = good_cond _ (pointer (kind Γ t)) (λ e. good_done (fit_node o fs)) (λ e. good_refused)
  enter_fit (field i) t s fit_leaf = good_cond _ (fielded (kind Γ t)) (λ e. good_done (opened_fit (openable_zero t (fielded_not_shut (kind Γ t) e) (fielded_not_enum (kind Γ t) e)))) (λ e. good_refused)
  enter_fit (field i) t s (fit_node o fs) = good_cond _ (pointer (kind Γ t)) (λ e. good_refused) (λ e. good_done (fit_node o fs))
  enter_fit (downcast v) t s fit_leaf = good_cond _ (casts Γ t v) (λ e. good_done (opened_fit (openable_cast t v e))) (λ e. good_refused)
  enter_fit (downcast v) t s (fit_node {v = w} o fs) = good_cond _ (casts Γ t v)
      (λ e. good_cond _ (eqb v w) (λ d. good_done (fit_node o fs)) (λ d. good_refused))
      (λ e. good_refused)
  enter_fit index t s fit_leaf = good_cond _ (eqb (kind Γ t) 4) (λ e. good_done fit_leaf) (λ e. good_refused)
  enter_fit index t s (fit_node o fs) = good_cond _ (eqb (kind Γ t) 4) (λ e. good_done (fit_node o fs)) (λ e. good_refused)

  -- a step
  step_fit : (e : Elem) {f : Tree → Answer Tree} → Keeps f → Keeps (step Γ e f)
  unfolding step
  step_fit e h t s g = good_bind (enter_fit e t s g) (λ n k. inside_fit h e t n k)

  -- a walk
  pub walk_fit : {f : Tree → Answer Tree} → Keeps f → (p : Place) → Keeps (walk Γ f p)
  unfolding walk
  walk_fit h [] = h
  walk_fit h (deref ∷ p) = step_fit deref (walk_fit h p)
  walk_fit h (field i ∷ p) = step_fit (field i) (walk_fit h p)
  walk_fit h (downcast v ∷ p) = step_fit (downcast v) (walk_fit h p)
  walk_fit h (index ∷ p) = step_fit index h

  -- to fold, and to open
  pub folding_fit : Keeps folding
  folding_fit t s fit_leaf = good_done fit_leaf
  folding_fit t s (fit_node o fs) = good_done fit_leaf

  -- to open
  pub opening_fit : Keeps (opening Γ)
  unfolding opening
  opening_fit t s fit_leaf = good_cond _ (shut (kind Γ t)) (λ e. good_refused) (λ e. good_cond _ (eqb (kind Γ t) 7) (λ d. good_refused)
      (λ d. good_done (opened_fit (openable_zero t e (eqb-false (kind Γ t) 7 d)))))
  opening_fit t s (fit_node o fs) = good_done (fit_node o fs)

  -- what a statement does at the place
  act_fit : (w : Verb) → Keeps (act Γ w)
  act_fit Fold = folding_fit
  act_fit Unfold = opening_fit

  -- a statement
  pub carry_fit : (c : Statement) → Keeps (carry Γ c)
  unfolding carry
  carry_fit c = walk_fit (act_fit c.verb) c.place

  -- a list of statements, on a state
  pub carries_at_fit : (a : List At) {ts : List ℕ} {ss : Forest} → Fits Γ ts ss → Good (Fits Γ ts) (carries_at Γ a ss)
  unfolding carry_at
  carries_at_fit a {ss} g = run_keeps (λ c us k. nth_fit (carry_fit c.what) c.number k) a ss g
