-- What a projection records: Unfold of the walked place without its last element, Fold of the whole place, or nothing.
use Rattle.std.specs.Prelude.{◌≡◌, refl, cond}
use Rattle.std.proofs.Common.{◌∙◌, ap}
use Rattle.std.proofs.Math.Bool.{true}
use mathlib.Core.List.{List, [], ◌∷◌, map}
use Prim.Native.Nat.{ℕ, zero, suc}
use Rattle.model.specs.Answer.{done}
use Rattle.model.specs.Tree.{unfolded, nil, more, Tree, Forest}
use Rattle.model.specs.Place.{first, walked, base, later, Fold, Spot, At, Statement, Unfold, Place}
use Rattle.model.specs.Walk.{project, walk, project_at, projection, changed, folding, pick, reached, passed}
use Rattle.base.specs.Answer.{good_refused, good_cond, good_bind, good_done, Good, good_self}
use Rattle.laws.specs.Places.{without_last, base_walked}
use Rattle.laws.specs.Projected.{changed_goes}
use Rattle.laws.specs.Projection.{fitting_law}

-- a statement on the tree number i
abbrev pub numbered : ℕ → Statement → At
numbered i c = record { number = i; what = c }

-- statements on the tree number i, among one tree more
map_later : (i : ℕ) (l : List Statement) → map later (map (numbered i) l) ≡ map (numbered (suc i)) l
map_later i [] = refl
map_later i (c ∷ l) = cc (map_later i l)

module _ (Γ : List ℕ) where
  -- what is recorded, by the walk's two flags
  abbrev pub recording : Place → Tree → List Statement
  recording p s = cond (changed Γ p s) (record { verb = Unfold; place = base p; told = passed Γ p s } ∷ [])
      (cond (unfolded (reached Γ p s)) (record { verb = Fold; place = p; told = 0 } ∷ []) [])

  -- after a change: Unfold of the walked place without its last element
  pub recording_unfold : (p : Place) (s : Tree) → changed Γ p s ≡ true
      → recording p s ≡ record { verb = Unfold; place = without_last (walked p); told = passed Γ p s } ∷ []
  recording_unfold p s e = cc (base_walked p (changed_goes Γ p s e))

  -- of one tree
  pub project_recording : (p : Place) (s : Tree) → Good (λ r. r.1 ≡ recording p s) (project Γ p s)
  unfolding project
  project_recording p s = good_bind (good_self (walk Γ done p s)) (λ u q. good_cond _ (changed Γ p s)
      (λ e. good_done (cc))
      (λ e. good_cond _ (unfolded (reached Γ p s))
      (λ d. good_bind (good_self (walk Γ folding p s)) (λ w c. good_done (cc)))
      (λ d. good_done (cc))))

  -- of one of several trees
  project_at_recording : (i : ℕ) (p : Place) (E : Forest) → Good (λ r. r.1 ≡ map (numbered i) (recording p (pick i E))) (project_at Γ i p E)
  unfolding project_at
  project_at_recording i p nil = good_refused
  project_at_recording zero p (more s ss) = good_bind (project_recording p s) (λ r e. good_done (ap (map first) e))
  project_at_recording (suc i) p (more s ss) = good_bind (project_at_recording i p ss)
      (λ r e. good_done (ap (map later) e ∙ map_later i (recording p (pick i ss))))

  -- and of a state
  pub projection_recording : (q : Spot) (E : Forest)
      → Good (λ r. r.1 ≡ map (numbered q.local) (recording q.place (pick q.local E))) (projection Γ q E)
  unfolding projection
  projection_recording q E = good_bind (project_at_recording q.local q.place E) (λ r e. good_bind (fitting_law Γ r.0) (λ D k. good_done e))
