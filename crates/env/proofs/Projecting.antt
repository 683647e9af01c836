-- The projection in a state: what it records and gives (`projection_unfolds`, `-folds`, `-nothing`), where its walk has ended.
use mathlib.Core.Path.{◌≡◌, refl, sym, ◌∙◌}
use mathlib.Core.Bool.{true, false}
use mathlib.Core.List.{List, [], ◌∷◌, map, map-map}
use Prim.Native.Nat.{ℕ, zero, suc, ◌-◌, ◌<◌}
use native.Mathlib.Nat.{not-suc-le-zero, le_of_suc-le-suc}
use native.Mathlib.Omega.{arith}
use lib.ListN.{length}
use Rattle.model.specs.Answer.{Answer, refused, done, ◌>>=◌}
use Rattle.model.specs.Tree.{Tree, Forest, more, unfolded}
use Rattle.model.specs.Typing.{Fits, fit_none, fit_more}
use Rattle.model.specs.Place.{Place, Spot, Statement, Fold, Unfold, At, later, base}
use Rattle.model.specs.Walk.{nth, pick, walk, folding, reached, changed, passed, project, project_at, projection, fitting, walk_at}
use Rattle.base.specs.Answer.{then_done}
use Rattle.laws.specs.Places.{without_last}
use Rattle.laws.specs.Recorded.{numbered}
use Rattle.walk.proofs.Frames.{put, nth_put}

-- the length of a place without its last element
pub length_without : (p : Place) → length (without_last p) ≡ length p - 1
length_without [] = refl
length_without (e ∷ []) = refl
length_without (e ∷ (d ∷ p)) = omega (arith, length_without (d ∷ p))

-- what is done in the tree number l, in the whole
abbrev pub seated : ℕ → Forest → Tree × List Statement → Answer (Forest × List At)
seated l E r = done (put l r.0 E, map (numbered l) r.1)

-- a state, and what was recorded
abbrev pub with_these : List At → Forest → Answer (Forest × List At)
with_these as' D = done (D, as')

-- IN A TREE

module _ (Γ : List ℕ) (p : Place) (s : Tree) {u : Tree} where
  -- the walk has changed the tree
  project_unfolds : walk Γ done p s ≡ done u → changed Γ p s ≡ true → project Γ p s ≡ done (u, record { verb = Unfold; place = base p; told = passed Γ p s } ∷ [])
  unfolding project
  project_unfolds e c = rw (e, c)

  -- it has not, and has come to an open node
  project_folds : {v : Tree} → walk Γ done p s ≡ done v → changed Γ p s ≡ false → unfolded (reached Γ p s) ≡ true → walk Γ folding p s ≡ done u
      → project Γ p s ≡ done (u, record { verb = Fold; place = p; told = 0 } ∷ [])
  unfolding project
  project_folds e c o f = rw (e, c, o, f)

  -- and to a folded one
  project_nothing : walk Γ done p s ≡ done u → changed Γ p s ≡ false → unfolded (reached Γ p s) ≡ false → project Γ p s ≡ done (u, [])
  unfolding project
  project_nothing e c o = rw (e, c, o)

-- IN A STATE

module _ {Γ : List ℕ} where
  -- a projection in one tree of several
  pub project_at_put : {ts : List ℕ} {E : Forest} → Fits Γ ts E → (l : ℕ) → l < length ts → (p : Place)
      → project_at Γ l p E ≡ project Γ p (pick l E) >>= seated l E
  unfolding project_at
  project_at_put fit_none l h p = absurd (not-suc-le-zero h)
  project_at_put (fit_more g gs) zero h p = refl
  project_at_put (fit_more {s = s} {ss} g gs) (suc l) h p = bound (project Γ p (pick l ss)) (project_at_put gs l (le_of_suc-le-suc h) p)
    where
      passed : Forest × List At → Answer (Forest × List At)
      passed r = done (more s r.0, map later r.1)

      bound : (a : Answer (Tree × List Statement)) → project_at Γ l p ss ≡ a >>= seated l ss → project_at Γ l p ss >>= passed ≡ a >>= seated (suc l) (more s ss)
      bound (refused n) e = cc
      bound (done r) e = cc (map-map later (numbered l) r.1)

  module _ {ts : List ℕ} {E : Forest} (fits : Fits Γ ts E) (q : Spot) (known : q.local < length ts) where
    -- what it does in the tree
    by_tree : (as' : List Statement) (u : Tree) {D : Forest} → project Γ q.place (pick q.local E) ≡ done (u, as') → ◌≡◌ {A = Answer Forest} (done (put q.local u E)) (done D)
        → projection Γ q E ≡ fitting Γ D >>= with_these (map (numbered q.local) as')
    unfolding projection
    by_tree as' u {D} e m =
        let same : put q.local u E ≡ D = cc in
        rw (project_at_put fits q.local known q.place, e, same)

    -- the walk is refused
    pub projection_refused : {n : ℕ} → ((act : Tree → Answer Tree) → walk Γ act q.place (pick q.local E) ≡ refused n) → projection Γ q E ≡ refused n
    unfolding projection project
    projection_refused e = rw (project_at_put fits q.local known q.place, e done)

    -- it has changed the tree
    pub projection_unfolds : {D : Forest} → changed Γ q.place (pick q.local E) ≡ true → walk_at Γ q E ≡ done D
        → projection Γ q E ≡ fitting Γ D >>= with_these (numbered q.local (record { verb = Unfold; place = base q.place; told = passed Γ q.place (pick q.local E) }) ∷ [])
    projection_unfolds c e =
        let (u, k, m) = then_done (walk Γ done q.place (pick q.local E)) (sym (nth_put fits q.local known (walk Γ done q.place)) ∙ e) in
        by_tree (record { verb = Unfold; place = base q.place; told = passed Γ q.place (pick q.local E) } ∷ []) u (project_unfolds Γ q.place (pick q.local E) k c) m

    -- it has not, and has come to an open node
    pub projection_folded : {B D : Forest} → changed Γ q.place (pick q.local E) ≡ false → unfolded (reached Γ q.place (pick q.local E)) ≡ true
        → walk_at Γ q E ≡ done B → nth q.local (walk Γ folding q.place) E ≡ done D
        → projection Γ q E ≡ fitting Γ D >>= with_these (numbered q.local (record { verb = Fold; place = q.place; told = 0 }) ∷ [])
    projection_folded c o b e =
        let (v, j, n) = then_done (walk Γ done q.place (pick q.local E)) (sym (nth_put fits q.local known (walk Γ done q.place)) ∙ b) in
        let (u, k, m) = then_done (walk Γ folding q.place (pick q.local E)) (sym (nth_put fits q.local known (walk Γ folding q.place)) ∙ e) in
        by_tree (record { verb = Fold; place = q.place; told = 0 } ∷ []) u (project_folds Γ q.place (pick q.local E) j c o k) m

    -- and to a folded one
    pub projection_nothing : {D : Forest} → changed Γ q.place (pick q.local E) ≡ false → unfolded (reached Γ q.place (pick q.local E)) ≡ false
        → walk_at Γ q E ≡ done D → projection Γ q E ≡ fitting Γ D >>= with_these []
    projection_nothing c o e =
        let (u, k, m) = then_done (walk Γ done q.place (pick q.local E)) (sym (nth_put fits q.local known (walk Γ done q.place)) ∙ e) in
        by_tree [] u (project_nothing Γ q.place (pick q.local E) k c o) m
