-- The frame of an accepted function meets what the theorems on the passes ask, given what is asked of the trees.
use Rattle.std.specs.Prelude.{◌≡◌, refl, true, List, [], ℕ}
use Rattle.std.proofs.Common.{◌∙◌}
use Rattle.std.proofs.Math.Path.{subst₂}
use Rattle.model.specs.Answer.{done}
use Rattle.model.specs.Tree.{Forest}
use Rattle.model.specs.Place.{Spot, At, used_ok}
use Rattle.model.specs.Walk.{projection}
use Rattle.model.specs.Function.{nlocals}
use Rattle.model.specs.Block.{places_ok}
use Rattle.model.specs.Frame.{carries}
use Rattle.model.specs.Body.{enter_uses, frame}
use Rattle.base.specs.Answer.{then_done}
use Rattle.base.specs.Each.{Each, each_none, each_more}
use Rattle.base.specs.Function.{FunctionFacts}
use Rattle.solver.specs.Lists.{Has}
use Rattle.solver.specs.Laws.{Good}
use Rattle.solver.specs.Demand.{carries_append}
use Rattle.graph.specs.Trees.{small_good, Trees}
use Rattle.graph.specs.Through.{same_parts}
use Rattle.graph.specs.Bridge.{carries_same}

-- nothing stands in an empty list
pub no_member : {P A : Type 0} {a : A} → Has a [] → P
no_member = elim [ ]

module _ {Γ fn : List ℕ} (A : FunctionFacts fn) (P : places_ok fn ≡ true) {Ok : Forest → Type 0} (T : Trees Γ fn Ok) where
  -- THE ENTRY: its statements lead to the state that its uses leave
  pub entry_enters : {qs : List Spot} → Each (λ q. used_ok (nlocals fn) q ≡ true) qs → (E : Forest) {D : Forest} {ts : List At} → Good (frame Γ fn) Ok E
      → enter_uses Γ qs E ≡ done (D, ts) → (carries (frame Γ fn) ts E ≡ done D) × Good (frame Γ fn) Ok D
  unfolding enter_uses carries
  entry_enters each_none E g e =
      let (z, y) = same_parts e in
      subst₂ (λ us M. (carries (frame Γ fn) us E ≡ done M) × Good (frame Γ fn) Ok M) y z (refl, g)
  entry_enters (each_more {a = q} {l = qs} u us) E g e =
      let (r, p, d) = then_done (projection Γ q E) e in
      let (w, v, c) = then_done (enter_uses Γ qs r.0) d in
      let (z, y) = same_parts c in
      let J = T.projects q E u g p in
      let (k, h) = entry_enters us r.0 (small_good Γ fn J.ok J.small) v in
      let s = carries_append (frame Γ fn) r.1 w.1 E (carries_same Γ fn r.1 E ∙ J.carried) in
      subst₂ (λ us M. (carries (frame Γ fn) us E ≡ done M) × Good (frame Γ fn) Ok M) y z (s ∙ k, h)
