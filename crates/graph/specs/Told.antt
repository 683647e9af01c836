-- What the numbers beside a statement record say (document 02, F-4), given what is asked of the trees: of each place used at the entry, and
-- of each used in a block, in the state in which the replay comes to it.
use Rattle.std.specs.Prelude.{◌≡◌, refl, true, ℕ, length, replicate}
use Rattle.std.proofs.Common.{sym}
use Rattle.std.proofs.Math.Path.{subst}
use mathlib.Core.List.{List, [], ◌∷◌, ◌++◌, map, append_assoc}
use Rattle.model.specs.Answer.{done}
use Rattle.model.specs.Tree.{Forest, leaves}
use Rattle.model.specs.Place.{Spot, At, dash, used_ok}
use Rattle.model.specs.Walk.{projection}
use Rattle.model.specs.Function.{nlocals, local_types}
use Rattle.model.specs.Block.{places_ok}
use Rattle.model.specs.Body.{enter_uses, frame}
use Rattle.model.specs.Told.{TellsEntry, entry_end, entry_on}
use Rattle.base.specs.Answer.{then_done}
use Rattle.base.specs.Each.{Each, each_none, each_more}
use Rattle.base.specs.Function.{FunctionFacts}
use Rattle.solver.specs.Laws.{Good, Lattice, Collects}
use Rattle.graph.specs.Trees.{small_good, Trees}
use Rattle.graph.specs.Through.{same_parts}

-- each tells a dash: so they do in a row
dashes : {ts : List At} → Each (λ a. a.what.told ≡ dash) ts → map (λ a. a.what.told) ts ≡ replicate (length ts) dash
dashes each_none = refl
dashes (each_more e es) = cc (dashes es)

module _ {Γ fn : List ℕ} (A : FunctionFacts fn) (P : places_ok fn ≡ true) {Ok : Forest → Type 0} (T : Trees Γ fn Ok)
    (L : Lattice (frame Γ fn) Ok) (C : Collects (frame Γ fn) Ok) (folded : Good (frame Γ fn) Ok (leaves (local_types fn))) where
  -- the entry's uses, and behind them what is collected
  pub entry_tells : {qs : List Spot} → Each (λ q. used_ok (nlocals fn) q ≡ true) qs → (E : Forest) {D : Forest} {ts : List At} → Good (frame Γ fn) Ok E
      → enter_uses Γ qs E ≡ done (D, ts) → {us : List At} → Each (λ a. a.what.told ≡ dash) us → TellsEntry Γ qs E (ts ++ us)
  unfolding enter_uses
  entry_tells each_none E g e {us} h = let (z, y) = same_parts e in subst (λ ts. TellsEntry Γ [] E (ts ++ us)) y (entry_end (dashes h))
  entry_tells (each_more {a = q} {l = qs} u vs) E g e {us} h =
      let (r, p, d) = then_done (projection Γ q E) e in
      let (w, v, c) = then_done (enter_uses Γ qs r.0) d in
      let (z, y) = same_parts c in
      let J = T.projects q E u g p in
      let k = entry_tells vs r.0 (small_good Γ fn J.ok J.small) v h in
      subst (λ ts. TellsEntry Γ (q ∷ qs) E (ts ++ us)) y (subst (TellsEntry Γ (q ∷ qs) E) (sym (append_assoc r.1 w.1 us)) (entry_on J.carried J.tells k))
