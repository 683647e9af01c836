-- How many nodes a walk by types adds, at the most.
use mathlib.Core.Path.{◌≡◌}
use mathlib.Core.Bool.{true, false}
use mathlib.Core.List.{List, [], ◌∷◌}
use Prim.Native.Nat.{ℕ, suc, ◌+◌, ◌*◌, ◌≤◌}
use native.Mathlib.Omega.{arith}
use lib.ListN.{length}
use Rattle.std.specs.Prelude.{Result, Ok, Err}
use Rattle.refusal.specs.declared.Refusal.{Refusal}
use Rattle.model.specs.Place.{Place, stops, no_index}
use Rattle.base.specs.Typed.{Typed}
use Rattle.walk.specs.Fresh.{Bud, grows, sprout}
use Rattle.walk.specs.declared.step.Fresh.{Fresh}
use Rattle.walk.proofs.Ways.{no_index_first, no_index_rest}
use Rattle.walk.proofs.Growing.{Grown, grown}

-- n nodes at the most
abbrev pub Few : ℕ → Result Fresh Refusal → Type 0
Few n (Ok g) = g.added ≤ n
Few n (Err r) = Unit {0}

-- more are allowed
few_more : {m n : ℕ} → m ≤ n → (o : Result Fresh Refusal) → Few m o → Few n o
few_more h (Ok g) l = omega arith
few_more h (Err r) l = l

-- each step adds the children of one node
pub sprout_few : (Γ : List ℕ) → Typed Γ → (es : Place) → no_index es ≡ true → (f : Fresh) → Bud Γ f → Few (f.added + length es * 16384) (sprout Γ f es)
unfolding sprout
sprout_few Γ h [] n f b = omega arith
sprout_few Γ h (e ∷ es) n f b = one (grows Γ f e) (grown Γ h f b e) (λ g k. sprout_few Γ h es (no_index_rest e es n) g k)
  where
    first : stops (e ∷ []) ≡ false
    first = no_index_first e es n

    one : (o : Result Fresh Refusal) → Grown Γ f e o → ((g : Fresh) → Bud Γ g → Few (g.added + length es * 16384) (sprout Γ g es))
        → Few (f.added + suc (length es) * 16384) (elim o [ Ok g ↦ sprout Γ g es | Err r ↦ Err r ])
    one (Ok g) s rest = few_more (omega (arith, s.few)) (sprout Γ g es) (rest g (s.fine first))
    one (Err r) s rest = tt
