-- `body::tries::variant_of` meets its contract: the variant of the value is the one among those from v on.
use mathlib.Core.Path.{◌≡◌, sym, ap, ◌∙◌}
use mathlib.Core.List.{List}
use mathlib.Core.Option.{none, some}
use Prim.Native.Nat.{ℕ, suc, ◌+◌, ◌-◌, ◌≤◌, ◌<◌}
use native.Mathlib.Numerals.{add-one}
use native.Mathlib.Omega.{arith}
use Rattle.model.specs.Types.{count, discriminant}
use Rattle.model.specs.Body.{variants_from, variants, variant_of}
use Rattle.state.proofs.Fields.{ready_typed, ready_sized, ready_counted}
use Rattle.body.proofs.Variants.{seek_none, seek_here, seek_later}
use Rattle.body.proofs.tries.variant_of.Goals as goal

from_start : (Γ : List ℕ) (t x n : ℕ) → n ≡ count Γ t → variant_of x (variants Γ t) ≡ variant_of x (variants_from Γ t (n - 0) 0)
unfolding variants
from_start Γ t x n e = let z : n - 0 ≡ count Γ t = omega arith in rw z

module _ (Γ : List ℕ) (t x n v : ℕ) (h : variant_of x (variants Γ t) ≡ variant_of x (variants_from Γ t (n - v) v)) where
  none_left : n ≤ v → none ≡ variant_of x (variants Γ t)
  none_left l =
      let z : n - v ≡ 0 = omega arith in
      sym (h ∙ ap (λ (k : ℕ). variant_of x (variants_from Γ t k v)) z ∙ seek_none Γ t x v)

  module _ (l : v < n) (d : ℕ) (e : d ≡ discriminant Γ t v) where
    further : variant_of x (variants Γ t) ≡ variant_of x (variants_from Γ t (suc (n - suc v)) v)
    further = let z : n - v ≡ suc (n - suc v) = omega arith in h ∙ ap (λ (k : ℕ). variant_of x (variants_from Γ t k v)) z

    here : d ≡ x → some v ≡ variant_of x (variants Γ t)
    here z = sym (further ∙ seek_here Γ t x (n - suc v) v (sym e ∙ z))

    onward : (d ≡ x → ⊥) → variant_of x (variants Γ t) ≡ variant_of x (variants_from Γ t (n - (v + 1)) (v + 1))
    onward f = rw add-one (further ∙ seek_later Γ t x (n - suc v) v (λ z. f (e ∙ z)))

pub loop-v-init : goal.loop-v-init
loop-v-init c = from_start _ _ _ c.count_of-v-end.result c.count_of-v-end.ensures

pub discriminant-requires-clause-v_bound_2 : goal.discriminant-requires-clause-v_bound_2
discriminant-requires-clause-v_bound_2 c =
    let p = c.requires in
    let w = (ready_typed c.args.types.now.ready).variants _ p.is_enum.0 p.is_enum.1 c.loop-v.v (omega arith) in
    omega (arith, w.below, p.is_enum.0)

pub discriminant-requires-clause-nonzero : goal.discriminant-requires-clause-nonzero
discriminant-requires-clause-nonzero c =
    let p = c.requires in
    let T = ready_typed c.args.types.now.ready in
    let w = T.variants _ p.is_enum.0 p.is_enum.1 c.loop-v.v (omega arith) in
    T.discriminated _ (omega (arith, w.below, p.is_enum.0)) w.is_variant

pub returns-then-discriminant-x : goal.returns-then-discriminant-x
returns-then-discriminant-x c =
    let L = c.loop-v in
    let f = c.discriminant in
    here _ _ _ _ L.v L.invariant (omega arith) f.result f.ensures c.if-discriminant-x.true

pub loop-v-preserved : goal.loop-v-preserved
loop-v-preserved c =
    let L = c.loop-v in
    let f = c.discriminant in
    onward _ _ _ _ L.v L.invariant (omega arith) f.result f.ensures c.if-discriminant-x.false

pub returns : goal.returns
returns c = none_left _ _ _ _ c.loop-v.v c.loop-v.invariant (omega arith)
