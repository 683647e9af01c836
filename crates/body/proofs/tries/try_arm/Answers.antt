-- `body::tries::try_arm` meets its contract: by what `variant_of` and `try_variant` ensure.
use mathlib.Core.Path.{◌≡◌, sym}
use mathlib.Core.List.{List}
use mathlib.Core.Option.{some}
use Prim.Native.Nat.{ℕ, ◌<◌}
use native.Mathlib.Omega.{arith}
use Rattle.model.specs.Types.{ntypes}
use Rattle.model.specs.Body.{variants, variant_of}
use Rattle.base.specs.Typed.{Typed}
use Rattle.state.proofs.Fields.{ready_typed}
use Rattle.body.proofs.Variants.{variant_below, free_unknown, free_lost, count_few}
use Rattle.body.proofs.Trying.{value_is, tried_lost, tried_left}
use Rattle.body.proofs.tries.try_arm.Goals as goal

-- a variant has an entry
entry : (Γ : List ℕ) (t x : ℕ) {v : ℕ} → Typed Γ → t < ntypes Γ → variant_of x (variants Γ t) ≡ some v → v < 16384
entry Γ t x T k e = omega (arith, variant_below _ _ _ e, count_few T k)

pub returns-in_default : goal.returns-in_default
returns-in_default c E h = tried_lost _ (free_unknown _ _ _ _ (rw (value_is _ c.args.i c.arg_of.ensures) at (sym c.in_default.ensures)))

pub bounds-taken-v : goal.bounds-taken-v
bounds-taken-v c = let p = c.requires in omega (arith, entry _ _ _ (ready_typed c.args.fun.now.accepted.ready) p.sought.known (sym c.in-Some.ensures), p.taken_len)

pub returns-then-taken-v-ne0 : goal.returns-then-taken-v-ne0
returns-then-taken-v-ne0 c E h =
    let p = c.requires in
    let k = rw (value_is _ c.args.i c.arg_of.ensures) at (sym c.in-Some.ensures) in
    tried_lost _ (free_lost _ _ _ _ k (ready_typed c.args.fun.now.accepted.ready) p.sought.known p.sought.enum c.if-taken-v-ne0.true)

pub bounds-taken-v-2 : goal.bounds-taken-v-2
bounds-taken-v-2 c = let p = c.requires in omega (arith, entry _ _ _ (ready_typed c.args.fun.now.accepted.ready) p.sought.known (sym c.in-Some.ensures), p.taken_len)

pub overflow_cast-v : goal.overflow_cast-v
overflow_cast-v c = let p = c.requires in omega (arith, entry _ _ _ (ready_typed c.args.fun.now.accepted.ready) p.sought.known (sym c.in-Some.ensures))

pub returns : goal.returns
returns c E h =
    let p = c.requires in
    let k = rw (value_is _ c.args.i c.arg_of.ensures) at (sym c.in-Some.ensures) in
    let l = entry _ _ _ (ready_typed c.args.fun.now.accepted.ready) p.sought.known k in
    tried_left (omega (arith, l, p.taken_len)) k c.if-taken-v-ne0.false _ (c.try_variant.ensures E h)
