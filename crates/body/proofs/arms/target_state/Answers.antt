-- `body::arms::target_state` meets its contract: by what `opened_variant` and `open_variant` ensure.
use mathlib.Core.Path.{◌≡◌, sym}
use native.Mathlib.Omega.{arith}
use Rattle.state.proofs.Fields.{ready_typed}
use Rattle.body.proofs.Trying.{opens_small, leaves_same, leaves_open}
use Rattle.body.proofs.arms.target_state.Goals as goal

pub returns-in_default-opened_variant : goal.returns-in_default-opened_variant
returns-in_default-opened_variant c E h D e =
    let z : E ≡ D = leaves_same _ _ _ _ E D (rw c.in-Some.is at e) (sym c.in_default-opened_variant.ensures) in rw z at h

pub overflow_cast-v : goal.overflow_cast-v
overflow_cast-v c =
    let p = c.requires in
    let S = rw c.in-Some.is at p.leaves.sound in
    omega (arith, opens_small _ _ _ _ _ (ready_typed c.args.fun.now.accepted.ready) S.known (omega arith) (sym c.in-Some-opened_variant.ensures))

pub open_variant-requires-clause-opening : goal.open_variant-requires-clause-opening
open_variant-requires-clause-opening c =
    let L = c.requires.leaves in
    record { state = L.state; holds = L.holds; left = L.left; opens = leaves_open _ _ _ _ _ _ (rw c.in-Some.is at L.leaves) (sym c.in-Some-opened_variant.ensures) }

pub returns : goal.returns
returns c E h D e = c.open_variant.ensures E h D (leaves_open _ _ _ _ E D (rw c.in-Some.is at e) (sym c.in-Some-opened_variant.ensures))
