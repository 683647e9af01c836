-- The tests of the calls for users: what the test of the place says, and that a refusal has a number.
use mathlib.Core.Path.{◌≡◌}
use mathlib.Core.Logic.{◌≢◌}
use mathlib.Core.Bool.{Bool, true}
use mathlib.Core.List.{List}
use Prim.Native.Nat.{ℕ}
use native.Mathlib.Omega.{arith}
use Rattle.std.proofs.lemmas.Grind.{common_steps}
use Rattle.model.specs.Calls.{spot_of}
use Rattle.base.specs.Tests.{split_option, clash}
use Rattle.mir.specs.Parts.{Tells, Spotted, is_some}
use Rattle.refusal.specs.Refusal.{number}
use Rattle.refusal.specs.declared.Refusal.{Refusal}
use Rattle.env.specs.declared.Aim.{Aim}
use Rattle.env.specs.Tested.{limits, passes}

module _ (ops args : List ℕ) {b : Bool} (e : b ≡ is_some (spot_of ops args)) where
  -- the items are a place
  pub place_spotted : b ≡ true → Spotted ops args
  place_spotted y = split_option (spot_of ops args) (λ p. clash (cc)) (λ q p. record { spot = q; is = p })

  -- what the test says of it
  pub place_told : b ≡ true → (locals : ℕ) {aim known : Aim} {r : Bool} → aim ≡ known → Tells ops args (limits known locals) r → r ≡ passes (limits aim locals) (spot_of ops args)
  place_told y locals same t = let S = place_spotted y in rw (S.is, same) (t S.spot S.is)

-- no refusal has the number 0
pub number_some : (n : Refusal) → number n ≢ 0
number_some n = grind (arith, common_steps)
