-- `env::fold_ok` meets its contract. Assumes nothing.
use mathlib.Core.Path.{◌≡◌}
use mathlib.Core.Bool.{Bool, true, false}
use Prim.Native.Nat.{ℕ}
use Rattle.model.specs.Place.{Spot, usable, spot_ok, fold_ok}
use Rattle.env.proofs.fold_ok.Goals as goal

module _ (locals : ℕ) (q : Spot) {b : Bool} (e : b ≡ spot_ok 64 locals q) where
  passed : {u : Bool} → b ≡ true → u ≡ usable q.place → u ≡ fold_ok locals q
  unfolding fold_ok
  passed f g = cc

  refused : b ≡ false → b ≡ fold_ok locals q
  unfolding fold_ok
  refused f = cc

pub returns-then-spot_ok : goal.returns-then-spot_ok
returns-then-spot_ok c = λ q e. passed c.args.locals q (c.spot_ok.ensures q e) c.if-spot_ok.true (c.usable.ensures q e)

pub returns-else-spot_ok : goal.returns-else-spot_ok
returns-else-spot_ok c = λ q e. refused c.args.locals q (c.spot_ok.ensures q e) c.if-spot_ok.false
