-- `blocks::place::spot_ok` meets its contract. Assumes nothing.
use mathlib.Core.Path.{◌≡◌, refl}
use mathlib.Core.Bool.{◌&&◌}
use mathlib.Core.List.{List}
use mathlib.Core.Option.{some}
use Prim.Native.Nat.{ℕ}
use native.Mathlib.Omega.{arith}
use lib.Dec.{leb, ltb, leb-suc-suc}
use lib.ListN.{length, get_or}
use Rattle.std.proofs.lemmas.Grind.{common_steps}
use Rattle.model.specs.Place.{Spot, spot_ok}
use Rattle.model.specs.Calls.{spot_of}
use Rattle.blocks.specs.Points.{steps_in}
use Rattle.blocks.proofs.Elements.{spot_ops, spot_args, spot_root, spot_steps}
use Rattle.blocks.proofs.place.spot_ok.Goals as goal

-- the test on the items
on_items : (ops args : List ℕ) (locals limit : ℕ) (q : Spot) → spot_of ops args ≡ some q
    → ltb (get_or args 0 0) locals && leb (length ops) 129 && leb (steps_in ops) limit ≡ spot_ok limit locals q
unfolding spot_ok
on_items ops args locals limit q is =
    rw (spot_root ops args q is, spot_steps ops args q is, spot_ops ops args q is, leb-suc-suc) refl

pub bounds-args-0 : goal.bounds-args-0
bounds-args-0 c =
    let s = c.requires in omega (arith, spot_ops _ _ s.spot s.is, spot_args _ _ s.spot s.is)

pub returns-then-ops : goal.returns-then-ops
returns-then-ops c = λ q e. let o = on_items _ _ c.args.locals c.args.limit q e in grind (arith, common_steps)

pub returns-else-ops : goal.returns-else-ops
returns-else-ops c = λ q e. let o = on_items _ _ c.args.locals c.args.limit q e in grind (arith, common_steps)
