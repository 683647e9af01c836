-- `blocks::place::places_ok` meets its contract: the places before item i have passed, and root is the last root before it.
-- Assumes nothing.
use mathlib.Core.Path.{◌≡◌}
use mathlib.Core.Bool.{true}
use Rattle.model.specs.Words.{all}
use Rattle.model.specs.Block.{root_before, place_ok}
use Rattle.blocks.proofs.place.places_ok.Given as goal

abbrev pub invariant-loop-i : goal.invariant-loop-i
invariant-loop-i l = record { root : l.root ≡ root_before l.fun.words.now l.i; passed : all (place_ok l.fun.words.now) l.i ≡ true }
