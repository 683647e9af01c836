-- `blocks::place::places_ok` meets its contract: the places before item i have passed, and root is the last root before it.
-- Assumes nothing.
use mathlib.Core.Path.{◌≡◌, refl, sym, ◌∙◌}
use mathlib.Core.Bool.{Bool, true, false}
use mathlib.Core.List.{List}
use mathlib.Core.Option.{some}
use Prim.Native.Nat.{ℕ, ◌+◌, ◌≤◌, ◌<◌}
use native.Mathlib.Numerals.{add-one}
use native.Mathlib.Omega.{arith}
use borrow.Author.Tests.{leb-true}
use Rattle.model.specs.Words.{all}
use Rattle.model.specs.Place.{Spot, used_ok}
use Rattle.model.specs.Function.{nlocals, nitems, op}
use Rattle.model.specs.Block.{root_before, spot_before, uses_place, place_ok, places_ok}
use Rattle.model.specs.Calls.{spot_of}
use Rattle.base.specs.Tests.{and_left, and_right}
use Rattle.base.specs.Below.{all_suc, all_fails}
use Rattle.mir.specs.Sizes.{Formed}
use Rattle.mir.specs.Parts.{ops_part, args_part, Spotted}
use Rattle.blocks.proofs.Spots.{root_kept, root_zero, root_less, used_read, used_spotted}
use Rattle.blocks.proofs.place.places_ok.Goals as goal
use Rattle.blocks.proofs.place.places_ok.Goals.{else-uses_place-via-then-uses_place+else-not-used_ok, else-uses_place-via-else-uses_place}

module _ (fn : List ℕ) (i : ℕ) where
  root_low : root_before fn (i + 1) ≤ i
  root_low = omega (arith, root_less fn (i + 1) (omega arith))

  used_op : uses_place fn i ≡ true → 5 ≤ op fn i
  unfolding uses_place
  used_op e = leb-true 5 (op fn i) (search (and_left, and_right))

  used_root : uses_place fn i ≡ true → root_before fn (i + 1) ≡ root_before fn i
  used_root e = sym (root_kept fn i (λ z. omega (arith, used_op e)))

-- the items from the root behind i are i's place
module _ {fn : List ℕ} (F : Formed fn) {i root : ℕ} (l : i < nitems fn) (e : uses_place fn i ≡ true) (r : root ≡ root_before fn (i + 1))
    (ops args : List ℕ) (o : ops ≡ ops_part fn root i) (a : args ≡ args_part fn root i) where
  at_root : root ≡ root_before fn i
  at_root = r ∙ used_root fn i e

  spotted : Spotted ops args
  spotted = rw (o, a, at_root) (used_spotted F l e)

  judged : (b : Bool) (n : ℕ) → n ≡ nlocals fn → ((q : Spot) → spot_of ops args ≡ some q → b ≡ used_ok n q) → b ≡ place_ok fn i
  unfolding place_ok
  judged b n z h = let d = h (spot_before fn i) (rw (o, a, at_root) (used_read F l e)) in cc

unused : (fn : List ℕ) (i : ℕ) → uses_place fn i ≡ false → place_ok fn i ≡ true
unfolding place_ok
unused fn i e = cc

module _ (fn : List ℕ) (i : ℕ) where
  refused : i < nitems fn → place_ok fn i ≡ false → false ≡ places_ok fn
  unfolding places_ok
  refused l e = sym (all_fails (place_ok fn) (nitems fn) i l e)

  passed : all (place_ok fn) i ≡ true → place_ok fn i ≡ true → all (place_ok fn) (i + 1) ≡ true
  passed h e = rw add-one (all_suc (place_ok fn) i h ∙ e)

  whole : i ≡ nitems fn → all (place_ok fn) i ≡ true → true ≡ places_ok fn
  unfolding places_ok
  whole z h = sym (rw z at h)

none_yet : (fn : List ℕ) → all (place_ok fn) 0 ≡ true
unfolding all
none_yet fn = refl

pub loop-i-init : goal.loop-i-init
loop-i-init c = record { root = sym (root_zero _); passed = none_yet _ }

pub ops_from-requires : goal.ops_from-requires
ops_from-requires c = record { range = omega (arith, root_low c.args.fun.now.words.now c.loop-i.i, c.root_behind-root.ensures) }

pub args_from-requires : goal.args_from-requires
args_from-requires c = record { range = omega (arith, root_low c.args.fun.now.words.now c.loop-i.i, c.root_behind-root.ensures) }

pub used_ok-requires : goal.used_ok-requires
used_ok-requires c =
    spotted c.requires (omega arith) (sym c.uses_place.ensures ∙ c.if-uses_place.true) c.root_behind-root.ensures _ _ c.ops_from.ensures c.args_from.ensures

-- what `used_ok` says is what the place is
pub returns-then-not-used_ok : goal.returns-then-not-used_ok
returns-then-not-used_ok c =
    let v = judged c.requires {i = c.loop-i.i} (omega arith) (sym c.uses_place.ensures ∙ c.if-uses_place.true) c.root_behind-root.ensures _ _ c.ops_from.ensures c.args_from.ensures
    c.used_ok.result c.nlocals-l.result c.nlocals-l.ensures c.used_ok.ensures in
    refused _ _ (omega arith) (sym v ∙ c.if-not-used_ok.true)

pub loop-i-preserved : goal.loop-i-preserved
loop-i-preserved c =
    let L = c.loop-i in
    let p : place_ok c.args.fun.now.words.now L.i ≡ true = elim c.else-uses_place.branch [
      | else-uses_place-via-then-uses_place+else-not-used_ok w ↦
          sym (judged c.requires {i = L.i} (omega arith) (sym c.uses_place.ensures ∙ w.if-uses_place.true) c.root_behind-root.ensures _ _ w.ops_from.ensures w.args_from.ensures
          w.used_ok.result c.nlocals-l.result c.nlocals-l.ensures w.used_ok.ensures)
          ∙ w.if-not-used_ok.false
      | else-uses_place-via-else-uses_place w ↦ unused _ L.i (sym c.uses_place.ensures ∙ w.if-uses_place.false)
    ] in
    record { root = c.root_behind-root.ensures; passed = passed _ L.i L.invariant.passed p }

pub returns : goal.returns
returns c = let L = c.loop-i in whole _ L.i (omega arith) L.invariant.passed
