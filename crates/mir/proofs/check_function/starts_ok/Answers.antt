-- `mir::check_function::starts_ok` meets its contract. The loop has tested every block below b. Assumes nothing.
use mathlib.Core.Path.{◌≡◌, sym}
use mathlib.Core.Bool.{true, false}
use mathlib.Core.List.{List}
use Prim.Native.Nat.{ℕ, ◌≤◌, ◌<◌}
use native.Mathlib.Omega.{arith}
use borrow.Author.Tests.{lt-ltb, le-ltb}
use Rattle.model.specs.Function.{nitems, start, stop, starts_ok}
use Rattle.base.specs.Below.{all_fails}
use Rattle.type_record.proofs.Turns.{all_none, all_next}
use Rattle.mir.proofs.check_function.starts_ok.Invariants.{placed}
use Rattle.mir.proofs.check_function.starts_ok.Goals as goal

module _ (fn : List ℕ) (b : ℕ) where
  placed_inside : start fn b < stop fn b → start fn b < nitems fn → placed fn b ≡ true
  placed_inside h l = rw (lt-ltb (start fn b) (stop fn b) h, lt-ltb (start fn b) (nitems fn) l)

  placed_empty : stop fn b ≤ start fn b → placed fn b ≡ false
  placed_empty h = rw (le-ltb (start fn b) (stop fn b) h)

  placed_past : start fn b < stop fn b → nitems fn ≤ start fn b → placed fn b ≡ false
  placed_past h l = rw (lt-ltb (start fn b) (stop fn b) h, le-ltb (start fn b) (nitems fn) l)

pub loop-b-init : goal.loop-b-init
loop-b-init c = all_none _

pub returns-then-stop_of-s : goal.returns-then-stop_of-s
unfolding starts_ok
returns-then-stop_of-s c = sym (all_fails _ _ c.loop-b.b (omega arith) (placed_empty _ _ (omega arith)))

pub returns-then-n-s : goal.returns-then-n-s
unfolding starts_ok
returns-then-n-s c = sym (all_fails _ _ c.loop-b.b (omega arith) (placed_past _ _ (omega arith) (omega arith)))

pub loop-b-preserved : goal.loop-b-preserved
loop-b-preserved c = all_next _ _ c.loop-b.invariant (placed_inside _ _ (omega arith) (omega arith))
