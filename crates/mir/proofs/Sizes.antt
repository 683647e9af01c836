-- The test of a function record's sizes, as the facts that it tests; and the sizes of a type record that passes. Assumes nothing.
use mathlib.Core.Path.{◌≡◌}
use mathlib.Core.Bool.{Bool, true, ◌&&◌}
use mathlib.Core.List.{List}
use Prim.Native.Nat.{ℕ, ◌+◌}
use lib.Dec.{eqb, ltb, leb}
use lib.ListN.{length}
use borrow.Author.Tests.{leb-true, ltb-true, eqb-true}
use Rattle.model.specs.Types.{types_ok}
use Rattle.model.specs.Function.{nlocals, nargs, nblocks, nitems, function_sizes}
use Rattle.base.specs.Tests.{and_left, and_right}
use Rattle.base.specs.Typed.{Typed, types_typed}
use Rattle.type_record.specs.Sizes.{Sized}
use Rattle.mir.specs.Sizes.{Laid}

-- a type record that passes is as long as its sizes say
pub types_sized : (Γ : List ℕ) → types_ok Γ ≡ true → Sized Γ
types_sized Γ e =
    let h : Typed Γ = types_typed Γ e in
    record { some_types = h.some; most_types = h.few; most_parts = h.few_parts; whole = h.long }

module _ (fn : List ℕ) where
  -- a record that passes is as long as its sizes say
  pub sizes_laid : function_sizes fn ≡ true → Laid fn
  unfolding function_sizes
  sizes_laid e =
      let a : Bool = leb 1 (nlocals fn) in
      let b : Bool = leb (nlocals fn) 256 in
      let c : Bool = ltb (nargs fn) (nlocals fn) in
      let d : Bool = leb 1 (nblocks fn) in
      let f : Bool = leb (nblocks fn) 256 in
      let g : Bool = leb (nitems fn) 16384 in
      let h : Bool = eqb (length fn) (4 + nlocals fn + nblocks fn + nblocks fn + nitems fn + nitems fn) in
      let e6 : a && b && c && d && f && g ≡ true = and_left (a && b && c && d && f && g) h e in
      let e5 : a && b && c && d && f ≡ true = and_left (a && b && c && d && f) g e6 in
      let e4 : a && b && c && d ≡ true = and_left (a && b && c && d) f e5 in
      let e3 : a && b && c ≡ true = and_left (a && b && c) d e4 in
      let e2 : a && b ≡ true = and_left (a && b) c e3 in
      record {
        some_locals = leb-true 1 (nlocals fn) (and_left a b e2);
        most_locals = leb-true (nlocals fn) 256 (and_right a b e2);
        few_args = ltb-true (nargs fn) (nlocals fn) (and_right (a && b) c e3);
        some_blocks = leb-true 1 (nblocks fn) (and_right (a && b && c) d e4);
        most_blocks = leb-true (nblocks fn) 256 (and_right (a && b && c && d) f e5);
        most_items = leb-true (nitems fn) 16384 (and_right (a && b && c && d && f) g e6);
        whole = eqb-true (length fn) _ (and_right (a && b && c && d && f && g) h e);
      }
