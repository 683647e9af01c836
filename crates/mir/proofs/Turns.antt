-- One turn of the walk over the items: what is left of it before item i, and behind it. Assumes nothing.
use mathlib.Core.Path.{◌≡◌}
use mathlib.Core.Bool.{true, false}
use mathlib.Core.List.{List}
use Prim.Native.Nat.{ℕ, suc, ◌+◌, ◌-◌, ◌≤◌, ◌<◌}
use native.Mathlib.Numerals.{add-one}
use native.Mathlib.Omega.{arith}
use lib.Dec.{eqb}
use Rattle.model.specs.Function.{op, after, items_from}
use Rattle.mir.specs.Parts.{begins, may_begin, item_ok}

-- What is left of the walk before item i, with b blocks begun: the item is tested behind `before'`, and b' blocks are begun then
pub record Turn (fn : List ℕ) (n i b before b' before' : ℕ) : Type 0 where
  pub counted : b' ≤ b + 1
  pub passes : item_ok fn i before' ≡ true → items_from fn (n - i) i b before ≡ items_from fn (n - (i + 1)) (i + 1) b' (after before' (op fn i))
  pub fails : item_ok fn i before' ≡ false → items_from fn (n - i) i b before ≡ false

-- one item more is left
more : {n i : ℕ} → i < n → n - i ≡ suc (n - (i + 1))
more h = omega arith

module _ (fn : List ℕ) (n i b before : ℕ) where
  -- the items are over
  pub items_over : n ≤ i → items_from fn (n - i) i b before ≡ eqb before 8
  unfolding items_from
  items_over h = let e : n - i ≡ 0 = omega arith in rw e

  -- a block begins where the one before has not ended
  pub items_torn : i < n → begins fn b i ≡ true → may_begin before ≡ false → items_from fn (n - i) i b before ≡ false
  unfolding items_from begins may_begin
  items_torn h e p = cc (more h)

  -- a block begins at item i
  pub turn_begun : {b' before' : ℕ} → i < n → begins fn b i ≡ true → may_begin before ≡ true → b' ≡ b + 1 → before' ≡ 2 → Turn fn n i b before b' before'
  unfolding items_from begins may_begin item_ok
  turn_begun {b'} {before'} h e o p q =
      record { counted = omega arith; passes = λ d. cc (more h, add-one i, add-one b); fails = λ d. cc (more h) }

  -- none begins there
  pub turn_same : {b' before' : ℕ} → i < n → begins fn b i ≡ false → b' ≡ b → before' ≡ before → Turn fn n i b before b' before'
  unfolding items_from begins item_ok
  turn_same {b'} {before'} h e p q =
      record { counted = omega arith; passes = λ d. cc (more h, add-one i); fails = λ d. cc (more h) }
