-- `statements::point_of` meets its contract: an item's number is below 2 ^ 32, and is not the entry's. Assumes nothing.
use borrow.Author.Tests.{ne_eqb}
use mathlib.Core.Path.{◌≡◌, refl, ◌∙◌}
use mathlib.Core.Bool.{true, false}
use mathlib.Core.List.{List}
use Prim.Native.Nat.{ℕ, ◌<◌}
use native.Mathlib.Nat.{mod-eq_of_lt}
use native.Mathlib.Omega.{arith}
use Rattle.model.specs.Function.{nitems}
use Rattle.model.specs.Block.{entry_point}
use Rattle.model.specs.Record.{Entry, point_entry}
use Rattle.base.specs.Tests.{eqb_same}
use Rattle.statements.specs.Points.{point}
use Rattle.statements.proofs.point_of.Goals as goal

module _ (fn : List ℕ) where
  -- at the entry
  entry_told : (i : ℕ) → ◌≡◌ {A = Entry} (14, 0) (point_entry (entry_point fn) (point fn true i))
  unfolding point point_entry
  entry_told i = rw (eqb_same (nitems fn)) refl

  -- before an item
  item_told : (i a : ℕ) → i < nitems fn → a ≡ i → ◌≡◌ {A = Entry} (13, a) (point_entry (entry_point fn) (point fn false i))
  unfolding point point_entry
  item_told i a l e = rw (e, ne_eqb i (nitems fn) (λ d. omega arith)) refl

pub returns-then-entry : goal.returns-then-entry
returns-then-entry c = λ fn L l. rw c.if-entry.true (entry_told fn c.args.i)

pub returns-else-entry : goal.returns-else-entry
returns-else-entry c = λ fn L l.
    rw c.if-entry.false (item_told fn c.args.i c.small.result l (c.small.ensures ∙ mod-eq_of_lt (omega (arith, L))))
