-- `merge::write::moved_part` meets its contract. Assumes nothing.
use mathlib.Core.Path.{◌≡◌, sym, ◌∙◌}
use mathlib.Core.Bool.{true, false, ◌&&◌}
use Prim.Native.Nat.{ℕ, ◌+◌, ◌≤◌}
use native.Mathlib.Omega.{arith}
use lib.Dec.{eqb}
use borrow.Author.Tests.{eqb-true, eqb-false, eq-eqb}
use Rattle.model.specs.Types.{ntypes, kind, offset, part}
use Rattle.base.specs.Tests.{and_left, and_right}
use Rattle.base.specs.Typed.{types_typed}
use Rattle.moved.specs.Merged.{moved_value, moved_type}
use Rattle.moved.specs.Passing.{part_type}
use Rattle.merge.proofs.write.moved_part.Goals as goal

-- what the test says
module _ (k j : ℕ) where
  value_parts : eqb k 8 && eqb j 0 ≡ true → (k ≡ 8) × (j ≡ 0)
  value_parts e = (eqb-true k 8 (and_left (eqb k 8) (eqb j 0) e), eqb-true j 0 (and_right (eqb k 8) (eqb j 0) e))

  no_value : eqb k 8 && eqb j 0 ≡ false → k ≡ 8 → 1 ≤ j
  no_value e h = let z = eqb-false j 0 (cc (eq-eqb k 8 h)) in omega arith

-- a word
pub returns-then-is_value : goal.returns-then-is_value
returns-then-is_value c =
    let e = value_parts (kind c.args.types.now.words.now c.args.t) c.args.j (sym c.is_value.ensures ∙ c.if-is_value.true) in
    omega (arith, c.word_at-p.ensures, moved_value c.args.n c.args.types.now.words.now c.args.t c.args.j e.0 e.1)

pub overflow_add-result : goal.overflow_add-result
overflow_add-result c =
    let g = types_typed c.args.types.now.words.now c.args.types.now.ready.typed in
    let k = no_value (kind c.args.types.now.words.now c.args.t) c.args.j (sym c.is_value.ensures ∙ c.if-is_value.false) in
    omega (arith, c.word_at-p.ensures, part_type g c.args.t c.args.j c.requires.t_bound c.requires.j_bound k, g.few, c.requires)

pub returns-else-is_value : goal.returns-else-is_value
returns-else-is_value c =
    let g = types_typed c.args.types.now.words.now c.args.types.now.ready.typed in
    let k = no_value (kind c.args.types.now.words.now c.args.t) c.args.j (sym c.is_value.ensures ∙ c.if-is_value.false) in
    omega (arith, c.word_at-p.ensures, part_type g c.args.t c.args.j c.requires.t_bound c.requires.j_bound k, g.few, c.requires, moved_type c.args.n c.args.types.now.words.now c.args.t c.args.j k)
