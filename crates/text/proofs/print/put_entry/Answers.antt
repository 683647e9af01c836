-- `text::print::put_entry` meets its contract, an arm for each kind of entry. Assumes nothing.
use mathlib.Core.Path.{◌≡◌}
use mathlib.Core.List.{List}
use Prim.Native.Nat.{ℕ, ◌<◌}
use native.Mathlib.Omega.{arith}
use borrow.Author.Tests.{ne_eqb, lt-leb}
use Rattle.model.specs.Place.{Unfold}
use Rattle.model.specs.Block.{elem_of}
use Rattle.model.specs.Ghosts.{elem_text, verb_text}
use Rattle.records.specs.Digits.{length_number}
use Rattle.text.specs.Printing.{Writes, entry_text}
use Rattle.text.proofs.print.put_entry.Goals as goal

-- where the op is k
arm : {t t' : List ℕ} {at r o k : ℕ} (a : ℕ) → o ≡ k → Writes t t' at r (entry_text (k, a)) → Writes t t' at r (entry_text (o, a))
arm a e h = rw e h

-- what is none of the five codes of a place is above them
above : (o : ℕ) → (o ≡ 0 → ⊥) → (o ≡ 1 → ⊥) → (o ≡ 2 → ⊥) → (o ≡ 3 → ⊥) → (o ≡ 4 → ⊥) → 4 < o
above o f0 f1 f2 f3 f4 = omega arith

-- where it is none of those
other : {t t' : List ℕ} {at r : ℕ} (o a : ℕ) → (o ≡ 0 → ⊥) → (o ≡ 1 → ⊥) → (o ≡ 2 → ⊥) → (o ≡ 3 → ⊥) → (o ≡ 4 → ⊥) → (o ≡ 13 → ⊥) → (o ≡ 14 → ⊥) → (o ≡ 15 → ⊥)
    → Writes t t' at r (verb_text Unfold) → Writes t t' at r (entry_text (o, a))
unfolding entry_text
other o a f0 f1 f2 f3 f4 f13 f14 f15 h =
    rw (ne_eqb o 0 f0, lt-leb o 4 (above o f0 f1 f2 f3 f4), ne_eqb o 13 f13, ne_eqb o 14 f14, ne_eqb o 15 f15) h

pub put_number-requires : goal.put_number-requires
put_number-requires c =
    omega (arith, length_number c.args.arg)

pub put_numbered-requires : goal.put_numbered-requires
put_numbered-requires c =
    omega (arith, length_number c.args.arg)

pub put_numbered-requires-in-3 : goal.put_numbered-requires-in-3
put_numbered-requires-in-3 c =
    omega (arith, length_number c.args.arg)

pub put_numbered-requires-in-13 : goal.put_numbered-requires-in-13
put_numbered-requires-in-13 c =
    omega (arith, length_number c.args.arg)

pub returns-in-0 : goal.returns-in-0
unfolding entry_text
returns-in-0 c =
    arm c.args.arg c.in-0.is c.put_number.ensures

pub returns-in-1 : goal.returns-in-1
unfolding entry_text elem_text elem_of
returns-in-1 c =
    arm c.args.arg c.in-1.is c.put_all.ensures

pub returns-in-2 : goal.returns-in-2
unfolding entry_text elem_text elem_of
returns-in-2 c =
    arm c.args.arg c.in-2.is c.put_numbered.ensures

pub returns-in-3 : goal.returns-in-3
unfolding entry_text elem_text elem_of
returns-in-3 c =
    arm c.args.arg c.in-3.is c.put_numbered-in-3.ensures

pub returns-in-4 : goal.returns-in-4
unfolding entry_text elem_text elem_of
returns-in-4 c =
    arm c.args.arg c.in-4.is c.put_all-in-4.ensures

pub returns-in-13 : goal.returns-in-13
unfolding entry_text
returns-in-13 c =
    arm c.args.arg c.in-13.is c.put_numbered-in-13.ensures

pub returns-in-14 : goal.returns-in-14
unfolding entry_text
returns-in-14 c =
    arm c.args.arg c.in-14.is c.put_all-in-14.ensures

pub returns-in-15 : goal.returns-in-15
unfolding entry_text verb_text
returns-in-15 c =
    arm c.args.arg c.in-15.is c.put_all-in-15.ensures

pub returns-in_default : goal.returns-in_default
unfolding verb_text
returns-in_default c =
    other _ _ (grind arith) (grind arith) (grind arith) (grind arith) (grind arith) (grind arith) (grind arith) (grind arith) c.put_all-in_default.ensures
