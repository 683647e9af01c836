-- Where an operand ends, by the tests that the code makes.
use mathlib.Core.Path.{◌≡◌, refl, sym, ◌∙◌}
use mathlib.Core.Bool.{Bool, true, false, ◌&&◌}
use mathlib.Core.List.{List}
use Prim.Native.Nat.{ℕ, suc, ◌+◌, ◌*◌, ◌-◌, ◌/◌, ◌≤◌, ◌<◌}
use native.Mathlib.Omega.{arith}
use lib.ListN.{length}
use lib.Dec.{eqb, leb}
use borrow.Author.Tests.{eq-eqb, ne_eqb, le-leb, lt-leb}
use Rattle.std.specs.Prelude.{Some, None}
use Rattle.model.specs.Words.{word}
use Rattle.model.specs.Assign.{operand_ok}
use Rattle.assign.specs.Operands.{elements_ok, operand_places}
use Rattle.assign.specs.Words.{items_at, operand_at, operand_end}
use Rattle.assign.specs.Checked.{place_end}
use Rattle.assign.proofs.Elements.{items_next}

module _ (ws : List ℕ) (at n : ℕ) (l : at < length ws) (e : n ≡ word ws at) where
  -- it is cut off
  pub end_cut : (length ws - at - 1) / 2 < n → None ≡ place_end ws at
  unfolding place_end
  end_cut h = rw (lt-leb (operand_end ws at) (length ws) (omega arith)) refl

  module _ (h : n ≤ (length ws - at - 1) / 2) where
    -- it lies inside
    inside : leb (operand_end ws at) (length ws) ≡ true
    inside = le-leb (operand_end ws at) (length ws) (omega arith)

    ends : operand_end ws at ≡ at + 1 + 2 * n
    ends = omega arith

    -- a constant
    pub end_constant : n ≡ 0 → Some (at + 1 + 2 * n) ≡ place_end ws at
    unfolding place_end operand_ok items_at
    end_constant z =
        let w : word ws at ≡ 0 = sym e ∙ z in
        let o : operand_ok (operand_at ws at) ≡ true = rw w refl in
        cc (inside, ends)

    module _ (p : n ≡ 0 → ⊥) where
      -- a place, by its root and its elements
      tested : operand_ok (operand_at ws at) ≡ eqb (word ws (at + 1)) 0 && elements_ok (items_at ws (at + 3) (n - 1))
      tested =
          let s : word ws at ≡ suc (n - 1) = omega arith in
          let a : suc at ≡ at + 1 = omega arith in
          let b : at + 1 + 2 ≡ at + 3 = omega arith in
          rw (items_next ws (suc at) (word ws at) (n - 1) s, a, b) (operand_places (word ws (at + 1), word ws (at + 1 + 1)) (items_at ws (at + 3) (n - 1)))

      pub end_rootless : (word ws (at + 1) ≡ 0 → ⊥) → None ≡ place_end ws at
      unfolding place_end
      end_rootless r = cc (inside, tested, ne_eqb (word ws (at + 1)) 0 r)

      module _ (r : word ws (at + 1) ≡ 0) {b : Bool} (t : b ≡ elements_ok (items_at ws (at + 3) (n - 1))) where
        pub end_other : b ≡ false → None ≡ place_end ws at
        unfolding place_end
        end_other f = cc (inside, tested, eq-eqb (word ws (at + 1)) 0 r)

        pub end_place : b ≡ true → Some (at + 1 + 2 * n) ≡ place_end ws at
        unfolding place_end
        end_place f = cc (inside, ends, tested, eq-eqb (word ws (at + 1)) 0 r)
