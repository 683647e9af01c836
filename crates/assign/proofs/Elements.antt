-- The items of an operand, one by one.
use mathlib.Core.Path.{◌≡◌, refl, ap}
use mathlib.Core.Bool.{Bool, true, false, ◌&&◌}
use mathlib.Core.List.{List, [], ◌∷◌, ◌++◌}
use Prim.Native.Nat.{ℕ, zero, suc, ◌+◌, ◌*◌, ◌-◌, ◌<◌}
use native.Mathlib.Omega.{arith}
use lib.ListN.{length}
use Rattle.model.specs.Words.{word}
use Rattle.model.specs.Assign.{Operand, items_in}
use Rattle.records.specs.Spots.{item_ok}
use Rattle.assign.specs.Operands.{elements_ok}
use Rattle.assign.specs.Words.{items_at}

module _ (ws : List ℕ) where
  -- so many
  pub items_length : (n at : ℕ) → length (items_at ws at n) ≡ n
  unfolding items_at
  items_length zero at = refl
  items_length (suc n) at = ap suc (items_length n (suc (suc at)))

  -- one more at the end
  pub items_snoc : (i at : ℕ) → items_at ws at (i + 1) ≡ items_at ws at i ++ ((word ws (at + 2 * i), word ws (at + 2 * i + 1)) ∷ [])
  unfolding items_at
  items_snoc zero at =
      let z : at + 2 * 0 ≡ at = omega arith in
      let o : at + 1 ≡ suc at = omega arith in
      rw (z, o) refl
  items_snoc (suc i) at =
      let s : suc i + 1 ≡ suc (i + 1) = omega arith in
      let z : suc (suc at) + 2 * i ≡ at + 2 * suc i = omega arith in
      rw (s, ← z) (ap (λ (l : Operand). (word ws at, word ws (suc at)) ∷ l) (items_snoc i (suc (suc at))))

  -- one more
  pub items_next : (at n m : ℕ) → n ≡ suc m → items_at ws at n ≡ (word ws at, word ws (at + 1)) ∷ items_at ws (at + 2) m
  unfolding items_at
  items_next at n m e =
      let o : at + 1 ≡ suc at = omega arith in
      let t : at + 2 ≡ suc (suc at) = omega arith in
      rw (e, o, t) refl

  elements_next : (at n m : ℕ) → n ≡ suc m → elements_ok (items_at ws at n) ≡ item_ok (word ws at) (word ws (at + 1)) && elements_ok (items_at ws (at + 2) m)
  unfolding elements_ok
  elements_next at n m e = rw (items_next at n m e) refl

  pub elements_none : (at n : ℕ) → n ≡ 0 → elements_ok (items_at ws at n) ≡ true
  unfolding elements_ok items_at
  elements_none at n e = rw e refl

  -- a turn of the loop over them, at item i
  module _ (at n i : ℕ) {b : Bool} (l : i < n) (h : elements_ok (items_at ws at n) ≡ elements_ok (items_at ws (at + 2 * i) (n - i)))
      (e : b ≡ item_ok (word ws (at + 2 * i)) (word ws (at + 2 * i + 1))) where
    pub elements_stopped : b ≡ false → false ≡ elements_ok (items_at ws at n)
    elements_stopped f = cc (elements_next (at + 2 * i) (n - i) (n - (i + 1)) (omega arith))

    pub elements_carried : b ≡ true → elements_ok (items_at ws at n) ≡ elements_ok (items_at ws (at + 2 * (i + 1)) (n - (i + 1)))
    elements_carried t =
        let a : at + 2 * i + 2 ≡ at + 2 * (i + 1) = omega arith in
        cc (elements_next (at + 2 * i) (n - i) (n - (i + 1)) (omega arith))

-- how many items operands in a row have
pub items_append : (ps qs : List Operand) → items_in (ps ++ qs) ≡ items_in ps + items_in qs
unfolding items_in
items_append [] qs = omega arith
items_append (p ∷ ps) qs = omega (arith, items_append ps qs)
