-- Which item may follow which: facts of the table, each computed over all its entries.
use Rattle.std.specs.Prelude.{◌≡◌, refl, Bool, true, cond, ◌&&◌, ℕ, ◌≤◌, leb}
use Rattle.std.proofs.Common.{arith, leb-true, le-leb}
use Rattle.model.specs.Words.{all}
use Rattle.model.specs.Function.{follow_table, may_follow, after}
use Rattle.base.specs.Tests.{and_left, and_right}
use Rattle.base.specs.Below.{all_at}

-- the code of an item is at most 12
pub follow_code : (k o : ℕ) → may_follow k o ≡ true → o ≤ 12
unfolding may_follow
follow_code k o e = leb-true o 12 (search and_left)

-- wherever an item o may follow k, and H holds, P holds: computed over the table
abbrev pub Checked : (ℕ → ℕ → Bool) → (ℕ → ℕ → Bool) → Type 0
Checked H P = all (λ k. all (λ o. cond (may_follow k o && H k o) (P k o) true) 13) 9 ≡ true

-- so it holds at each
pub checked_at : (H P : ℕ → ℕ → Bool) → Checked H P → (k o : ℕ) → k ≤ 8 → may_follow k o ≡ true → H k o ≡ true → P k o ≡ true
checked_at H P t k o l e h =
    let u = follow_code k o e in
    let a = all_at (λ k. all (λ o. cond (may_follow k o && H k o) (P k o) true) 13) 9 t k (omega arith) in
    let b = all_at (λ o. cond (may_follow k o && H k o) (P k o) true) 13 a o (omega arith) in
    rw (e, h) at b

-- the entry part's rows, and a block's, are left by no item
pub follow_entry : (k o : ℕ) → k ≤ 1 → may_follow k o ≡ true → after k o ≤ 1
unfolding all may_follow follow_table after
follow_entry k o l e = leb-true (after k o) 1 (checked_at (λ k o. leb k 1) (λ k o. leb (after k o) 1) refl k o (omega arith) e (le-leb k 1 l))

-- and a block's rows by none
pub follow_inner : (k o : ℕ) → 2 ≤ k → k ≤ 8 → may_follow k o ≡ true → (2 ≤ after k o) × (after k o ≤ 8)
unfolding all may_follow follow_table after
follow_inner k o m l e =
    let h = checked_at (λ k o. leb 2 k) (λ k o. leb 2 (after k o) && leb (after k o) 8) refl k o l e (le-leb 2 k m) in
    (leb-true 2 (after k o) (search and_left), leb-true (after k o) 8 (search and_right))
