-- Trees in a row are passed one by one: how many, and where those that are left stand.
use mathlib.Core.Path.{◌≡◌, ap}
use mathlib.Core.List.{List}
use Prim.Native.Nat.{ℕ, ◌+◌, ◌-◌, ◌<◌, ◌≤◌}
use native.Mathlib.Omega.{arith}
use lib.ListN.{get_or}
use Rattle.model.specs.Types.{part, parts}
use Rattle.model.specs.Tree.{Forest, size, sizes}
use Rattle.base.specs.Kinds.{Known}
use Rattle.records.specs.Here.{CodedAll}
use Rattle.records.specs.Coded.{Split, coded_folded}
use Rattle.records.specs.CodedParts.{coded_no_part, coded_part}

-- of the trees xs of n parts, which stand at i, k are passed: the others stand at e
pub record Passed (Γ fs ws : List ℕ) (i u j n : ℕ) (xs : Forest) (e k : ℕ) : Type 0 where
  pub left : Forest
  pub coded : CodedAll Γ fs ws e (parts Γ u (j + k) (n - k)) left
  pub long : i + sizes xs ≡ e + sizes left

module _ {Γ fs ws : List ℕ} {i u j n : ℕ} {xs : Forest} where
  -- none is
  pub passed_none : CodedAll Γ fs ws i (parts Γ u j n) xs → Passed Γ fs ws i u j n xs i 0
  passed_none h =
      let a : j + 0 ≡ j = omega arith in
      let b : n - 0 ≡ n = omega arith in
      record { left = xs; coded = rw (a, b) h; long = omega arith }

  module _ {e k : ℕ} (P : Passed Γ fs ws i u j n xs e k) where
    -- all are
    pub passed_all : n ≤ k → e ≡ i + sizes xs
    unfolding sizes
    passed_all l = omega (arith, P.long, ap sizes (coded_no_part (u) (j + k) (n - k) (omega arith) P.coded))

    -- the first of those that are left
    pub passed_split : k < n → Split Γ fs ws e (part Γ u (j + k)) (parts Γ u (j + k + 1) (n - k - 1)) P.left
    passed_split l = coded_part u (j + k) (n - k) (omega arith) P.coded

    -- is passed
    pub passed_more : (l : k < n) {d : ℕ} → d ≡ e + size (passed_split l).head → Passed Γ fs ws i u j n xs d (k + 1)
    passed_more l {d} z =
        let a : j + (k + 1) ≡ j + k + 1 = omega arith in
        let b : n - (k + 1) ≡ n - k - 1 = omega arith in
        let S = passed_split l in
        record { left = S.tail; coded = rw (a, b, z) S.rest; long = omega (arith, P.long, S.long) }

    -- a folded one is one node
    pub passed_folded : Known Γ → (l : k < n) → get_or fs e 0 ≡ 0 → e + 1 ≡ e + size (passed_split l).head
    unfolding size
    passed_folded K l z = omega (arith, ap size (coded_folded K (passed_split l).here z))
