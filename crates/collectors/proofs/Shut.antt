-- Trees of which every one is folded: as a walk over their forms finds it. Assumes nothing.
use mathlib.Core.Path.{◌≡◌, refl, sym, ◌∙◌, ap}
use mathlib.Core.Bool.{Bool, true}
use mathlib.Core.List.{List, [], ◌∷◌}
use Prim.Native.Nat.{ℕ, zero, suc, ◌+◌, ◌<◌}
use native.Mathlib.Nat.{add-zero}
use native.Mathlib.Omega.{arith}
use lib.ListN.{length, get_or}
use Rattle.model.specs.Tree.{Tree, leaf, node, Forest, more, size, sizes}
use Rattle.model.specs.Collect.{folded}
use Rattle.base.specs.Kinds.{Known}
use Rattle.base.specs.Tests.{split, clash}
use Rattle.records.specs.Here.{CodedAll}
use Rattle.records.specs.Coded.{coded_leaf, coded_folded, coded_none, coded_split}
use Rattle.collectors.specs.Gets.{Zeros}

-- the first of trees that are all folded is, and the others are
first_folded : (x : Tree) (xs : Forest) → folded (more x xs) ≡ true → (t : ℕ) × (x ≡ leaf t) × (folded xs ≡ true)
first_folded (leaf t) xs e = (t, refl, e)
first_folded (node t v ns) xs e = clash (cc)

module _ {Γ fs ws : List ℕ} where
  -- the first of them stands at i, and the others behind it
  folded_step : {t i : ℕ} {ts : List ℕ} {xs : Forest} → CodedAll Γ fs ws i (t ∷ ts) xs → folded xs ≡ true
      → (ys : Forest) × (folded ys ≡ true) × CodedAll Γ fs ws (i + 1) ts ys × (sizes xs ≡ 1 + sizes ys) × (get_or fs i 0 ≡ 0)
  unfolding size
  folded_step {t} {i} {ts} h e =
      let S = coded_split h in
      let F = first_folded S.head S.tail (sym (ap folded S.is) ∙ e) in
      let one : size S.head ≡ 1 = ap size F.1 in
      (S.tail, F.2, rw one at S.rest, S.long ∙ ap (λ (n : ℕ). n + sizes S.tail) one, (coded_leaf (rw F.1 at S.here)).0)

  -- where trees are folded the forms are zeros
  folded_zeros : (ts : List ℕ) {xs : Forest} {i : ℕ} → CodedAll Γ fs ws i ts xs → folded xs ≡ true → (k : ℕ) → k < length ts → get_or fs (i + k) 0 ≡ 0
  folded_zeros [] h e k l = absurd (omega arith)
  folded_zeros (t ∷ ts) {i} h e zero l = ap (λ (n : ℕ). get_or fs n 0) (add-zero i) ∙ (folded_step h e).4
  folded_zeros (t ∷ ts) {i} h e (suc k) l =
      let S = folded_step h e in
      let same : i + suc k ≡ i + 1 + k = omega arith in
      ap (λ (n : ℕ). get_or fs n 0) same ∙ folded_zeros ts S.2 S.1 k (omega arith)

  -- and they are as many as their nodes
  pub folded_sizes : (ts : List ℕ) {xs : Forest} {i : ℕ} → CodedAll Γ fs ws i ts xs → folded xs ≡ true → sizes xs ≡ length ts
  unfolding sizes
  folded_sizes [] h e = ap sizes (coded_none h)
  folded_sizes (t ∷ ts) h e =
      let S = folded_step h e in
      omega (arith, S.3, folded_sizes ts S.2 S.1)

module _ {Γ fs ws : List ℕ} (known : Known Γ) where
  -- where the forms are zeros the trees are folded
  zeros_folded : (ts : List ℕ) {xs : Forest} {i : ℕ} → CodedAll Γ fs ws i ts xs → ((k : ℕ) → k < length ts → get_or fs (i + k) 0 ≡ 0) → folded xs ≡ true
  unfolding size
  zeros_folded [] h z = ap folded (coded_none h)
  zeros_folded (t ∷ ts) {i} h z =
      let S = coded_split h in
      let l = coded_folded known S.here (ap (λ (k : ℕ). get_or fs k 0) (sym (add-zero i)) ∙ z 0 (omega arith)) in
      let one : size S.head ≡ 1 = ap size l in
      let rest : CodedAll Γ fs ws (i + 1) ts S.tail = rw one at S.rest in
      let same : (k : ℕ) → i + 1 + k ≡ i + suc k = λ k. omega arith in
      ap folded S.is
      ∙ ap (λ (y : Tree). folded (more y S.tail)) l
      ∙ zeros_folded ts rest (λ k m. ap (λ (n : ℕ). get_or fs n 0) (same k) ∙ z (suc k) (omega arith))

  -- so the walk finds it
  pub zeros_tell : (ts : List ℕ) {xs : Forest} {i n : ℕ} {r : Bool} → CodedAll Γ fs ws i ts xs → length ts ≡ n → Zeros fs i n r → folded xs ≡ r
  zeros_tell ts {xs} {i} {n} {r} h e Z =
      split r
      (λ y. zeros_folded ts h (λ k l. Z.0 y k (omega arith)) ∙ sym y)
      (λ y. split (folded xs) (λ f. f ∙ sym (Z.1 (λ k l. folded_zeros ts h f k (omega arith)))) (λ f. f ∙ sym y))
