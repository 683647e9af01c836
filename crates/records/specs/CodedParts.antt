-- Trees in the arrays at a run of parts or of locals, as code walks them: none is left, or one stands first.
use Rattle.std.specs.Prelude.{◌≡◌, List, ◌∷◌, ℕ, ◌+◌, ◌-◌, ◌<◌, ◌≤◌, length, get_or, drop}
use Rattle.std.proofs.Common.{sym, ◌∙◌, ap, subst, add-one, drop_of_length-le, drop-cons}
use Rattle.model.specs.Types.{part, parts}
use Rattle.model.specs.Tree.{Forest, nil}
use Rattle.base.specs.Parts.{parts_none, parts_cons}
use Rattle.records.specs.Here.{CodedAll}
use Rattle.records.specs.Coded.{Split, coded_none, coded_split}

module _ {Γ fs ws : List ℕ} {i : ℕ} {xs : Forest} where
  -- no part left: no tree
  pub coded_no_part : (u j n : ℕ) → n ≡ 0 → CodedAll Γ fs ws i (parts Γ u j n) xs → xs ≡ nil
  coded_no_part u j n e h = coded_none (subst (λ (ts : List ℕ). CodedAll Γ fs ws i ts xs) (ap (parts Γ u j) e ∙ parts_none Γ u j) h)

  -- a part left: a tree stands first
  pub coded_part : (u j n : ℕ) → 0 < n → CodedAll Γ fs ws i (parts Γ u j n) xs → Split Γ fs ws i (part Γ u j) (parts Γ u (j + 1) (n - 1)) xs
  coded_part u j n p h = coded_split (subst (λ (ts : List ℕ). CodedAll Γ fs ws i ts xs) (parts_cons Γ u j n p) h)

  -- no local left: no tree
  pub coded_no_local : (locals : List ℕ) (l : ℕ) → length locals ≤ l → CodedAll Γ fs ws i (drop l locals) xs → xs ≡ nil
  coded_no_local locals l p h = coded_none (subst (λ (ts : List ℕ). CodedAll Γ fs ws i ts xs) (drop_of_length-le locals p) h)

  -- a local left: its tree stands first
  pub coded_local : (locals : List ℕ) (l : ℕ) → l < length locals → CodedAll Γ fs ws i (drop l locals) xs
      → Split Γ fs ws i (get_or locals l 0) (drop (l + 1) locals) xs
  coded_local locals l p h =
      coded_split (subst (λ (ts : List ℕ). CodedAll Γ fs ws i ts xs) (drop-cons locals l 0 p ∙ ap (λ (k : ℕ). get_or locals l 0 ∷ drop k locals) (sym (add-one l))) h)
