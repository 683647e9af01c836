-- The trees of the locals, one behind the other: where each stands.
use mathlib.Core.Path.{◌≡◌, subst}
use mathlib.Core.List.{List, [], ◌∷◌}
use Prim.Native.Nat.{ℕ, zero, suc, ◌+◌, ◌<◌}
use native.Mathlib.Numerals.{add-one}
use native.Mathlib.Omega.{arith}
use lib.ListN.{length, get_or}
use Rattle.model.specs.Tree.{Forest, size, sizes}
use Rattle.model.specs.Typing.{Fits, fit_none, fit_more}
use Rattle.model.specs.Walk.{pick}
use Rattle.model.specs.Collect.{firsts}
use Rattle.records.specs.Here.{Coded, CodedAll}
use Rattle.records.specs.Coded.{coded_split}

-- the nodes of one tree more
sizes_suc : (Γ : List ℕ) (l : ℕ) {ts : List ℕ} {E : Forest} → Fits Γ ts E → l < length ts → sizes (firsts (suc l) E) ≡ sizes (firsts l E) + size (pick l E)
unfolding sizes
sizes_suc Γ l fit_none h = absurd (omega arith)
sizes_suc Γ zero (fit_more f fs) h = omega arith
sizes_suc Γ (suc l) (fit_more f fs) h = omega (arith, sizes_suc Γ l fs (omega arith))

-- a list of trees as it is split
split_pick : {Γ fs ws : List ℕ} (l : ℕ) (ts : List ℕ) {i : ℕ} {E : Forest} → l < length ts → CodedAll Γ fs ws i ts E
    → Coded Γ fs ws (i + sizes (firsts l E)) (get_or ts l 0) (pick l E)
unfolding sizes
split_pick l [] h c = absurd (omega arith)
split_pick {Γ} {fs} {ws} zero (t ∷ ts) {i} h c =
    let s = coded_split c in
    rw s.is (subst (λ (k : ℕ). Coded Γ fs ws k t s.head) (omega arith) s.here)
split_pick {Γ} {fs} {ws} (suc l) (t ∷ ts) {i} h c =
    let s = coded_split c in
    rw s.is (subst (λ (k : ℕ). Coded Γ fs ws k (get_or ts l 0) (pick l s.tail)) (omega arith) (split_pick l ts (omega arith) s.rest))

module _ {Γ fs ws locals : List ℕ} {E : Forest} (c : CodedAll Γ fs ws 0 locals E) where
  -- the tree of local l stands behind those before it
  pub local_coded : (l i : ℕ) → l < length locals → i ≡ sizes (firsts l E) → Coded Γ fs ws i (get_or locals l 0) (pick l E)
  local_coded l i h e = subst (λ (k : ℕ). Coded Γ fs ws k (get_or locals l 0) (pick l E)) (omega arith) (split_pick l locals h c)

  -- and the next one behind it
  pub local_next : (l i : ℕ) → l < length locals → i ≡ sizes (firsts l E) → i + size (pick l E) ≡ sizes (firsts (l + 1) E)
  local_next l i h e = rw add-one (omega (arith, sizes_suc Γ l c.fits h))
