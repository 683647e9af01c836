-- `type_record::check_types::fields_ok` meets its contract. The invariant: the fields from the first up to j pass. Assumes nothing.
use mathlib.Core.Path.{◌≡◌, sym, ◌∙◌, ap}
use mathlib.Core.Bool.{Bool, true, false, not}
use mathlib.Core.List.{List}
use Prim.Native.Nat.{ℕ, ◌+◌, ◌-◌, ◌≤◌, ◌<◌}
use native.Mathlib.Omega.{arith}
use borrow.Author.Tests.{not-false}
use Rattle.model.specs.Types.{count, field_ok, fields_ok}
use Rattle.type_record.proofs.Turns.{all_none, all_next, all_stop, all_done}
use Rattle.type_record.proofs.check_types.fields_ok.Invariants.{Pass}
use Rattle.type_record.proofs.check_types.fields_ok.Goals as goal

module _ (Γ : List ℕ) (t k : ℕ) where
  begins : Pass Γ t k k
  begins = let z : k - k ≡ 0 = omega arith in rw z (all_none _)

  module _ (j : ℕ) (l : k ≤ j) {b : Bool} (h : b ≡ field_ok Γ t j) where
    same : b ≡ field_ok Γ t (k + (j - k))
    same = let z : j ≡ k + (j - k) = omega arith in h ∙ ap (field_ok Γ t) z

    more : Pass Γ t k j → not b ≡ false → Pass Γ t k (j + 1)
    more e f =
        let z : j + 1 - k ≡ j - k + 1 = omega arith in
        rw z (all_next (λ i. field_ok Γ t (k + i)) (j - k) e (sym same ∙ not-false b f))

    stop : j < count Γ t → not b ≡ true → false ≡ fields_ok Γ t k
    unfolding fields_ok
    stop m f = all_stop (λ i. field_ok Γ t (k + i)) (count Γ t - k) (j - k) (omega arith) same f

  done : (j : ℕ) → count Γ t ≤ j → Pass Γ t k j → true ≡ fields_ok Γ t k
  unfolding fields_ok
  done j l e = all_done (λ i. field_ok Γ t (k + i)) (count Γ t - k) (j - k) (omega arith) e

pub loop-j-init : goal.loop-j-init
loop-j-init c = begins _ _ _

pub returns-then-not-field_ok : goal.returns-then-not-field_ok
returns-then-not-field_ok c = stop _ _ _ c.loop-j.j c.loop-j.auto.j c.field_ok.ensures (omega arith) (ap not c.if-not-field_ok.true)

pub loop-j-preserved : goal.loop-j-preserved
loop-j-preserved c = more _ _ _ c.loop-j.j c.loop-j.auto.j c.field_ok.ensures c.loop-j.invariant (ap not c.if-not-field_ok.false)

pub returns : goal.returns
returns c = done _ _ _ c.loop-j.j (omega arith) c.loop-j.invariant
