-- `type_record::check_types::fill_offsets` meets its contract. The invariant: the offsets of the types below t are filled in. Assumes nothing.
use borrow.Author.Count.{below_more}
use mathlib.Core.Path.{◌≡◌, refl, sym, ◌∙◌, ap}
use mathlib.Core.Bool.{false}
use mathlib.Core.List.{List}
use Prim.Native.Nat.{ℕ, ◌+◌, ◌-◌, ◌≤◌, ◌<◌}
use native.Mathlib.Nat.{not-suc-le-zero}
use native.Mathlib.Numerals.{add-one}
use native.Mathlib.Omega.{arith}
use lib.Dec.{eqb}
use lib.ListN.{length, get_or, set}
use lib.Seq.{get_or-set_same, get_or-set_other, drop-set-lt}
use borrow.Author.Tests.{ne_eqb}
use Rattle.model.specs.Words.{sum}
use Rattle.model.specs.Types.{ntypes, nparts, count, offset, counts_add}
use Rattle.base.specs.Below.{sum_suc, sum_room}
use Rattle.type_record.proofs.check_types.fill_offsets.Invariants.{Filled}
use Rattle.type_record.proofs.check_types.fill_offsets.Goals as goal

count_word : (Γ : List ℕ) (n t : ℕ) → n ≡ ntypes Γ → get_or Γ (2 + n + t) 0 ≡ count Γ t
unfolding count
count_word Γ n t e = ap (λ (m : ℕ). get_or Γ (2 + m + t) 0) e

begins : (Γ os : List ℕ) → Filled Γ os os 0 0
unfolding offset sum
begins Γ os = record { summed = refl; fits = omega arith; right = λ k l. absurd (not-suc-le-zero l); rest = refl }

module _ {Γ os₀ os : List ℕ} {s t : ℕ} (h : Filled Γ os₀ os s t) where
  module _ (l : t < ntypes Γ) (c : ℕ) (e : c ≡ count Γ t) where
    -- one more count is added to the offset
    next : s + c ≡ offset Γ (t + 1)
    unfolding offset
    next = rw add-one (omega (arith, sum_suc (count Γ) t, h.summed))

    more : ntypes Γ ≤ length os → c ≤ nparts Γ - s → Filled Γ os₀ (set os t s) (s + c) (t + 1)
    more r f =
        record {
          summed = next;
          fits = omega (arith, h.fits);
          right = below_more (λ k. get_or (set os t s) k 0 ≡ offset Γ k) t
              (λ k m. get_or-set_other os t k s 0 (λ z. omega arith) ∙ h.right k m)
              (get_or-set_same os t s 0 (omega arith) ∙ h.summed);
          rest = drop-set-lt (ntypes Γ) os t s l ∙ h.rest;
        }

    stop : nparts Γ - s < c → false ≡ counts_add Γ
    unfolding counts_add offset
    stop f = sym (ne_eqb (offset Γ (ntypes Γ)) (nparts Γ) (λ z. omega (arith, sum_room (count Γ) t (ntypes Γ) l, h.summed)))

  decides : t ≡ ntypes Γ → eqb s (nparts Γ) ≡ counts_add Γ
  unfolding counts_add
  decides z = ap (λ (k : ℕ). eqb k (nparts Γ)) (h.summed ∙ ap (offset Γ) z)

pub loop-t-init : goal.loop-t-init
loop-t-init c = begins _ _

pub returns-then-p-sum-clause-counts : goal.returns-then-p-sum-clause-counts
returns-then-p-sum-clause-counts c = stop c.loop-t.invariant (omega arith) _ (count_word _ _ _ refl) (omega arith)

pub loop-t-preserved : goal.loop-t-preserved
loop-t-preserved c = more c.loop-t.invariant (omega arith) _ (count_word _ _ _ refl) (omega arith) (omega arith)

pub returns-clause-counts : goal.returns-clause-counts
returns-clause-counts c = decides c.loop-t.invariant (omega arith)
