-- What the call answers at each of its returns, and what it promises of its answer.
use Rattle.std.proofs.Common.{Result, Ok, Err, OnOk}
use mathlib.Core.Path.{◌≡◌, refl}
use mathlib.Core.Bool.{true, false}
use mathlib.Core.List.{List, ◌++◌}
use Prim.Native.Nat.{ℕ, ◌-◌, ◌≤◌, ◌<◌}
use native.Mathlib.Omega.{arith}
use lib.ListN.{length, replicate}
use lib.Seq.{sets, take-append_seam}
use lib.Dec.{leb}
use borrow.Author.Tests.{le-leb, lt-leb}
use Rattle.model.specs.Rounds.{elem}
use Rattle.model.specs.Types.{types_length, types_ok}
use Rattle.model.specs.Record.{lent}
use Rattle.model.specs.Merge.{merged, sums_ok, merge_types, merged_lent, record_in, Passes, Links}
use Rattle.model.specs.Promised.{merge_numbers}
use Rattle.base.specs.Tests.{clash}
use Rattle.base.specs.Answer.{split_answer, Good, good_done, good_require, good_at}
use Rattle.base.specs.Only.{Only, only_done, only_require, only_at}
use Rattle.base.specs.Words.{sets_lent}
use Rattle.base.specs.Typed.{types_typed}
use Rattle.moved.specs.Merged.{merged_long}
use Rattle.moved.proofs.Passing.{merged_passes}
use Rattle.moved.proofs.Linked.{merged_links}
use Rattle.refusal.specs.declared.Refusal.{Refusal}
use Rattle.refusal.specs.declared.Refusal.TheVariants.{BadTypes, ShortStore, MergedTooLarge}
use Rattle.refusal.specs.Refusal.{number}
use Rattle.merge.specs.Answers.{Gives, Numbered}

module _ (Γ Δ : List ℕ) (n : ℕ) where
  -- with which numbers
  merge_refusals : Only merge_numbers (merge_types Γ Δ n)
  unfolding merge_types elem
  merge_refusals =
      only_require merge_numbers (types_ok Γ) 1 _ refl (λ a.
      only_require merge_numbers (types_ok Δ) 1 _ refl (λ b.
      only_require merge_numbers (sums_ok Γ Δ) 12 _ refl (λ c.
      only_require merge_numbers (leb (length (merged Γ Δ)) n) 10 _ refl (λ d. only_done))))

  -- THE RETURNS

  module _ {out : List ℕ} where
    -- the first record is none
    pub gives_first : out ≡ replicate n 0 → types_ok Γ ≡ false → Gives Γ Δ n out (Err BadTypes)
    unfolding merge_types merged_lent
    gives_first z a = record { answer = cc; left = cc }

    module _ (a : types_ok Γ ≡ true) where
      -- the second is none
      pub gives_second : out ≡ replicate n 0 → types_ok Δ ≡ false → Gives Γ Δ n out (Err BadTypes)
      unfolding merge_types merged_lent
      gives_second z b = record { answer = cc; left = cc }

      module _ (b : types_ok Δ ≡ true) where
        -- the sums are too large
        pub gives_large : out ≡ replicate n 0 → sums_ok Γ Δ ≡ false → Gives Γ Δ n out (Err MergedTooLarge)
        unfolding merge_types merged_lent
        gives_large z c = record { answer = cc; left = cc }

        module _ (c : sums_ok Γ Δ ≡ true) {k : ℕ} (e : k ≡ length (merged Γ Δ)) where
          -- the output is too short
          pub gives_short : out ≡ replicate n 0 → n < k → Gives Γ Δ n out (Err ShortStore)
          unfolding merge_types merged_lent
          gives_short z l = let d = lt-leb (length (merged Γ Δ)) n (omega arith) in record { answer = cc; left = cc }

          -- it is merged
          pub gives_merged : {zeros : List ℕ} → zeros ≡ replicate n 0 → k ≤ n → out ≡ sets zeros 0 (merged Γ Δ) → Gives Γ Δ n out (Ok k)
          unfolding merge_types merged_lent
          gives_merged {zeros} z l w =
              let d = le-leb (length (merged Γ Δ)) n (omega arith) in
              let put = sets_lent n (merged Γ Δ) (omega arith) in
              record { answer = cc; left = cc }

  -- WHAT IS PROMISED

  -- all tests pass, and it is the merged record
  record Merging (l : List ℕ) : Type 0 where
    first : types_ok Γ ≡ true
    second : types_ok Δ ≡ true
    sums : sums_ok Γ Δ ≡ true
    is : l ≡ merged Γ Δ

  -- what an answer says
  merging : Good Merging (merge_types Γ Δ n)
  unfolding merge_types
  merging =
      good_require Merging (types_ok Γ) 1 _ (λ a.
      good_require Merging (types_ok Δ) 1 _ (λ b.
      good_require Merging (sums_ok Γ Δ) 12 _ (λ c.
      good_require Merging (leb (length (merged Γ Δ)) n) 10 _ (λ d. good_done (record { first = a; second = b; sums = c; is = refl })))))

  -- the sizes in the output are its
  sizes_read : (z : List ℕ) → types_ok Γ ≡ true → types_ok Δ ≡ true → types_length (merged Γ Δ ++ z) ≡ length (merged Γ Δ)
  unfolding types_length merged
  sizes_read z a b = omega (arith, merged_long (types_typed Γ a) (types_typed Δ b))

module _ {Γ Δ : List ℕ} {n : ℕ} where
  -- so the record in the output is the merged one
  stands : {out : List ℕ} {m : ℕ} → Gives Γ Δ n out (Ok m) → Merging Γ Δ n (record_in out)
  unfolding record_in merged_lent lent
  stands {out} G =
      let q = G.answer in
      split_answer (merge_types Γ Δ n)
      (λ k p. clash (cc))
      (λ l p.
      let M = good_at (merging Γ Δ n) p in
      let z : List ℕ = replicate (n - length (merged Γ Δ)) 0 in
      let w : out ≡ merged Γ Δ ++ z = rw (p, M.is) at G.left in
      record {
        first = M.first;
        second = M.second;
        sums = M.sums;
        is = rw (w, sizes_read Γ Δ n z M.first M.second) (take-append_seam (merged Γ Δ) z);
      })

  -- all that the contract says
  pub promised : {out : List ℕ} {r : Result ℕ Refusal} → Gives Γ Δ n out r → Gives Γ Δ n out r × Numbered r × OnOk r (Passes out) × OnOk r (Links Γ Δ (record_in out))
  promised {r = Ok m} G =
      let S = stands G in (
        G,
        λ x e. absurd (cc),
        rw S.is (merged_passes (types_typed Γ S.first) (types_typed Δ S.second) S.sums),
        rw S.is (merged_links Γ Δ S.first S.second S.sums),
      )
  promised {r = Err y} G =
      let q = G.answer in (
        G,
        λ x e. split_answer (merge_types Γ Δ n)
            (λ k p. let is : k ≡ number x = cc in rw (← is) (only_at (merge_refusals Γ Δ n) p))
            (λ l p. clash (cc)),
        tt,
        tt,
      )
