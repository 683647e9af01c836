-- Passing, continued from specs/Passing: theorems that rest on others.
use Rattle.std.specs.Prelude.{◌≡◌, List, ℕ, ◌+◌, ◌-◌, ◌<◌}
use Rattle.std.proofs.Common.{◌∙◌, subst, arith}
use Rattle.std.proofs.Math.Path.{ap}
use Rattle.std.proofs.Math.Bool.{true}
use Rattle.std.proofs.Math.Decide.{dec_lt}
use Rattle.std.proofs.Math.Dec.{leb}
use Rattle.std.proofs.Math.ListN.{length}
use borrow.Author.Tests.{ltb-true, lt-ltb, le-leb, eq-eqb}
use Rattle.model.specs.Types.{ntypes, nparts, kind, offset, part, pointer, fielded, type_sizes, counts_add, type_ok, all_types_ok, types_ok}
use Rattle.model.specs.Merge.{merged, sums_ok}
use Rattle.base.specs.Tests.{and_left, and_right}
use Rattle.base.specs.Below.{all_of}
use Rattle.base.specs.Kinds.{pointer_cases, fielded_cases}
use Rattle.base.specs.Typed.{Typed}
use Rattle.base.specs.Says.{Says, says_passes}
use Rattle.moved.specs.Moves.{Embeds, discriminant_moved}
use Rattle.moved.specs.Merged.{merged_ntypes, merged_nparts, merged_long, offset_second}
use Rattle.moved.specs.Passing.{field_moved, first_embeds, kept_same, placed_moved, same_count, same_kind, second_embeds}

-- A MOVED TYPE SAYS WHAT IT SAID

module _ {f : ℕ → ℕ} {Γ Δ : List ℕ} (g : Typed Γ) (e : Embeds f Γ Δ) (t : ℕ) (l : t < ntypes Γ) where
  -- all that it says
  says_moved : Says Δ (f t)
  says_moved = record {
    known = rw (same_kind g e t l) (g.known t);
    opaque = rw (same_kind g e t l, same_count g e t l) (g.opaque t l);
    array = rw (same_kind g e t l, same_count g e t l) (g.array t l);
    pointers = rw (same_kind g e t l, same_count g e t l) (g.pointers t l);
    pointees = rw (same_kind g e t l) (λ k.
        let p = g.pointees t l k in
        let one = g.pointers t l k in
        placed_moved g e t l (ntypes Δ) 0 (omega arith) (λ z. absurd (no_variant k z)) p.no_variant (ltb-true (f (part Γ t 0)) (ntypes Δ) (e.inside (part Γ t 0) ∙ lt-ltb (part Γ t 0) (ntypes Γ) p.below)));
    fields = rw (same_kind g e t l, same_count g e t l) (λ k j m. field_moved g e t l j m (λ z. absurd (no_variant_fields k z)) (g.fields t l k j m));
    variants = rw (same_kind g e t l, same_count g e t l) (λ k j m. let w = g.variants t l k j m in record {
      below = rw (e.types t j l m (λ z. omega arith)) (e.rises (part Γ t j) t w.below l);
      is_variant = rw (e.types t j l m (λ z. omega arith), e.kinds (part Γ t j)) w.is_variant;
    });
    differ = rw (same_kind g e t l, same_count g e t l) (λ k i j m n. rw (discriminant_moved g e t i k (omega arith), discriminant_moved g e t j k n) (g.differ t l k i j m n));
    discriminated = rw (same_kind g e t l, same_count g e t l) (g.discriminated t l);
    payload = rw (same_kind g e t l, same_count g e t l) (λ k j m n. field_moved g e t l j n (λ z. m) (g.payload t l k j m n));
  }
    where
      -- a pointer is no variant
      no_variant : pointer (kind Γ t) ≡ true → kind Γ t ≡ 8 → ⊥
      no_variant k z = pointer_cases (kind Γ t) k (λ y. omega arith) (λ y. omega arith) (λ y. omega arith)

      -- nor is what a field opens
      no_variant_fields : fielded (kind Γ t) ≡ true → kind Γ t ≡ 8 → ⊥
      no_variant_fields k z = fielded_cases (kind Γ t) k (λ y. omega arith) (λ y. omega arith) (λ y. omega arith) (λ y. omega arith)

module _ {Γ Δ : List ℕ} (g : Typed Γ) (d : Typed Δ) where
  -- each type of the merged record is one of the first's or of the second's
  merged_says : (t : ℕ) → t < ntypes (merged Γ Δ) → Says (merged Γ Δ) t
  merged_says t l = elim (dec_lt t (ntypes Γ)) [
    | yes m ↦ subst (Says (merged Γ Δ)) (kept_same Γ Δ t m) (says_moved g (first_embeds g d) t m)
    | no m ↦
        let e : ntypes Γ + (t - ntypes Γ) ≡ t = omega arith in
        subst (Says (merged Γ Δ)) e (says_moved d (second_embeds g d) (t - ntypes Γ) (omega (arith, merged_ntypes Γ Δ)))
  ]

  -- so it passes, where the sums keep their limits
  pub merged_passes : sums_ok Γ Δ ≡ true → types_ok (merged Γ Δ) ≡ true
  unfolding sums_ok types_ok type_sizes counts_add all_types_ok
  merged_passes s =
      let Μ = merged Γ Δ in
      let few : leb (ntypes Μ) 4096 ≡ true = rw (merged_ntypes Γ Δ) (and_left _ _ s) in
      let few_parts : leb (nparts Μ) 16384 ≡ true = rw (merged_nparts Γ Δ) (and_right (leb (ntypes Γ + ntypes Δ) 4096) _ s) in
      let long : length Μ ≡ 2 + ntypes Μ + ntypes Μ + nparts Μ = rw (merged_ntypes Γ Δ, merged_nparts Γ Δ) (merged_long g d) in
      let added : offset Μ (ntypes Μ) ≡ nparts Μ = rw (merged_ntypes Γ Δ, merged_nparts Γ Δ) (offset_second g d (ntypes Δ) (omega arith) ∙ ap (λ (n : ℕ). nparts Γ + n) d.added) in
      cc (
        le-leb 1 (ntypes Μ) (omega (arith, merged_ntypes Γ Δ, g.some)),
        eq-eqb (length Μ) (2 + ntypes Μ + ntypes Μ + nparts Μ) long,
        eq-eqb (offset Μ (ntypes Μ)) (nparts Μ) added,
        all_of (type_ok Μ) (ntypes Μ) (λ t l. says_passes (merged_says t l)),
      )
