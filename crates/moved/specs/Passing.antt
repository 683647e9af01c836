-- The merged record holds both records, each moved (`first_embeds`, `second_embeds`), and passes refusal 1: `merged_passes`.
use Rattle.std.specs.Prelude.{◌≡◌, refl, ◌≢◌, cond, List, ℕ, ◌+◌, ◌≤◌, ◌<◌, ltb}
use Rattle.std.proofs.Common.{sym, ◌∙◌, arith}
use Rattle.std.proofs.Math.Path.{ap}
use Rattle.std.proofs.Math.Decide.{dec_lt}
use borrow.Author.Tests.{lt-ltb, le-ltb}
use Rattle.model.specs.Types.{ntypes, kind, count, part, shut}
use Rattle.model.specs.Merge.{merged}
use Rattle.base.specs.Tests.{split}
use Rattle.base.specs.Kinds.{shut_cases, open_cases, kind_past}
use Rattle.base.specs.Typed.{Typed, Placed}
use Rattle.moved.specs.Moves.{Embeds}
use Rattle.moved.specs.Merged.{moved_value, moved_type, merged_ntypes, kind_first, count_first, part_first, kind_second, count_second, part_second}

-- A MOVED TYPE SAYS WHAT IT SAID

module _ {f : ℕ → ℕ} {Γ Δ : List ℕ} (g : Typed Γ) (e : Embeds f Γ Δ) (t : ℕ) (l : t < ntypes Γ) where
  -- its kind
  pub same_kind : kind Δ (f t) ≡ kind Γ t
  same_kind = e.kinds t

  -- its count
  pub same_count : count Δ (f t) ≡ count Γ t
  same_count = e.counts t l

  -- a place's type stays one
  pub placed_moved : (n j : ℕ) → j < count Γ t → (kind Γ t ≡ 8 → 1 ≤ j) → kind Γ (part Γ t j) ≢ 8 → f (part Γ t j) < n → Placed Δ n (f t) j
  placed_moved n j m k p s = record {
    below = rw (e.types t j l m k) s;
    no_variant = rw (e.types t j l m k, e.kinds (part Γ t j)) p;
  }

  -- a field's too
  pub field_moved : (j : ℕ) → j < count Γ t → (kind Γ t ≡ 8 → 1 ≤ j) → Placed Γ t t j → Placed Δ (f t) (f t) j
  field_moved j m k p = placed_moved (f t) j m k p.no_variant (e.rises (part Γ t j) t p.below l)

-- THE MERGED RECORD HOLDS BOTH

-- a part that is a type's number is the number of one of the record's types
pub part_type : {Γ : List ℕ} → Typed Γ → (t j : ℕ) → t < ntypes Γ → j < count Γ t → (kind Γ t ≡ 8 → 1 ≤ j) → part Γ t j < ntypes Γ
part_type {Γ} g t j l m k = split (shut (kind Γ t))
    (λ s. shut_cases (kind Γ t) s
    (λ z. absurd (omega (arith, g.opaque t l z)))
    (λ z. absurd (omega (arith, g.array t l z)))
    (λ z. omega (arith, (g.payload t l z j (k z) m).below)))
    (λ s. open_cases (kind Γ t) (g.known t) s
    (λ z. omega (arith, (g.variants t l z j m).below))
    (λ z.
    let q : j ≡ 0 = omega (arith, g.pointers t l z) in
    rw q (g.pointees t l z).below)
    (λ z. omega (arith, (g.fields t l z j m).below)))

-- where a type of the first stands: where it stood. A number that is no type's is none's
abbrev pub kept_at : List ℕ → List ℕ → ℕ → ℕ
kept_at Γ Δ t = cond (ltb t (ntypes Γ)) t (ntypes Δ + t)

-- where a type of the second stands
abbrev pub moved_to : List ℕ → ℕ → ℕ
moved_to Γ t = ntypes Γ + t

-- a type of the first stays
pub kept_same : (Γ Δ : List ℕ) (t : ℕ) → t < ntypes Γ → kept_at Γ Δ t ≡ t
kept_same Γ Δ t l = rw (lt-ltb t (ntypes Γ) l) refl

module _ {Γ Δ : List ℕ} (g : Typed Γ) (d : Typed Δ) where
  -- the merged record holds the first
  pub first_embeds : Embeds (kept_at Γ Δ) Γ (merged Γ Δ)
  first_embeds = record {
    kinds = λ t. elim (dec_lt t (ntypes Γ)) [
      | yes l ↦ ap (kind (merged Γ Δ)) (kept_same Γ Δ t l) ∙ kind_first g d t l
      | no l ↦ rw (le-ltb t (ntypes Γ) (omega arith))
          (kind_past (merged Γ Δ) (ntypes Δ + t) (omega (arith, merged_ntypes Γ Δ)) ∙ sym (kind_past Γ t (omega arith)))
    ];
    counts = λ t l. ap (count (merged Γ Δ)) (kept_same Γ Δ t l) ∙ count_first g d t l;
    types = λ t j l m k. ap (λ (u : ℕ). part (merged Γ Δ) u j) (kept_same Γ Δ t l) ∙ part_first g d t j l m
        ∙ sym (kept_same Γ Δ (part Γ t j) (part_type g t j l m k));
    values = λ t l k m. ap (λ (u : ℕ). part (merged Γ Δ) u 0) (kept_same Γ Δ t l) ∙ part_first g d t 0 l m;
    rises = λ s t l m. rw (kept_same Γ Δ s (omega arith), kept_same Γ Δ t m) l;
    inside = λ t. rw (merged_ntypes Γ Δ) (elim (dec_lt t (ntypes Γ)) [
      | yes l ↦ rw (kept_same Γ Δ t l) (lt-ltb t (ntypes Γ + ntypes Δ) (omega arith) ∙ sym (lt-ltb t (ntypes Γ) l))
      | no l ↦ rw (le-ltb t (ntypes Γ) (omega arith)) (le-ltb (ntypes Δ + t) (ntypes Γ + ntypes Δ) (omega arith))
    ]);
  }

  -- and the second
  pub second_embeds : Embeds (moved_to Γ) Δ (merged Γ Δ)
  second_embeds = record {
    kinds = kind_second g d;
    counts = count_second g d;
    types = λ t j l m k. part_second g d t j l m ∙ moved_type (ntypes Γ) Δ t j k;
    values = λ t l k m. part_second g d t 0 l m ∙ moved_value (ntypes Γ) Δ t 0 k refl;
    rises = λ s t l m. omega arith;
    inside = λ t. rw (merged_ntypes Γ Δ) (elim (dec_lt t (ntypes Δ)) [
      | yes l ↦ lt-ltb (ntypes Γ + t) (ntypes Γ + ntypes Δ) (omega arith) ∙ sym (lt-ltb t (ntypes Δ) l)
      | no l ↦ le-ltb (ntypes Γ + t) (ntypes Γ + ntypes Δ) (omega arith) ∙ sym (le-ltb t (ntypes Δ) (omega arith))
    ]);
  }
