-- What the words of the merged record say: the types of the first as they are, those of the second behind them.
use Rattle.std.specs.Prelude.{◌≡◌, length, drop}
use Rattle.std.proofs.Math.Path.{refl}
use Rattle.std.proofs.Common.{◌∙◌, not-suc-le-zero, get_or-append-add}
use mathlib.Core.List.{List, [], ◌∷◌, ◌++◌}
use Prim.Native.Nat.{ℕ, zero, suc, ◌+◌, ◌≤◌, ◌<◌}
use native.Mathlib.Omega.{arith}
use Rattle.std.proofs.Math.Decide.{dec_lt, ℕ_discrete}
use Rattle.std.proofs.Math.ListN.{length-append, length-drop, get_or-append}
use Rattle.std.proofs.Math.Seq.{length-take-le, get_or-take, get_or-drop}
use Rattle.std.proofs.lemmas.List.{get_or_at}
use borrow.Author.Tests.{lt-ltb, le-ltb, eq-eqb, ne_eqb}
use Rattle.model.specs.Words.{word, sum}
use Rattle.model.specs.Types.{ntypes, nparts, kind, count, offset, part}
use Rattle.model.specs.Merge.{kinds, counts, all_parts, moved_part, moved_parts, moved_below, heads, merged}
use Rattle.base.specs.Below.{below_suc, sum_room, sum_append, sum_same}
use Rattle.base.specs.Typed.{Typed, parts_inside}

-- two lists, one behind the other: a word of the first, a word of the second
left_word : (l r : List ℕ) (n i : ℕ) → length l ≡ n → i < n → word (l ++ r) i ≡ word l i
left_word l r n i e h = get_or-append l r 0 i (omega arith)

right_word : (l r : List ℕ) (n i : ℕ) → length l ≡ n → word (l ++ r) (n + i) ≡ word r i
right_word l r n i e = rw (← e) (get_or-append-add l r i 0)

-- LENGTHS

module _ {Γ : List ℕ} (h : Typed Γ) where
  -- as many kinds as types
  pub kinds_long : length (kinds Γ) ≡ ntypes Γ
  unfolding kinds
  kinds_long = length-take-le (ntypes Γ) (drop 2 Γ) (omega (arith, length-drop 2 Γ, h.long))

  -- as many counts
  pub counts_long : length (counts Γ) ≡ ntypes Γ
  unfolding counts
  counts_long = length-take-le (ntypes Γ) (drop (2 + ntypes Γ) Γ) (omega (arith, length-drop (2 + ntypes Γ) Γ, h.long))

  -- and as many parts as the record says
  pub all_parts_long : length (all_parts Γ) ≡ nparts Γ
  unfolding all_parts
  all_parts_long = omega (arith, length-drop (2 + ntypes Γ + ntypes Γ) Γ, h.long)

-- THEIR WORDS

module _ (Γ : List ℕ) where
  -- the kind of a type
  kinds_at : (t : ℕ) → t < ntypes Γ → word (kinds Γ) t ≡ word Γ (2 + t)
  unfolding kinds
  kinds_at t l = get_or-take (ntypes Γ) (drop 2 Γ) t 0 l ∙ get_or-drop 2 Γ t 0

  -- its count
  counts_at : (t : ℕ) → t < ntypes Γ → word (counts Γ) t ≡ word Γ (2 + ntypes Γ + t)
  unfolding counts
  counts_at t l = get_or-take (ntypes Γ) (drop (2 + ntypes Γ) Γ) t 0 l ∙ get_or-drop (2 + ntypes Γ) Γ t 0

  -- a part
  all_parts_at : (i : ℕ) → word (all_parts Γ) i ≡ word Γ (2 + ntypes Γ + ntypes Γ + i)
  unfolding all_parts
  all_parts_at i = get_or-drop (2 + ntypes Γ + ntypes Γ) Γ i 0

-- MOVED PARTS

-- each by what it is
module _ (n : ℕ) (Γ : List ℕ) (t j : ℕ) where
  -- a discriminant stays
  pub moved_value : kind Γ t ≡ 8 → j ≡ 0 → moved_part n Γ t j ≡ part Γ t j
  unfolding moved_part
  moved_value k z = cc (eq-eqb (kind Γ t) 8 k, eq-eqb j 0 z)

  -- a type's number moves up
  pub moved_type : (kind Γ t ≡ 8 → 1 ≤ j) → moved_part n Γ t j ≡ n + part Γ t j
  unfolding moved_part
  moved_type h = elim (ℕ_discrete (kind Γ t) 8) [
    | yes k ↦ cc (ne_eqb j 0 (λ z. omega (arith, h k)), eq-eqb (kind Γ t) 8 k)
    | no k ↦ cc (ne_eqb (kind Γ t) 8 k)
  ]

-- the parts of a type stand before those of the types behind it
part_below : (Γ : List ℕ) (k t j : ℕ) → t < k → j < count Γ t → offset Γ t + j < offset Γ k
unfolding offset
part_below Γ k t j l m = omega (arith, sum_room (count Γ) t k l)

module _ (n : ℕ) (Γ : List ℕ) where
  -- as many as asked for
  pub moved_parts_long : (t j : ℕ) → length (moved_parts n Γ t j) ≡ j
  unfolding moved_parts
  moved_parts_long t zero = refl
  moved_parts_long t (suc j) = length-append (moved_parts n Γ t j) (moved_part n Γ t j ∷ []) ∙ omega (arith, moved_parts_long t j)

  -- as many as there are below t
  pub moved_below_long : (t : ℕ) → length (moved_below n Γ t) ≡ offset Γ t
  unfolding moved_below offset sum
  moved_below_long zero = refl
  moved_below_long (suc t) = length-append (moved_below n Γ t) (moved_parts n Γ t (count Γ t)) ∙ omega (arith, moved_below_long t, moved_parts_long t (count Γ t))

  -- each of them
  moved_parts_at : (t k j : ℕ) → j < k → word (moved_parts n Γ t k) j ≡ moved_part n Γ t j
  unfolding moved_parts
  moved_parts_at t zero j l = absurd (not-suc-le-zero l)
  moved_parts_at t (suc k) j l = below_suc l
      (λ e. rw e (get_or_at (moved_parts n Γ t k) (moved_part n Γ t k) [] 0 k (moved_parts_long t k)))
      (λ m. left_word (moved_parts n Γ t k) (moved_part n Γ t k ∷ []) k j (moved_parts_long t k) m ∙ moved_parts_at t k j m)

  -- part j of the type t
  moved_below_at : (k t j : ℕ) → t < k → j < count Γ t → word (moved_below n Γ k) (offset Γ t + j) ≡ moved_part n Γ t j
  unfolding moved_below
  moved_below_at zero t j l m = absurd (not-suc-le-zero l)
  moved_below_at (suc k) t j l m = below_suc l
      (λ e. rw e (right_word (moved_below n Γ k) (moved_parts n Γ k (count Γ k)) (offset Γ k) j (moved_below_long k)
      ∙ moved_parts_at k (count Γ k) j (rw e at m)))
      (λ d. left_word (moved_below n Γ k) (moved_parts n Γ k (count Γ k)) (offset Γ k) (offset Γ t + j) (moved_below_long k) (part_below Γ k t j d m)
      ∙ moved_below_at k t j d m)

-- THE MERGED RECORD

-- its sizes
module _ (Γ Δ : List ℕ) where
  -- the types of both
  pub merged_ntypes : ntypes (merged Γ Δ) ≡ ntypes Γ + ntypes Δ
  unfolding merged
  merged_ntypes = refl

  -- the parts of both
  pub merged_nparts : nparts (merged Γ Δ) ≡ nparts Γ + nparts Δ
  unfolding merged
  merged_nparts = refl

module _ {Γ Δ : List ℕ} (g : Typed Γ) (d : Typed Δ) where
  abbrev both : ℕ
  both = ntypes Γ + ntypes Δ

  -- kinds and counts
  pub heads_long : length (heads Γ Δ) ≡ both + both
  unfolding heads
  heads_long = length-append (kinds Γ ++ kinds Δ) (counts Γ ++ counts Δ)
      ∙ omega (arith, length-append (kinds Γ) (kinds Δ), length-append (counts Γ) (counts Δ), kinds_long g, kinds_long d, counts_long g, counts_long d)

  -- all of it
  pub merged_long : length (merged Γ Δ) ≡ 2 + both + both + (nparts Γ + nparts Δ)
  unfolding merged
  merged_long =
      omega (
        arith,
        length-append (heads Γ Δ) (all_parts Γ ++ moved_below (ntypes Γ) Δ (ntypes Δ)),
        heads_long,
        length-append (all_parts Γ) (moved_below (ntypes Γ) Δ (ntypes Δ)),
        all_parts_long g,
        moved_below_long (ntypes Γ) Δ (ntypes Δ),
        d.added,
      )

  -- behind the sizes
  rest_word : (i : ℕ) → word (merged Γ Δ) (2 + i) ≡ word (heads Γ Δ ++ (all_parts Γ ++ moved_below (ntypes Γ) Δ (ntypes Δ))) i
  unfolding merged
  rest_word i = right_word (both ∷ (nparts Γ + nparts Δ) ∷ []) (heads Γ Δ ++ (all_parts Γ ++ moved_below (ntypes Γ) Δ (ntypes Δ))) 2 i refl

  -- a kind or a count
  head_word : (i : ℕ) → i < both + both → word (merged Γ Δ) (2 + i) ≡ word (heads Γ Δ) i
  head_word i l = rest_word i
      ∙ left_word (heads Γ Δ) (all_parts Γ ++ moved_below (ntypes Γ) Δ (ntypes Δ)) (both + both) i heads_long l

  -- a part
  part_word : (i : ℕ) → word (merged Γ Δ) (2 + both + both + i) ≡ word (all_parts Γ ++ moved_below (ntypes Γ) Δ (ntypes Δ)) i
  part_word i =
      let e : 2 + both + both + i ≡ 2 + (both + both + i) = omega arith in
      rw e (rest_word (both + both + i) ∙ right_word (heads Γ Δ) (all_parts Γ ++ moved_below (ntypes Γ) Δ (ntypes Δ)) (both + both) i heads_long)

  -- a kind
  kind_word : (i : ℕ) → i < both → word (merged Γ Δ) (2 + i) ≡ word (kinds Γ ++ kinds Δ) i
  unfolding heads
  kind_word i l = head_word i (omega arith)
      ∙ left_word (kinds Γ ++ kinds Δ) (counts Γ ++ counts Δ) both i (length-append (kinds Γ) (kinds Δ) ∙ omega (arith, kinds_long g, kinds_long d)) l

  -- a count
  count_word : (i : ℕ) → i < both → word (merged Γ Δ) (2 + both + i) ≡ word (counts Γ ++ counts Δ) i
  unfolding heads
  count_word i l =
      let e : 2 + both + i ≡ 2 + (both + i) = omega arith in
      rw e (head_word (both + i) (omega arith)
      ∙ right_word (kinds Γ ++ kinds Δ) (counts Γ ++ counts Δ) both i (length-append (kinds Γ) (kinds Δ) ∙ omega (arith, kinds_long g, kinds_long d)))

  -- A TYPE OF THE FIRST

  -- its kind
  pub kind_first : (t : ℕ) → t < ntypes Γ → kind (merged Γ Δ) t ≡ kind Γ t
  unfolding kind
  kind_first t l =
      rw (lt-ltb t (ntypes Γ) l, merged_ntypes Γ Δ, lt-ltb t both (omega arith))
      (kind_word t (omega arith) ∙ left_word (kinds Γ) (kinds Δ) (ntypes Γ) t (kinds_long g) l ∙ kinds_at Γ t l)

  -- its count
  pub count_first : (t : ℕ) → t < ntypes Γ → count (merged Γ Δ) t ≡ count Γ t
  unfolding count
  count_first t l =
      rw (merged_ntypes Γ Δ) (count_word t (omega arith) ∙ left_word (counts Γ) (counts Δ) (ntypes Γ) t (counts_long g) l ∙ counts_at Γ t l)

  -- where its parts begin
  offset_first : (t : ℕ) → t ≤ ntypes Γ → offset (merged Γ Δ) t ≡ offset Γ t
  unfolding offset
  offset_first t l = sum_same (count (merged Γ Δ)) (count Γ) t (λ i m. count_first i (omega arith))

  -- a part of it
  pub part_first : (t j : ℕ) → t < ntypes Γ → j < count Γ t → part (merged Γ Δ) t j ≡ part Γ t j
  unfolding part
  part_first t j l m =
      let e : 2 + both + both + offset Γ t + j ≡ 2 + both + both + (offset Γ t + j) = omega arith in
      let f : 2 + ntypes Γ + ntypes Γ + offset Γ t + j ≡ 2 + ntypes Γ + ntypes Γ + (offset Γ t + j) = omega arith in
      rw (merged_ntypes Γ Δ, offset_first t (omega arith), e, f)
      (part_word (offset Γ t + j)
      ∙ left_word (all_parts Γ) (moved_below (ntypes Γ) Δ (ntypes Δ)) (nparts Γ) (offset Γ t + j) (all_parts_long g) (omega (arith, parts_inside g t l))
      ∙ all_parts_at Γ (offset Γ t + j))

  -- A TYPE OF THE SECOND

  -- its kind; past the last type both are none
  pub kind_second : (t : ℕ) → kind (merged Γ Δ) (ntypes Γ + t) ≡ kind Δ t
  unfolding kind
  kind_second t = elim (dec_lt t (ntypes Δ)) [
    | yes l ↦ rw (lt-ltb t (ntypes Δ) l, merged_ntypes Γ Δ, lt-ltb (ntypes Γ + t) both (omega arith))
        (kind_word (ntypes Γ + t) (omega arith) ∙ right_word (kinds Γ) (kinds Δ) (ntypes Γ) t (kinds_long g) ∙ kinds_at Δ t l)
    | no l ↦ rw (le-ltb t (ntypes Δ) (omega arith), merged_ntypes Γ Δ, le-ltb (ntypes Γ + t) both (omega arith)) refl
  ]

  -- its count
  pub count_second : (t : ℕ) → t < ntypes Δ → count (merged Γ Δ) (ntypes Γ + t) ≡ count Δ t
  unfolding count
  count_second t l =
      rw (merged_ntypes Γ Δ) (count_word (ntypes Γ + t) (omega arith) ∙ right_word (counts Γ) (counts Δ) (ntypes Γ) t (counts_long g) ∙ counts_at Δ t l)

  -- where its parts begin: behind the first's
  pub offset_second : (t : ℕ) → t ≤ ntypes Δ → offset (merged Γ Δ) (ntypes Γ + t) ≡ nparts Γ + offset Δ t
  unfolding offset
  offset_second t l =
      let own : sum (count (merged Γ Δ)) (ntypes Γ) ≡ nparts Γ = offset_first (ntypes Γ) (omega arith) ∙ g.added in
      sum_append (count (merged Γ Δ)) (ntypes Γ) t
      ∙ omega (arith, own, sum_same (λ i. count (merged Γ Δ) (ntypes Γ + i)) (count Δ) t (λ i m. count_second i (omega arith)))

  -- a part of it, moved
  pub part_second : (t j : ℕ) → t < ntypes Δ → j < count Δ t → part (merged Γ Δ) (ntypes Γ + t) j ≡ moved_part (ntypes Γ) Δ t j
  unfolding part
  part_second t j l m =
      let e : 2 + both + both + (nparts Γ + offset Δ t) + j ≡ 2 + both + both + (nparts Γ + (offset Δ t + j)) = omega arith in
      rw (merged_ntypes Γ Δ, offset_second t (omega arith), e)
      (part_word (nparts Γ + (offset Δ t + j))
      ∙ right_word (all_parts Γ) (moved_below (ntypes Γ) Δ (ntypes Δ)) (nparts Γ) (offset Δ t + j) (all_parts_long g)
      ∙ moved_below_at (ntypes Γ) Δ (ntypes Δ) t j l m)
