-- Words written one behind the other: a copy, the parts of a type, the parts of all types.
use borrow.Rule.Slice.PartMut.{put_mid}
use mathlib.Core.Path.{◌≡◌, refl, sym, ap, ap₂, ◌∙◌}
use mathlib.Core.List.{List, [], ◌∷◌, ◌++◌, append_assoc}
use Prim.Native.Nat.{ℕ, ◌+◌, ◌≤◌}
use native.Mathlib.Numerals.{add-one}
use native.Mathlib.Omega.{arith}
use lib.ListN.{length, take, drop, set, length-drop, length-append}
use lib.Seq.{sets, take_all}
use Rattle.std.proofs.Common.{drop-drop}
use Rattle.std.proofs.lemmas.List.Edits.{sets-eq}
use Rattle.model.specs.Words.{sum}
use Rattle.model.specs.Types.{ntypes, nparts, count, offset}
use Rattle.model.specs.Merge.{kinds, counts, all_parts, moved_part, moved_parts, moved_below, heads, merged}
use Rattle.base.specs.Below.{sum_suc}
use Rattle.base.specs.Words.{sets_append}
use Rattle.base.specs.Typed.{Typed}
use Rattle.records.specs.Window.{window}
use Rattle.moved.specs.Merged.{kinds_long, counts_long, all_parts_long, moved_parts_long, moved_below_long}

-- some words more
words_put : (l : List ℕ) (i k : ℕ) (vs ws : List ℕ) {m m' : List ℕ} → length vs ≡ k → m ≡ sets l i vs → m' ≡ sets m (i + k) ws → m' ≡ sets l i (vs ++ ws)
words_put l i k vs ws e p q = q ∙ rw (p, ← e) (sym (sets_append l i vs ws))

-- A COPY: ws is put over the k words from `at` on
pub copy_put : (l vs ws : List ℕ) (at k : ℕ) → ws ≡ vs → k ≡ length vs → at + length vs ≤ length l → put_mid at k l ws ≡ sets l at vs
copy_put l vs ws at k e d h =
    rw (sets-eq vs l at h, append_assoc) (ap₂ (λ (x y : List ℕ). take at l ++ (x ++ y)) e (drop-drop k at l ∙ ap (λ (j : ℕ). drop (at + j) l) d))

-- PARTS

module _ (n : ℕ) (Γ : List ℕ) where
  -- none yet
  pub no_parts : (l : List ℕ) (at t : ℕ) → l ≡ sets l at (moved_parts n Γ t 0)
  unfolding moved_parts
  no_parts l at t = refl

  -- one part more
  parts_snoc : (t j : ℕ) → moved_parts n Γ t (j + 1) ≡ moved_parts n Γ t j ++ (moved_part n Γ t j ∷ [])
  unfolding moved_parts
  parts_snoc t j = ap (moved_parts n Γ t) (add-one j)

  -- and it is written
  pub part_one : (l : List ℕ) (at t j : ℕ) (x : ℕ) {m : List ℕ} → x ≡ moved_part n Γ t j → m ≡ sets l at (moved_parts n Γ t j)
      → set m (at + j) x ≡ sets l at (moved_parts n Γ t (j + 1))
  part_one l at t j x e p =
      words_put l at j (moved_parts n Γ t j) (x ∷ []) (moved_parts_long n Γ t j) p refl
      ∙ ap (sets l at) (ap (λ (y : ℕ). moved_parts n Γ t j ++ (y ∷ [])) e ∙ sym (parts_snoc t j))

  -- none yet of any type
  pub no_types : (l : List ℕ) (at : ℕ) → l ≡ sets l at (moved_below n Γ 0)
  unfolding moved_below
  no_types l at = refl

  -- one type more
  below_snoc : (t : ℕ) → moved_below n Γ (t + 1) ≡ moved_below n Γ t ++ moved_parts n Γ t (count Γ t)
  unfolding moved_below
  below_snoc t = ap (moved_below n Γ) (add-one t)

  -- and its parts are written
  pub type_one : (l : List ℕ) (at t q : ℕ) (m : List ℕ) {m' : List ℕ} → q ≡ at + offset Γ t → m ≡ sets l at (moved_below n Γ t)
      → m' ≡ sets m q (moved_parts n Γ t (count Γ t)) → m' ≡ sets l at (moved_below n Γ (t + 1))
  type_one l at t q m e p r =
      words_put l at (offset Γ t) (moved_below n Γ t) (moved_parts n Γ t (count Γ t)) (moved_below_long n Γ t) p (r ∙ ap (λ (k : ℕ). sets m k (moved_parts n Γ t (count Γ t))) e)
      ∙ ap (sets l at) (sym (below_snoc t))

-- WHERE THEY BEGIN

-- the first type's
pub offset_none : (Γ : List ℕ) → offset Γ 0 ≡ 0
unfolding offset sum
offset_none Γ = refl

-- the next one's
pub offset_one : (Γ : List ℕ) (t : ℕ) → offset Γ (t + 1) ≡ offset Γ t + count Γ t
unfolding offset
offset_one Γ t = ap (offset Γ) (add-one t) ∙ sum_suc (count Γ) t

-- BOTH RECORDS

-- kinds and counts
pub heads_put : {Γ Δ : List ℕ} (g : Typed Γ) (d : Typed Δ) (l : List ℕ) {m m₂ m₃ m₄ : List ℕ} {i j k : ℕ} → m ≡ sets l 2 (window Γ 2 (ntypes Γ)) → i ≡ 2 + ntypes Γ
    → m₂ ≡ sets m i (window Δ 2 (ntypes Δ)) → j ≡ i + ntypes Δ → m₃ ≡ sets m₂ j (window Γ (2 + ntypes Γ) (ntypes Γ)) → k ≡ j + ntypes Γ
    → m₄ ≡ sets m₃ k (window Δ (2 + ntypes Δ) (ntypes Δ)) → m₄ ≡ sets l 2 (heads Γ Δ)
unfolding heads kinds counts
heads_put {Γ} {Δ} g d l {m} {m₂} {m₃} {m₄} {i} {j} {k} e ei e₂ ej e₃ ek e₄ =
    let both : length (kinds Γ ++ kinds Δ) ≡ ntypes Γ + ntypes Δ = length-append (kinds Γ) (kinds Δ) ∙ omega (arith, kinds_long g, kinds_long d) in
    let second : m₂ ≡ sets m (2 + ntypes Γ) (kinds Δ) = rw ei at e₂ in
    let fourth : m₄ ≡ sets m₃ (j + ntypes Γ) (counts Δ) = rw ek at e₄ in
    let heading : m₂ ≡ sets l 2 (kinds Γ ++ kinds Δ) = words_put l 2 (ntypes Γ) (kinds Γ) (kinds Δ) (kinds_long g) e second in
    let counting : m₄ ≡ sets m₂ j (counts Γ ++ counts Δ) = words_put m₂ j (ntypes Γ) (counts Γ) (counts Δ) (counts_long g) e₃ fourth in
    let z : j ≡ 2 + (ntypes Γ + ntypes Δ) = omega arith in
    words_put l 2 (ntypes Γ + ntypes Δ) (kinds Γ ++ kinds Δ) (counts Γ ++ counts Δ) both heading (rw z at counting)

module _ {Γ : List ℕ} (g : Typed Γ) where
  -- the first's parts are the last words of its record
  parts_window : window Γ (2 + ntypes Γ + ntypes Γ) (nparts Γ) ≡ all_parts Γ
  unfolding all_parts
  parts_window = take_all (nparts Γ) (drop (2 + ntypes Γ + ntypes Γ) Γ) (omega (arith, length-drop (2 + ntypes Γ + ntypes Γ) Γ, g.long))

  -- all of it
  pub merged_put : (Δ : List ℕ) (l : List ℕ) {m m₂ m₃ m₄ : List ℕ} {i j : ℕ} → m ≡ sets l 0 ((ntypes Γ + ntypes Δ) ∷ (nparts Γ + nparts Δ) ∷ [])
      → m₂ ≡ sets m 2 (heads Γ Δ) → i ≡ 2 + length (heads Γ Δ) → m₃ ≡ sets m₂ i (window Γ (2 + ntypes Γ + ntypes Γ) (nparts Γ)) → j ≡ i + nparts Γ
      → m₄ ≡ sets m₃ j (moved_below (ntypes Γ) Δ (ntypes Δ)) → m₄ ≡ sets l 0 (merged Γ Δ)
  unfolding merged
  merged_put Δ l {m} {m₂} {m₃} {m₄} {i} {j} e e₂ ei e₃ ej e₄ =
      let rest : List ℕ = moved_below (ntypes Γ) Δ (ntypes Δ) in
      let third : m₃ ≡ sets m₂ i (all_parts Γ) = rw parts_window at e₃ in
      let fourth : m₄ ≡ sets m₃ (i + nparts Γ) rest = rw ej at e₄ in
      let parts : m₄ ≡ sets m₂ i (all_parts Γ ++ rest) = words_put m₂ i (nparts Γ) (all_parts Γ) rest (all_parts_long g) third fourth in
      let behind : m₄ ≡ sets m 2 (heads Γ Δ ++ (all_parts Γ ++ rest)) = words_put m 2 (length (heads Γ Δ)) (heads Γ Δ) (all_parts Γ ++ rest) refl e₂ (rw ei at parts) in
      words_put l 0 2 ((ntypes Γ + ntypes Δ) ∷ (nparts Γ + nparts Δ) ∷ []) (heads Γ Δ ++ (all_parts Γ ++ rest)) refl e behind
