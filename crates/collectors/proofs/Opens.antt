-- What opens folded trees until they are as those in the arrays, step by step. Assumes nothing.
use mathlib.Core.Path.{◌≡◌, ◌∙◌}
use mathlib.Core.Logic.{◌≢◌}
use mathlib.Core.Bool.{Bool, true, false}
use mathlib.Core.List.{List, [], ◌∷◌}
use Prim.Native.Nat.{ℕ, suc, ◌+◌, ◌≤◌, ◌<◌}
use native.Mathlib.Nat.{add-zero}
use native.Mathlib.Omega.{arith}
use lib.ListN.{length, get_or}
use borrow.Author.Tests.{eq-eqb, ne_eqb}
use Rattle.std.specs.Prelude.{Result, Ok, Err}
use Rattle.model.specs.Types.{kind, kids}
use Rattle.model.specs.Tree.{size, sizes}
use Rattle.model.specs.Place.{Unfold, here}
use Rattle.model.specs.Collect.{unfolds, unfoldss, folded}
use Rattle.model.specs.Record.{Entry, verb_entry}
use Rattle.base.specs.Kinds.{Known}
use Rattle.records.specs.Coded.{coded_folded, coded_opened, coded_none, coded_split}
use Rattle.refusal.specs.declared.Refusal.{Refusal}
use Rattle.refusal.specs.declared.Refusal.TheVariants.{BareVariant}
use Rattle.type_record.specs.Kinds.{kind_named}
use Rattle.type_record.specs.declared.kinds.Kind.{Kind}
use Rattle.statements.specs.declared.Out.{Out}
use Rattle.statements.specs.Kept.{point_of, Counted, Puts}
use Rattle.collectors.specs.declared.got.Got.{Got}
use Rattle.collectors.specs.Trail.{lines, lines_of, way}
use Rattle.collectors.specs.Gets.{read_to, Zeros, StandAll, tells_refused, tells_done, Opening, OpeningAll}
use Rattle.collectors.proofs.Lines.{way_in, lines_one}
use Rattle.collectors.proofs.Telling.{ended_at, ended_none, told, tells_lift, tells_first, tells_both}
use Rattle.collectors.proofs.Shut.{folded_sizes, zeros_tell}
use Rattle.collectors.proofs.Reading.{known_code}
use Rattle.collectors.proofs.Standing.{stands_first, stands_rest}

module _ {Γ fs ws out : List ℕ} {i t : ℕ} {q : List Entry} {o : Out} (known : Known Γ) where
  -- the tree is folded
  pub unfold_leaf : {g : Got} → get_or fs i 0 ≡ 0 → Counted out o → g ≡ read_to 0 (i + 1) o → Opening Γ out o out (Ok g) q fs ws i t
  unfolding unfolds size lines
  unfold_leaf z h e = record { tree = λ x c. rw (coded_folded known c z) (tells_done (ended_none h e)) }

  -- it is open; the walk over its children's forms tells b
  module _ {c : ℕ} {b : Bool} (f : get_or fs i 0 ≡ 0 → ⊥) (l : length (kids Γ t (get_or ws i 0)) ≡ c) (Z : Zeros fs (i + 1) c b) where
    -- a variant whose fields are all folded
    pub unfold_seven : b ≡ true → kind Γ t ≡ 7 → Opening Γ out o out (Err BareVariant) q fs ws i t
    unfolding unfolds
    unfold_seven y k =
        record {
          tree = λ x g.
              let O = coded_opened g f in
              let shut : folded O.children ≡ true = zeros_tell known _ O.below l Z ∙ y in
              rw (O.is, shut, eq-eqb (kind Γ t) 7 k) tells_refused;
        }

    -- another node whose children are all folded
    pub unfold_one : {out' : List ℕ} {o' : Out} {g : Got} → b ≡ true → kind Γ t ≢ 7 → Puts 1 out o out' o' (point_of o ∷ (16, 0) ∷ q) × (o'.point ≡ o.point) → g ≡ read_to 0 (i + 1 + c) o'
        → Opening Γ out o out' (Ok g) q fs ws i t
    unfolding unfolds size verb_entry
    unfold_one {g} y k w e =
        record {
          tree = λ x h.
              let O = coded_opened h f in
              let shut : folded O.children ≡ true = zeros_tell known _ O.below l Z ∙ y in
              let end : i + suc (sizes O.children) ≡ i + 1 + c = omega (arith, folded_sizes _ O.below shut) in
              rw (O.is, shut, ne_eqb (kind Γ t) 7 k, end) (tells_done {g = g} {cs = here Unfold ∷ []} (rw (lines_one (point_of o) q Unfold) (ended_at e w.0 w.1)));
        }

    -- some child is open
    pub unfold_below : {r : Result Got Refusal} {us out' : List ℕ} {k : Kind} {v : ℕ} → b ≡ false → us ≡ kids Γ t (get_or ws i 0) → k ≡ kind_named (kind Γ t) → v ≡ get_or ws i 0
        → OpeningAll Γ out o out' r (way q (way_in true k v)) fs ws (i + 1) us → Opening Γ out o out' r q fs ws i t
    unfolding unfolds size
    unfold_below y d e h A =
        record {
          tree = λ x g.
              let O = coded_opened g f in
              let some : folded O.children ≡ false = zeros_tell known _ O.below l Z ∙ y in
              let end : i + suc (sizes O.children) ≡ i + 1 + sizes O.children = omega arith in
              let lift = tells_lift (point_of o) q true (kind_named (kind Γ t)) (get_or ws i 0) ((rw (d, e, h) at A).trees O.children O.below) in
              rw (O.is, some, end) (rw (known_code Γ known t) at lift);
        }

-- the trees of some types
module _ {Γ fs ws us out : List ℕ} {i : ℕ} {o : Out} where
  -- of none
  pub unfolds_none : {q : ℕ → List Entry} {g : Got} → us ≡ [] → Counted out o → g ≡ read_to 0 i o → OpeningAll Γ out o out (Ok g) q fs ws i us
  unfolding unfolds sizes lines_of
  unfolds_none z h e = record { trees = λ xs c. rw (coded_none (rw z at c), add-zero i) (tells_done (ended_none h e)) }

  -- the first of them is refused
  pub unfolds_refused : {ts out₁ : List ℕ} {t : ℕ} {q₀ : List Entry} {x : Refusal} {q : ℕ → List Entry} → us ≡ t ∷ ts → Opening Γ out o out₁ (Err x) q₀ fs ws i t
      → OpeningAll Γ out o out₁ (Err x) q fs ws i us
  unfolding unfolds
  unfolds_refused e A =
      record {
        trees = λ xs h.
            let S = coded_split (rw e at h) in
            rw S.is (tells_first (unfoldss Γ S.tail) (A.tree S.head S.here));
      }

  -- it is recorded
  module _ {ts out₁ : List ℕ} {t : ℕ} {q₀ : List Entry} {g : Got} (e : us ≡ t ∷ ts) (A : Opening Γ out o out₁ (Ok g) q₀ fs ws i t) where
    -- where the others stand
    pub unfolds_next : {n : ℕ} → StandAll Γ fs ws i us n → StandAll Γ fs ws g.second ts n × (i < g.second) × (g.second ≤ length fs) × Counted out₁ g.out
    unfolds_next {n} h =
        let R = stands_rest h e (λ y c. (told (A.tree y c)).2.second) in
        let S = stands_first {m = n} h e (omega arith) in
        (R.0, R.1, R.2, (told (A.tree S.tree S.coded)).2.puts.counted)

    -- then the others are told
    pub unfolds_more : {out₂ : List ℕ} {q q₁ : ℕ → List Entry} {s : Result Got Refusal} → q 0 ≡ q₀ → ((n : ℕ) → q (suc n) ≡ q₁ n)
        → OpeningAll Γ out₁ g.out out₂ s q₁ fs ws g.second ts → OpeningAll Γ out o out₂ s q fs ws i us
    unfolding unfolds sizes
    unfolds_more {q} {q₁} a b B =
        record {
          trees = λ xs h.
              let S = coded_split (rw e at h) in
              let T = A.tree S.head S.here in
              let d = (told T).2.second in
              let end : i + (size S.head + sizes S.tail) ≡ g.second + sizes S.tail = omega (arith, d) in
              rw (S.is, end) (tells_both q q₀ q₁ a b T (B.trees S.tail (rw d S.rest)));
        }
