-- What leads from trees in the arrays to others, step by step. Assumes nothing.
use mathlib.Core.Path.{◌≡◌, sym, ◌∙◌, ap}
use mathlib.Core.Bool.{false}
use mathlib.Core.List.{List, [], ◌∷◌}
use Prim.Native.Nat.{ℕ, suc, ◌+◌, ◌≤◌, ◌<◌}
use native.Mathlib.Nat.{add-zero}
use native.Mathlib.Omega.{arith}
use lib.ListN.{length, get_or}
use borrow.Author.Tests.{eq-eqb, ne_eqb}
use Rattle.std.specs.Prelude.{Result, Ok, Err}
use Rattle.model.specs.Types.{kind, kids}
use Rattle.model.specs.Tree.{Tree, size, sizes}
use Rattle.model.specs.Place.{Fold, here}
use Rattle.model.specs.Collect.{unfolds, collect, collects}
use Rattle.model.specs.Record.{Entry, verb_entry}
use Rattle.base.specs.Kinds.{Known}
use Rattle.records.specs.Here.{Coded}
use Rattle.records.specs.Coded.{coded_folded, coded_opened, coded_none, coded_split}
use Rattle.refusal.specs.declared.Refusal.{Refusal}
use Rattle.refusal.specs.declared.Refusal.TheVariants.{OtherVariant}
use Rattle.type_record.specs.Kinds.{kind_named}
use Rattle.type_record.specs.declared.kinds.Kind.{Kind}
use Rattle.statements.specs.declared.Out.{Out}
use Rattle.statements.specs.Kept.{point_of, Counted, Puts}
use Rattle.collectors.specs.declared.got.Got.{Got}
use Rattle.collectors.specs.Trail.{lines, lines_of, way}
use Rattle.collectors.specs.Gets.{read_to, StandAll, tells_refused, tells_done, Opening, Leading, LeadingAll}
use Rattle.collectors.proofs.Lines.{way_in, lines_one}
use Rattle.collectors.proofs.Telling.{ended_at, ended_none, told, tells_again, tells_still, tells_lift, tells_first, tells_both}
use Rattle.collectors.proofs.Reading.{known_code}
use Rattle.collectors.proofs.Standing.{stands_first, stands_rest}

module _ {Γ fs ws gs vs out : List ℕ} {i j t : ℕ} {q : List Entry} {o : Out} where
  -- both are folded
  pub lead_leaves : {a : Got} → Known Γ → get_or fs i 0 ≡ 0 → get_or gs j 0 ≡ 0 → Counted out o → a ≡ read_to (i + 1) (j + 1) o
      → Leading Γ out o out (Ok a) q fs ws i gs vs j t
  unfolding collect unfolds size lines
  lead_leaves known z y n e = record { tree = λ x x' g h. rw (coded_folded known g z, coded_folded known h y) (tells_done (ended_none n e)) }

  -- the first tree is folded: what opens it tells all
  module _ {out' : List ℕ} (known : Known Γ) (z : get_or fs i 0 ≡ 0) where
    -- refused
    pub lead_refused : {x : Refusal} → Opening Γ out o out' (Err x) q gs vs j t → Leading Γ out o out' (Err x) q fs ws i gs vs j t
    unfolding collect
    lead_refused A = record { tree = λ x y g h. rw (coded_folded known g z) (tells_still (A.tree y h)) }

    -- recorded
    pub lead_open : {a b : Got} → Opening Γ out o out' (Ok a) q gs vs j t → b ≡ read_to (i + 1) a.second a.out → Leading Γ out o out' (Ok b) q fs ws i gs vs j t
    unfolding collect size
    lead_open A e = record { tree = λ x y g h. rw (coded_folded known g z) (tells_again (A.tree y h) e) }

  -- the first tree is open
  module _ (f : get_or fs i 0 ≡ 0 → ⊥) where
    -- the second is folded
    pub lead_fold : {out' : List ℕ} {o' : Out} {a : Got} {e : ℕ} → Known Γ → get_or gs j 0 ≡ 0 → Puts 1 out o out' o' (point_of o ∷ (15, 0) ∷ q) × (o'.point ≡ o.point)
        → ((x : Tree) → Coded Γ fs ws i t x → e ≡ i + size x) → a ≡ read_to e (j + 1) o' → Leading Γ out o out' (Ok a) q fs ws i gs vs j t
    unfolding collect size verb_entry
    lead_fold {a} {e = n} known z w g e =
        record {
          tree = λ x y h k.
              let O = coded_opened h f in
              let end : i + suc (sizes O.children) ≡ n = sym (g x h ∙ ap (λ (u : Tree). i + size u) O.is) in
              rw (O.is, coded_folded known k z, end) (tells_done {g = a} {cs = here Fold ∷ []} (rw (lines_one (point_of o) q Fold) (ended_at e w.0 w.1)));
        }

    -- the second is open
    module _ (d' : get_or gs j 0 ≡ 0 → ⊥) where
      -- at another variant
      pub lead_apart : (get_or ws i 0 ≡ get_or vs j 0 → ⊥) → Leading Γ out o out (Err OtherVariant) q fs ws i gs vs j t
      unfolding collect
      lead_apart e =
          record {
            tree = λ x y h k. rw ((coded_opened h f).is, (coded_opened k d').is, ne_eqb (get_or ws i 0) (get_or vs j 0) e) tells_refused;
          }

      -- at the same
      pub lead_below : {r : Result Got Refusal} {us out' : List ℕ} {m : Kind} {v : ℕ} → Known Γ → get_or ws i 0 ≡ get_or vs j 0 → us ≡ kids Γ t (get_or ws i 0) → m ≡ kind_named (kind Γ t) → v ≡ get_or ws i 0
          → LeadingAll Γ out o out' r (way q (way_in false m v)) fs ws (i + 1) gs vs (j + 1) us → Leading Γ out o out' r q fs ws i gs vs j t
      unfolding collect size
      lead_below known e d n w A =
          record {
            tree = λ x y h k.
                let O = coded_opened h f in
                let Q = coded_opened k d' in
                let end : i + suc (sizes O.children) ≡ i + 1 + sizes O.children = omega arith in
                let fin : j + suc (sizes Q.children) ≡ j + 1 + sizes Q.children = omega arith in
                let T = (rw (d, n, w) at A).trees O.children Q.children O.below (rw (← e) at Q.below) in
                let lift = tells_lift (point_of o) q false (kind_named (kind Γ t)) (get_or ws i 0) T in
                rw (O.is, Q.is, eq-eqb (get_or ws i 0) (get_or vs j 0) e, end, fin) (rw (known_code Γ known t) at lift);
          }

-- the trees of some types
module _ {Γ fs ws gs vs us out : List ℕ} {i j : ℕ} {o : Out} where
  -- of none
  pub leads_none : {q : ℕ → List Entry} {a : Got} → us ≡ [] → Counted out o → a ≡ read_to i j o → LeadingAll Γ out o out (Ok a) q fs ws i gs vs j us
  unfolding collect sizes lines_of
  leads_none z h e =
      record { trees = λ xs ys g l. rw (coded_none (rw z at g), coded_none (rw z at l), add-zero i, add-zero j) (tells_done (ended_none h e)) }

  -- the first of them is refused
  pub leads_refused : {ts out₁ : List ℕ} {t : ℕ} {q₀ : List Entry} {x : Refusal} {q : ℕ → List Entry} → us ≡ t ∷ ts
      → Leading Γ out o out₁ (Err x) q₀ fs ws i gs vs j t → LeadingAll Γ out o out₁ (Err x) q fs ws i gs vs j us
  unfolding collect
  leads_refused e A =
      record {
        trees = λ xs ys h g.
            let S = coded_split (rw e at h) in
            let R = coded_split (rw e at g) in
            rw (S.is, R.is) (tells_first (collects Γ S.tail R.tail) (A.tree S.head R.head S.here R.here));
      }

  -- it is recorded
  module _ {ts out₁ : List ℕ} {t : ℕ} {q₀ : List Entry} {a : Got} (e : us ≡ t ∷ ts) (A : Leading Γ out o out₁ (Ok a) q₀ fs ws i gs vs j t) where
    -- where the others stand
    pub leads_next : {n : ℕ} → StandAll Γ fs ws i us n → StandAll Γ gs vs j us n
        → StandAll Γ fs ws a.first ts n × StandAll Γ gs vs a.second ts n × (i < a.first) × (a.first ≤ length fs) × Counted out₁ a.out
    leads_next {n} h g =
        let S = stands_first {m = n} h e (omega arith) in
        let R = stands_first {m = n} g e (omega arith) in
        let X = stands_rest h e (λ y c. (told (A.tree y R.tree c R.coded)).2.first) in
        let Y = stands_rest g e (λ y c. (told (A.tree S.tree y S.coded c)).2.second) in
        (X.0, Y.0, X.1, X.2, (told (A.tree S.tree R.tree S.coded R.coded)).2.puts.counted)

    -- then the others are told
    pub leads_more : {out₂ : List ℕ} {q q₁ : ℕ → List Entry} {s : Result Got Refusal} → q 0 ≡ q₀ → ((n : ℕ) → q (suc n) ≡ q₁ n)
        → LeadingAll Γ out₁ a.out out₂ s q₁ fs ws a.first gs vs a.second ts → LeadingAll Γ out o out₂ s q fs ws i gs vs j us
    unfolding collect sizes
    leads_more {q} {q₁} d f B =
        record {
          trees = λ xs ys h g.
              let S = coded_split (rw e at h) in
              let R = coded_split (rw e at g) in
              let T = A.tree S.head R.head S.here R.here in
              let E = (told T).2 in
              let end : i + (size S.head + sizes S.tail) ≡ a.first + sizes S.tail = omega (arith, E.first) in
              let fin : j + (size R.head + sizes R.tail) ≡ a.second + sizes R.tail = omega (arith, E.second) in
              rw (S.is, R.is, end, fin) (tells_both q q₀ q₁ d f T (B.trees S.tail R.tail (rw E.first S.rest) (rw E.second R.rest)));
        }
