-- What a return owes of trees in the arrays, step by step. Assumes nothing.
use mathlib.Core.Path.{◌≡◌}
use mathlib.Core.Logic.{◌≢◌}
use mathlib.Core.Bool.{true}
use mathlib.Core.List.{List, [], ◌∷◌, ◌++◌, append-nil}
use Prim.Native.Nat.{ℕ, suc, ◌+◌, ◌≤◌, ◌<◌}
use native.Mathlib.Nat.{add-zero}
use native.Mathlib.Omega.{arith}
use lib.ListN.{length, get_or}
use borrow.Author.Tests.{eq-eqb, ne_eqb}
use Rattle.model.specs.Types.{kind, kids}
use Rattle.model.specs.Tree.{Tree, size, sizes}
use Rattle.model.specs.Place.{deref, Fold, here, push}
use Rattle.model.specs.Collect.{folds}
use Rattle.model.specs.Record.{Entry, elem_entry, verb_entry}
use Rattle.base.specs.Kinds.{Known}
use Rattle.records.specs.Here.{Coded}
use Rattle.records.specs.Coded.{coded_folded, coded_opened, coded_none, coded_split}
use Rattle.type_record.specs.Kinds.{kind_named}
use Rattle.type_record.specs.declared.kinds.Kind.{Kind}
use Rattle.statements.specs.declared.Out.{Out}
use Rattle.statements.specs.Kept.{point_of, Counted, Puts}
use Rattle.collectors.specs.declared.got.Got.{Got}
use Rattle.collectors.specs.Trail.{line, lines, lines_of, way}
use Rattle.collectors.specs.Gets.{read_to, StandAll, tells_done, Owing, OwingAll}
use Rattle.collectors.proofs.Lines.{way_in}
use Rattle.collectors.proofs.Telling.{ended_at, ended_none, told_done, tells_lift, tells_both}
use Rattle.collectors.proofs.Reading.{known_code}
use Rattle.collectors.proofs.Standing.{stands_first, stands_rest}

module _ {Γ fs ws out : List ℕ} {i t : ℕ} {q : List Entry} {o : Out} {r : Got} where
  -- the tree is folded
  pub fold_leaf : Known Γ → get_or fs i 0 ≡ 0 → Counted out o → r ≡ read_to (i + 1) 0 o → Owing Γ out o out r q fs ws i t
  unfolding folds size lines
  fold_leaf known z h e = record { tree = λ x g. rw (coded_folded known g z) (tells_done (ended_none h e)) }

  -- it is open
  module _ (f : get_or fs i 0 ≡ 0 → ⊥) where
    -- behind a plain pointer nothing is owed
    pub fold_plain : {e : ℕ} → kind Γ t ≡ 1 → Counted out o → ((x : Tree) → Coded Γ fs ws i t x → e ≡ i + size x) → r ≡ read_to e 0 o
        → Owing Γ out o out r q fs ws i t
    unfolding folds lines
    fold_plain k h g e =
        record { tree = λ x c. rw (← (g x c), (coded_opened c f).is, eq-eqb (kind Γ t) 1 k) (tells_done (ended_none h e)) }

    -- behind a mutable reference the place is
    pub fold_mut : {out' : List ℕ} {o' : Out} {e : ℕ} → kind Γ t ≡ 2 → Puts 1 out o out' o' (point_of o ∷ (15, 0) ∷ (q ++ ((1, 0) ∷ []))) × (o'.point ≡ o.point)
        → ((x : Tree) → Coded Γ fs ws i t x → e ≡ i + size x) → r ≡ read_to e 0 o' → Owing Γ out o out' r q fs ws i t
    unfolding folds lines line verb_entry elem_entry
    fold_mut k w g e =
        record {
          tree = λ x c.
              rw (← (g x c), (coded_opened c f).is, eq-eqb (kind Γ t) 2 k, k)
              (tells_done {g = r} {cs = push deref (here Fold) ∷ []} (rw append-nil (ended_at e w.0 w.1)));
        }

    -- another node: its children owe
    pub fold_below : {us out' : List ℕ} {k : Kind} {v : ℕ} → Known Γ → kind Γ t ≢ 1 → kind Γ t ≢ 2 → us ≡ kids Γ t (get_or ws i 0) → k ≡ kind_named (kind Γ t) → v ≡ get_or ws i 0
        → OwingAll Γ out o out' r (way q (way_in true k v)) fs ws (i + 1) us → Owing Γ out o out' r q fs ws i t
    unfolding folds size
    fold_below known h g d n w A =
        record {
          tree = λ x c.
              let O = coded_opened c f in
              let end : i + suc (sizes O.children) ≡ i + 1 + sizes O.children = omega arith in
              let T = (rw (d, n, w) at A).trees O.children O.below in
              let lift = tells_lift (point_of o) q true (kind_named (kind Γ t)) (get_or ws i 0) T in
              rw (O.is, ne_eqb (kind Γ t) 1 h, ne_eqb (kind Γ t) 2 g, end) (rw (known_code Γ known t) at lift);
        }

-- the trees of some types
module _ {Γ fs ws us out : List ℕ} {i : ℕ} {o : Out} where
  -- of none
  pub folds_none : {q : ℕ → List Entry} {r : Got} → us ≡ [] → Counted out o → r ≡ read_to i 0 o → OwingAll Γ out o out r q fs ws i us
  unfolding folds sizes lines_of
  folds_none z h e = record { trees = λ xs g. rw (coded_none (rw z at g), add-zero i) (tells_done (ended_none h e)) }

  -- the first of them is told
  module _ {ts out₁ : List ℕ} {t : ℕ} {q₀ : List Entry} {r : Got} (e : us ≡ t ∷ ts) (A : Owing Γ out o out₁ r q₀ fs ws i t) where
    -- where the others stand
    pub folds_next : {n : ℕ} → StandAll Γ fs ws i us n → StandAll Γ fs ws r.first ts n × (i < r.first) × (r.first ≤ length fs) × Counted out₁ r.out
    folds_next {n} h =
        let R = stands_rest h e (λ y g. (told_done (A.tree y g)).first) in
        let S = stands_first {m = n} h e (omega arith) in
        (R.0, R.1, R.2, (told_done (A.tree S.tree S.coded)).puts.counted)

    -- then the others are told
    pub folds_more : {out₂ : List ℕ} {q q₁ : ℕ → List Entry} {s : Got} → q 0 ≡ q₀ → ((n : ℕ) → q (suc n) ≡ q₁ n)
        → OwingAll Γ out₁ r.out out₂ s q₁ fs ws r.first ts → OwingAll Γ out o out₂ s q fs ws i us
    unfolding folds sizes
    folds_more {q} {q₁} a b B =
        record {
          trees = λ xs h.
              let S = coded_split (rw e at h) in
              let T = A.tree S.head S.here in
              let E = told_done T in
              let end : i + (size S.head + sizes S.tail) ≡ r.first + sizes S.tail = omega (arith, E.first) in
              rw (S.is, end) (tells_both q q₀ q₁ a b T (B.trees S.tail (rw E.first S.rest)));
        }
