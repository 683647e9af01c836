-- The children that are left of a node, as code reads them of a type record. Assumes nothing.
use mathlib.Core.Path.{◌≡◌, refl, sym, ◌∙◌, ap}
use mathlib.Core.Bool.{Bool}
use mathlib.Core.List.{List, [], ◌∷◌}
use Prim.Native.Nat.{ℕ, ◌≤◌, ◌<◌}
use native.Mathlib.Omega.{arith}
use lib.ListN.{length}
use Rattle.model.specs.Types.{ntypes, kind, part, parts, kids}
use Rattle.base.specs.Kinds.{Known}
use Rattle.base.specs.Parts.{parts_none, parts_cons, length_parts}
use Rattle.base.specs.Typed.{parts_inside}
use Rattle.type_record.specs.Kinds.{kind_code, kind_named}
use Rattle.type_record.proofs.KindLaws.{named}
use Rattle.type_record.specs.declared.kinds.Kind.{Kind}
use Rattle.type_record.specs.Sizes.{Ready}
use Rattle.state.specs.declared.kids.Kids.{Kids}
use Rattle.state.specs.Kids.{KidsOf}
use Rattle.state.proofs.Fields.{ready_typed, fields_first, fields_rest}
use Rattle.collectors.specs.declared.got.Children.{Children}
use Rattle.collectors.specs.Trail.{Short}
use Rattle.collectors.specs.Gets.{types_of, left, Room, Siblings}

-- a kind of the record, as the code names it, has its number
pub known_code : (Γ : List ℕ) → Known Γ → (t : ℕ) → kind_code (kind_named (kind Γ t)) ≡ kind Γ t
unfolding kind_named
known_code Γ known t =
    named (λ n k. n ≤ 10 → kind_code k ≡ n)
    ((λ l. refl), ((λ l. refl), ((λ l. refl), ((λ l. refl), ((λ l. refl), ((λ l. refl), ((λ l. refl), ((λ l. refl), ((λ l. refl), ((λ l. refl), ((λ l. refl), tt)))))))))))
    (λ n h l. absurd (omega arith))
    (kind Γ t) (known t)

-- none is left
pub none_left : (Γ : List ℕ) (k : Children) → k.kids.count ≡ 0 → types_of Γ k.kids ≡ []
none_left Γ k e = ap (parts Γ k.kids.owner k.kids.first) e ∙ parts_none Γ k.kids.owner k.kids.first

-- one is left, of type t, and those behind it
pub one_left : (Γ : List ℕ) (k : Children) {t : ℕ} → 0 < k.kids.count → t ≡ part Γ k.kids.owner k.kids.first
    → types_of Γ k.kids ≡ t ∷ types_of Γ (left k 0 0).kids
one_left Γ k p e =
    parts_cons Γ k.kids.owner k.kids.first k.kids.count p ∙ ap (λ (n : ℕ). n ∷ types_of Γ (left k 0 0).kids) (sym e)

-- of children of which one is left
module _ {Γ : List ℕ} {k : Children} (S : Siblings Γ k) (p : 0 < k.kids.count) where
  -- it has a type
  pub siblings_type : {t : ℕ} → t ≡ part Γ k.kids.owner k.kids.first → t < ntypes Γ
  siblings_type e = rw e (fields_first S.fields p)

  -- the way to it is short
  pub siblings_short : Short k.way
  siblings_short = record { variant = omega (arith, S.variant); child = omega (arith, S.child) }

  -- its numbers are small
  pub siblings_room : {offs : List ℕ} → Ready Γ offs → Room k
  siblings_room R =
      let T = ready_typed R in
      record { some = p; part = omega (arith, parts_inside T k.kids.owner S.fields.known, T.few_parts, S.fields.inside); child = omega (arith, S.child) }

  -- the others are children as well
  pub siblings_left : (i j : ℕ) → Siblings Γ (left k i j)
  siblings_left i j = record { fields = fields_rest S.fields p; child = omega (arith, S.child); variant = S.variant }

module _ {Γ : List ℕ} {t v : ℕ} {r : Kids} (h : KidsOf Γ t v r) where
  -- the children of a node are as many as counted
  pub kids_length : length (kids Γ t v) ≡ r.count
  kids_length = ap length (sym h.all) ∙ length_parts Γ r.owner r.first r.count

  -- all of them are left
  pub kids_siblings : {offs : List ℕ} {i j w n : ℕ} {full : Bool} {m : Kind} → Ready Γ offs → w < 65536
      → Siblings Γ (record { first = i; second = j; kids = r; way = record { full = full; kind = m; variant = w; child = 0 }; depth = n })
  kids_siblings R l =
      let T = ready_typed R in
      record { fields = h.fields; child = omega (arith, parts_inside T r.owner h.fields.known, T.few_parts, h.fields.inside); variant = l }
