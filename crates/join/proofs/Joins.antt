-- The join of trees in the arrays, step by step. Assumes nothing.
use Rattle.std.proofs.Common.{Option, Some, None}
use mathlib.Core.Path.{◌≡◌, refl, sym}
use mathlib.Core.Bool.{Bool, true, false, ◌||◌}
use mathlib.Core.List.{List, [], ◌∷◌}
use Prim.Native.Nat.{ℕ, ◌+◌, ◌≤◌, ◌<◌}
use native.Mathlib.Omega.{arith}
use lib.Dec.{eqb}
use lib.ListN.{length, get_or}
use borrow.Author.Tests.{eq-eqb, ne_eqb}
use Rattle.model.specs.Types.{kind, kids, sticky, below}
use Rattle.model.specs.Tree.{Tree, size, sizes, meet, join, flags}
use Rattle.model.specs.Typing.{Fit, fit_leaf, fit_node}
use Rattle.records.specs.Here.{Coded, Heres}
use Rattle.base.specs.Tests.{split}
use Rattle.base.specs.Kinds.{Known, openable_form}
use Rattle.records.specs.Codes.{size_pos}
use Rattle.records.specs.Coded.{coded_in_forms, coded_leaf, coded_node, coded_folded, coded_opened, coded_none, coded_split}
use Rattle.join.specs.declared.ends.Marks.{Marks}
use Rattle.join.specs.declared.ends.Ends.{Ends}
use Rattle.join.specs.Ends.{Arrays, stored, Room, marks, ended, Settled, Met, MetAll}
use Rattle.join.proofs.Outs.{again_out, node_out, leaf_out, none_out, more_out}
use Rattle.join.proofs.Settles.{Stays}

-- a folded tree that meets an open one changes exactly if that one stays open
opened_by : {Γ gs vs : List ℕ} {j t : ℕ} {y : Tree} (m : Bool) → Known Γ → Coded Γ gs vs j t y → Fit Γ t y → (meet Γ m y).1 ≡ Stays (get_or gs j 0) m (kind Γ t)
unfolding meet
opened_by m known h fit_leaf = rw (coded_leaf h).0
opened_by {Γ} {gs} {j} {t} m known h (fit_node o fs) =
    let p : eqb (get_or gs j 0) 0 ≡ false = ne_eqb (get_or gs j 0) 0 (λ e. omega (arith, (coded_node h).formed, openable_form known o)) in
    rw p (split (sticky m (kind Γ t)) (λ e. rw e) (λ e. rw e))

meet_opened : {Γ gs vs : List ℕ} {j t : ℕ} {y : Tree} (m : Bool) → Known Γ → Coded Γ gs vs j t y → (meet Γ m y).1 ≡ Stays (get_or gs j 0) m (kind Γ t)
meet_opened m known h = opened_by m known h h.fits

module _ {Γ : List ℕ} {out X Y : Arrays} {p : Marks} {t : ℕ} {m : Bool} where
  -- no word is left
  pub join_over : {out' : Arrays} → 512 ≤ p.out → Met Γ out out' X Y p t m None
  join_over l = record { tree = λ x y h g. omega (arith, size_pos (join Γ m x y)) }

  -- the first is folded: the second is settled
  module _ {out' : Arrays} (known : Known Γ) (z : get_or X.forms p.first 0 ≡ 0) where
    -- no room for it
    pub join_first_full : Settled Γ out out' p.out Y p.second t m None → Met Γ out out' X Y p t m None
    unfolding join
    join_first_full a = record { tree = λ x y h g. rw (coded_folded known h z) (a.tree y g) }

    -- room for it
    pub join_first : {e : Ends} → Settled Γ out out' p.out Y p.second t m (Some e)
        → Met Γ out out' X Y p t m (Some (ended (marks (p.first + 1) e.to.first e.to.out) (Stays (get_or Y.forms p.second 0) m (kind Γ t))))
    unfolding join flags size
    join_first a =
        record {
          tree = λ x y h g.
              let A = a.tree y g in
              rw (coded_folded known h z) (again_out A refl refl A.1.first (sym (meet_opened m known g)));
        }

  -- the second is folded: the first is settled
  module _ {out' : Arrays} (known : Known Γ) (n : get_or X.forms p.first 0 ≡ 0 → ⊥) (z : get_or Y.forms p.second 0 ≡ 0) where
    -- no room for it
    pub join_second_full : Settled Γ out out' p.out X p.first t m None → Met Γ out out' X Y p t m None
    unfolding join
    join_second_full a =
        record {
          tree = λ x y h g.
              let O = coded_opened h n in
              rw (coded_folded known g z, O.is) (rw O.is at (a.tree x h));
        }

    -- room for it
    pub join_second : {e : Ends} → Settled Γ out out' p.out X p.first t m (Some e)
        → Met Γ out out' X Y p t m (Some (ended (marks e.to.first (p.second + 1) e.to.out) e.changed))
    unfolding join flags size
    join_second a =
        record {
          tree = λ x y h g.
              let O = coded_opened h n in
              let A = rw O.is at (a.tree x h) in
              rw (coded_folded known g z, O.is) (again_out A refl A.1.first refl A.1.changed);
        }

  -- both are open
  module _ (n : get_or X.forms p.first 0 ≡ 0 → ⊥) (z : get_or Y.forms p.second 0 ≡ 0 → ⊥) where
    -- at one variant: their children are joined
    pub join_same : {out' : Arrays} {r : Option Ends} → p.out < length out.forms → p.out < length out.whats → get_or X.whats p.first 0 ≡ get_or Y.whats p.second 0
        → MetAll Γ (stored out p.out (get_or X.forms p.first 0) (get_or X.whats p.first 0)) out' X Y (marks (p.first + 1) (p.second + 1) (p.out + 1))
        (kids Γ t (get_or X.whats p.first 0)) (below m (kind Γ t)) r
        → Met Γ out out' X Y p t m r
    unfolding join flags size
    join_same {r = None} lf lw e a =
        record {
          tree = λ x y h g.
              let O = coded_opened h n in
              let P = coded_opened g z in
              rw (O.is, P.is, eq-eqb (get_or X.whats p.first 0) (get_or Y.whats p.second 0) e)
              (omega (arith, a.trees O.children P.children O.below (rw e P.below)));
        }
    join_same {r = Some s} lf lw e a =
        record {
          tree = λ x y h g.
              let O = coded_opened h n in
              let P = coded_opened g z in
              rw (O.is, P.is, eq-eqb (get_or X.whats p.first 0) (get_or Y.whats p.second 0) e)
              (node_out lf lw O.formed (a.trees O.children P.children O.below (rw e P.below)) (omega arith) (omega arith));
        }

    -- at two: they are folded
    pub join_apart : {e d : ℕ} → Room out.forms out.whats p.out → p.out < 512 → (get_or X.whats p.first 0 ≡ get_or Y.whats p.second 0 → ⊥)
        → ((x : Tree) → Coded Γ X.forms X.whats p.first t x → e ≡ p.first + size x)
        → ((y : Tree) → Coded Γ Y.forms Y.whats p.second t y → d ≡ p.second + size y)
        → Met Γ out (stored out p.out 0 0) X Y p t m (Some (ended (marks e d (p.out + 1)) true))
    unfolding join flags
    join_apart R l f first second =
        record {
          tree = λ x y h g.
              let O = coded_opened h n in
              let P = coded_opened g z in
              rw (O.is, P.is, ne_eqb (get_or X.whats p.first 0) (get_or Y.whats p.second 0) f)
              (leaf_out t l R.forms R.whats (cc (first x h, second y g, O.is, P.is)));
        }

-- the trees of some types
module _ {Γ us : List ℕ} {out X Y : Arrays} {p : Marks} {m : Bool} where
  -- of none
  pub joins_none : us ≡ [] → p.out ≤ 512 → MetAll Γ out out X Y p us m (Some (ended p false))
  unfolding join flags sizes
  joins_none z l = record { trees = λ xs ys h g. rw (coded_none (rw z at h), coded_none (rw z at g)) (none_out l (omega arith) (omega arith)) }

  module _ {ts : List ℕ} {out' : Arrays} {t : ℕ} (w : us ≡ t ∷ ts) where
    -- no room for the first of them
    pub joins_full : {out'' : Arrays} → Met Γ out out' X Y p t m None → MetAll Γ out out'' X Y p us m None
    unfolding join sizes
    joins_full a =
        record {
          trees = λ xs ys h g.
              let S = coded_split (rw w at h) in
              let T = coded_split (rw w at g) in
              rw (S.is, T.is) (omega (arith, a.tree S.head T.head S.here T.here));
        }

    -- they are joined
    module _ {e : Ends} (a : Met Γ out out' X Y p t m (Some e)) where
      -- where the others stand, and their room
      pub joins_next : length out'.forms ≡ 512 → length out'.whats ≡ 512 → Heres Γ X.forms X.whats p.first us → Heres Γ Y.forms Y.whats p.second us
          → Heres Γ X.forms X.whats e.to.first ts × Heres Γ Y.forms Y.whats e.to.second ts × Room out'.forms out'.whats e.to.out
          × (p.first < e.to.first) × (e.to.first ≤ length X.forms)
      joins_next lf lw h g =
          let S = coded_split (rw w at h.coded) in
          let T = coded_split (rw w at g.coded) in
          let A = a.tree S.head T.head S.here T.here in
          let D = A.1 in (
            record { trees = S.tail; coded = rw D.first S.rest },
            record { trees = T.tail; coded = rw D.second T.rest },
            record { forms = lf; whats = lw; low = omega (arith, D.written.end, A.0) },
            omega (arith, D.first, size_pos S.head),
            omega (arith, D.first, coded_in_forms S.here),
          )

      -- no room for them
      pub joins_over : {out'' : Arrays} → MetAll Γ out' out'' X Y e.to ts m None → MetAll Γ out out'' X Y p us m None
      unfolding join sizes
      joins_over b =
          record {
            trees = λ xs ys h g.
                let S = coded_split (rw w at h) in
                let T = coded_split (rw w at g) in
                let A = a.tree S.head T.head S.here T.here in
                let D = A.1 in
                rw (S.is, T.is) (omega (arith, D.written.end, b.trees S.tail T.tail (rw D.first S.rest) (rw D.second T.rest)));
          }

      -- room for all
      pub joins_more : {out'' : Arrays} {s : Ends} {c : Bool} → MetAll Γ out' out'' X Y e.to ts m (Some s)
          → c ≡ (e.changed || s.changed) → MetAll Γ out out'' X Y p us m (Some (ended s.to c))
      unfolding join flags sizes
      joins_more b d =
          record {
            trees = λ xs ys h g.
                let S = coded_split (rw w at h) in
                let T = coded_split (rw w at g) in
                let A = a.tree S.head T.head S.here T.here in
                let D = A.1 in
                let B = b.trees S.tail T.tail (rw D.first S.rest) (rw D.second T.rest) in
                let F = B.1 in
                rw (S.is, T.is)
                (more_out A B (omega (arith, D.first, F.first)) (omega (arith, D.second, F.second)) (cc (d, D.changed, F.changed)));
          }
