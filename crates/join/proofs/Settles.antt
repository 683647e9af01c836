-- What is left of trees in the arrays where they meet folded ones, step by step. Assumes nothing.
use Rattle.std.proofs.Common.{Option, Some, None}
use mathlib.Core.Path.{◌≡◌, refl}
use mathlib.Core.Bool.{Bool, true, false, not, ◌&&◌, ◌||◌}
use mathlib.Core.List.{List, [], ◌∷◌}
use Prim.Native.Nat.{ℕ, ◌+◌, ◌≤◌, ◌<◌}
use native.Mathlib.Omega.{arith}
use lib.Dec.{eqb}
use lib.ListN.{length, get_or}
use borrow.Author.Tests.{eqb-true, eqb-false, not-true}
use Rattle.model.specs.Types.{kind, kids, sticky, below}
use Rattle.model.specs.Tree.{Tree, size, sizes, settle, meet}
use Rattle.records.specs.Here.{Coded, Heres}
use Rattle.base.specs.Tests.{split, and_left, and_right}
use Rattle.base.specs.Kinds.{Known}
use Rattle.records.specs.Codes.{size_pos}
use Rattle.records.specs.Coded.{coded_in_forms, coded_folded, coded_opened, coded_none, coded_split}
use Rattle.type_record.specs.declared.kinds.Kind.{Kind}
use Rattle.type_record.specs.Kinds.{kind_code, kind_named}
use Rattle.type_record.proofs.KindLaws.{sticky_named}
use Rattle.join.specs.declared.ends.Ends.{Ends}
use Rattle.join.specs.Ends.{Arrays, stored, Room, marks, ended, Settled, SettledAll}
use Rattle.join.proofs.Outs.{node_out, leaf_out, none_out, more_out}

-- does a node of form f stay open?
abbrev pub Stays : ℕ → Bool → ℕ → Bool
Stays f m k = not (eqb f 0) && sticky m k

-- what the code's kind says of it
pub stays_named : (f : ℕ) (m : Bool) (n : ℕ) {k : Kind} {b : Bool} → k ≡ kind_named n → b ≡ (not (eqb f 0) && sticky m (kind_code k)) → b ≡ Stays f m n
stays_named f m n e w = rw (e, sticky_named m n) at w

-- then it is open
pub stays_open : (f : ℕ) (m : Bool) (k : ℕ) → Stays f m k ≡ true → f ≡ 0 → ⊥
stays_open f m k e = eqb-false f 0 (not-true (eqb f 0) (and_left (not (eqb f 0)) (sticky m k) e))

module _ {Γ : List ℕ} {out X : Arrays} {k i t : ℕ} {m : Bool} where
  -- no word is left
  pub settle_over : {out' : Arrays} → 512 ≤ k → Settled Γ out out' k X i t m None
  settle_over l = record { tree = λ x h. omega (arith, size_pos (settle Γ m x)) }

  -- the node stays open: its children are settled
  pub settle_stays : {out' : Arrays} {r : Option Ends} → k < length out.forms → k < length out.whats → Stays (get_or X.forms i 0) m (kind Γ t) ≡ true
      → SettledAll Γ (stored out k (get_or X.forms i 0) (get_or X.whats i 0)) out' (k + 1) X (i + 1) (kids Γ t (get_or X.whats i 0)) (below m (kind Γ t)) r
      → Settled Γ out out' k X i t m r
  unfolding settle meet size
  settle_stays {r = None} lf lw s o =
      record {
        tree = λ x h.
            let O = coded_opened h (stays_open (get_or X.forms i 0) m (kind Γ t) s) in
            let open_still : sticky m (kind Γ t) ≡ true = and_right (not (eqb (get_or X.forms i 0) 0)) (sticky m (kind Γ t)) s in
            rw (O.is, open_still) (omega (arith, o.trees O.children O.below));
      }
  settle_stays {r = Some e} lf lw s o =
      record {
        tree = λ x h.
            let O = coded_opened h (stays_open (get_or X.forms i 0) m (kind Γ t) s) in
            let open_still : sticky m (kind Γ t) ≡ true = and_right (not (eqb (get_or X.forms i 0) 0)) (sticky m (kind Γ t)) s in
            rw (O.is, open_still) (node_out lf lw O.formed (o.trees O.children O.below) (omega arith) refl);
      }

  -- it is folded
  pub settle_folds : {e : ℕ} → Known Γ → Room out.forms out.whats k → k < 512 → Stays (get_or X.forms i 0) m (kind Γ t) ≡ false
      → ((x : Tree) → Coded Γ X.forms X.whats i t x → e ≡ i + size x)
      → Settled Γ out (stored out k 0 0) k X i t m (Some (ended (marks e 0 (k + 1)) (not (eqb (get_or X.forms i 0) 0))))
  unfolding settle meet
  settle_folds {e} known R l s g =
      let f : ℕ = get_or X.forms i 0 in
      record {
        tree = λ x h.
            split (eqb f 0)
            (λ z. let q = coded_folded known h (eqb-true f 0 z) in rw q (leaf_out t l R.forms R.whats (cc (g x h, z, q))))
            (λ z.
            let O = coded_opened h (eqb-false f 0 z) in
            let shut : sticky m (kind Γ t) ≡ false = cc in
            rw (O.is, shut) (leaf_out t l R.forms R.whats (cc (g x h, z, O.is))));
      }

-- the trees of some types
module _ {Γ us : List ℕ} {out X : Arrays} {k i : ℕ} {m : Bool} where
  -- of none
  pub settles_none : us ≡ [] → k ≤ 512 → SettledAll Γ out out k X i us m (Some (ended (marks i 0 k) false))
  unfolding settle meet sizes
  settles_none z l = record { trees = λ xs h. rw (coded_none (rw z at h)) (none_out l (omega arith) refl) }

  module _ {ts : List ℕ} {out' : Arrays} {t : ℕ} (p : us ≡ t ∷ ts) where
    -- no room for the first of them
    pub settles_full : {out'' : Arrays} → Settled Γ out out' k X i t m None → SettledAll Γ out out'' k X i us m None
    unfolding settle sizes
    settles_full a =
        record {
          trees = λ xs h.
              let S = coded_split (rw p at h) in
              rw S.is (omega (arith, a.tree S.head S.here));
        }

    -- it is settled
    module _ {e : Ends} (a : Settled Γ out out' k X i t m (Some e)) where
      -- where the others stand, and their room
      pub settles_next : length out'.forms ≡ 512 → length out'.whats ≡ 512 → Heres Γ X.forms X.whats i us
          → Heres Γ X.forms X.whats e.to.first ts × Room out'.forms out'.whats e.to.out × (i < e.to.first) × (e.to.first ≤ length X.forms)
      settles_next lf lw h =
          let S = coded_split (rw p at h.coded) in
          let A = a.tree S.head S.here in
          let D = A.1 in (
            record { trees = S.tail; coded = rw D.first S.rest },
            record { forms = lf; whats = lw; low = omega (arith, D.written.end, A.0) },
            omega (arith, D.first, size_pos S.head),
            omega (arith, D.first, coded_in_forms S.here),
          )

      -- no room for them
      pub settles_over : {out'' : Arrays} → SettledAll Γ out' out'' e.to.out X e.to.first ts m None → SettledAll Γ out out'' k X i us m None
      unfolding settle sizes
      settles_over b =
          record {
            trees = λ xs h.
                let S = coded_split (rw p at h) in
                let A = a.tree S.head S.here in
                rw S.is (omega (arith, A.1.written.end, b.trees S.tail (rw A.1.first S.rest)));
          }

      -- room for all
      pub settles_more : {out'' : Arrays} {s : Ends} {c : Bool} → SettledAll Γ out' out'' e.to.out X e.to.first ts m (Some s)
          → c ≡ (e.changed || s.changed) → SettledAll Γ out out'' k X i us m (Some (ended s.to c))
      unfolding settle meet sizes
      settles_more b d =
          record {
            trees = λ xs h.
                let S = coded_split (rw p at h) in
                let A = a.tree S.head S.here in
                let D = A.1 in
                let B = b.trees S.tail (rw D.first S.rest) in
                let F = B.1 in
                rw S.is (more_out A B (omega (arith, D.first, F.first)) F.second (cc (d, D.changed, F.changed)));
          }
