-- A record that holds a state is read as that state, `holds_decode`, so a state that fits is read back, `decode_encode`, and a
-- record determines its state.
use Rattle.std.specs.Prelude.{◌≡◌, ◌≢◌, List, [], ◌++◌, take}
use Rattle.std.proofs.Math.Path.{refl}
use Rattle.std.proofs.Common.{sym, ◌∙◌, true≢false, append-nil, append_assoc, arith}
use Rattle.std.proofs.Math.Bool.{false}
use Rattle.std.proofs.Math.Option.{none, some}
use Prim.Native.Nat.{ℕ, zero, suc, ◌≤◌, ◌<◌}
use Rattle.std.proofs.Math.Dec.{eqb}
use borrow.Author.Tests.{ne_eqb}
use Rattle.model.specs.Types.{kind, kids, form}
use Rattle.model.specs.Tree.{Tree, leaf, node, Forest, sizes}
use Rattle.model.specs.Typing.{Openable, Fit, Fits, fit_leaf, fit_node, fit_none, fit_more, depth, depths}
use Rattle.model.specs.State.{State, Code, most, levels, codes, codess, encode, pairs, read_each, read_node, read_tree, decode}
use Rattle.base.specs.Kinds.{Known, openable_form}
use Rattle.records.specs.Here.{Holds}
use Rattle.records.specs.Shape.{shaped_of}
use Rattle.records.specs.Holds.{holds_codes, encode_holds}
use Rattle.records.specs.Opens.{openable_opens}

module _ (Γ : List ℕ) (known : Known Γ) where
  -- a node is read back if its children are
  node_back : (d : ℕ) {t v : ℕ} {ns : Forest} (r : List Code) → Openable Γ t v → depth (node t v ns) ≤ d
      → ((e : ℕ) → depths ns ≤ e → read_each (λ u q. read_tree Γ e u q) (kids Γ t v) (codess Γ ns ++ r) ≡ some (record { value = ns; rest = r }))
      → read_tree Γ d t (codes Γ (node t v ns) ++ r) ≡ some (record { value = node t v ns; rest = r })
  unfolding read_tree read_node codes depth
  node_back zero r o h f = absurd (omega arith)
  node_back (suc d) {t} {v} {ns} r o h f =
      let p : 0 < form (kind Γ t) = openable_form known o in
      let e : eqb (form (kind Γ t)) 0 ≡ false = ne_eqb (form (kind Γ t)) 0 (λ z. omega arith) in
      cc (f d (omega arith), openable_opens o)

  -- a folded place is
  leaf_back : (d t : ℕ) (r : List Code) → read_tree Γ d t (codes Γ (leaf t) ++ r) ≡ some (record { value = leaf t; rest = r })
  unfolding read_tree read_node codes
  leaf_back zero t r = refl
  leaf_back (suc d) t r = refl

  mutual
    unfolding read_each codes depth

    -- a tree is read back in front of whatever codes
    pub read_back : (d : ℕ) {t : ℕ} {x : Tree} → Fit Γ t x → depth x ≤ d → (r : List Code)
        → read_tree Γ d t (codes Γ x ++ r) ≡ some (record { value = x; rest = r })
    read_back d (fit_leaf {t}) h r = leaf_back d t r
    read_back d (fit_node o fs) h r = node_back d r o h (λ e k. reads_back e fs k r)

    -- and so are trees
    pub reads_back : (d : ℕ) {ts : List ℕ} {xs : Forest} → Fits Γ ts xs → depths xs ≤ d → (r : List Code)
        → read_each (λ u q. read_tree Γ d u q) ts (codess Γ xs ++ r) ≡ some (record { value = xs; rest = r })
    reads_back d fit_none h r = refl
    reads_back d (fit_more {s = x} {ss = xs} f fs) h r =
        cc (append_assoc (codes Γ x) (codess Γ xs) r, read_back d f (omega arith) (codess Γ xs ++ r), reads_back d fs (omega arith) r)

-- a record that holds a state is read as that state
pub holds_decode : {Γ locals : List ℕ} {s : State} {E : Forest} → Known Γ → Holds Γ locals s E → decode Γ locals s ≡ some E
unfolding decode
holds_decode {Γ} {s} {E} known h =
    let whole : pairs (take s.nodes s.forms) (take s.nodes s.whats) ≡ codess Γ E ++ [] =
    holds_codes h ∙ sym (append-nil (codess Γ E)) in
    cc (shaped_of s h.shape, whole, reads_back Γ known levels h.trees.fits h.deep [])

-- a record holds one state
pub holds_unique : {Γ locals : List ℕ} {s : State} {D E : Forest} → Known Γ → Holds Γ locals s D → Holds Γ locals s E → D ≡ E
holds_unique known h k = cc (holds_decode known h, holds_decode known k)

module _ {Γ locals : List ℕ} (known : Known Γ) where
  -- a state is read back
  pub decode_encode : {E : Forest} → Fits Γ locals E → depths E ≤ levels → sizes E ≤ most → decode Γ locals (encode Γ E) ≡ some E
  decode_encode fs d n = holds_decode known (encode_holds fs d n)

  -- two states with one record are equal
  pub encode_injective : {D E : Forest} → Fits Γ locals D → depths D ≤ levels → sizes D ≤ most
      → Fits Γ locals E → depths E ≤ levels → sizes E ≤ most → encode Γ D ≡ encode Γ E → D ≡ E
  encode_injective fs d n gs e m p = cc (decode_encode fs d n, decode_encode gs e m)

  -- a record that is refused is no state's
  pub decode_none : {s : State} {E : Forest} → decode Γ locals s ≡ none → Fits Γ locals E → depths E ≤ levels → sizes E ≤ most
      → encode Γ E ≢ s
  decode_none e fs d n p = true≢false (cc (decode_encode fs d n))
