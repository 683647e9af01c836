-- A step along an open node in the arrays: to a child, or none; what refuses it.
use mathlib.Core.Path.{◌≡◌, refl, sym, ◌∙◌, ap, subst}
use mathlib.Core.Logic.{◌≢◌}
use mathlib.Core.Bool.{true, false}
use mathlib.Core.List.{List, [], ◌∷◌}
use Prim.Native.Nat.{ℕ, zero, suc, ◌+◌, ◌-◌, ◌<◌, ◌≤◌}
use native.Mathlib.Nat.{not-suc-le-zero, le_of_suc-le-suc}
use native.Mathlib.Omega.{arith}
use lib.ListN.{length, get_or, take}
use borrow.Author.Tests.{eq-eqb, ne_eqb}
use Rattle.model.specs.Answer.{Answer, refused, done, ◌>>=◌}
use Rattle.model.specs.Types.{ntypes, kind, count, pointer, kids, part, parts, owner, first, casts}
use Rattle.model.specs.Tree.{Tree, node, Forest, size, sizes}
use Rattle.model.specs.Typing.{Openable}
use Rattle.model.specs.Place.{Elem, deref, field, downcast, index}
use Rattle.model.specs.Walk.{child, inside, enter, opening, next, wide, pick}
use Rattle.model.specs.Collect.{firsts}
use Rattle.base.specs.Kinds.{pointer_not_enum}
use Rattle.base.specs.Answer.{bind_done, bind_bind}
use Rattle.records.specs.Here.{Coded, CodedAll}
use Rattle.records.specs.Codes.{length_codess}
use Rattle.records.specs.Coded.{Opened, coded_split}
use Rattle.records.specs.Built.{none_coded, more_coded}
use Rattle.base.specs.Typed.{Typed, kids_pointer}
use Rattle.base.specs.Parts.{length_parts, length_kids}
use Rattle.state.specs.Found.{Fields}
use Rattle.state.proofs.Fields.{fields_open}
use Rattle.walk.specs.Way.{acts, Stepped}
use Rattle.walk.proofs.Frames.{put, nth_put, nth_past, put_pick, below, top}
use Rattle.walk.proofs.Growing.{kid_known}

-- the first k of n parts
pub parts_take : (Γ : List ℕ) (u j k n : ℕ) → k ≤ n → take k (parts Γ u j n) ≡ parts Γ u j k
unfolding parts
parts_take Γ u j zero n h = refl
parts_take Γ u j (suc k) zero h = absurd (not-suc-le-zero h)
parts_take Γ u j (suc k) (suc n) h = ap (λ (l : List ℕ). part Γ u j ∷ l) (parts_take Γ u (suc j) k n (le_of_suc-le-suc h))

-- and they are there, and are types
pub fields_there : {Γ : List ℕ} {t : ℕ} → Typed Γ → t < ntypes Γ → (v u j k : ℕ) → Openable Γ t v → u ≡ owner Γ t v → j ≡ first Γ t
    → k ≤ length (kids Γ t v) → Fields Γ u j k
fields_there {Γ} {t} h l v u j k o eu ej m =
    let f : Fields Γ (owner Γ t v) (first Γ t) (count Γ (owner Γ t v) - first Γ t) = fields_open h l o in
    let n : k ≤ count Γ (owner Γ t v) - first Γ t = rw (length_kids Γ t v) at m in
    rw (eu, ej) (record { known = f.known; inside = omega (arith, f.inside, n); types = λ i q. f.types i (omega arith) })

module _ {Γ fs ws : List ℕ} where
  -- the first k of several trees
  pub codes_firsts : {i : ℕ} (k : ℕ) (ts : List ℕ) {xs : Forest} → k ≤ length ts → CodedAll Γ fs ws i ts xs
      → CodedAll Γ fs ws i (take k ts) (firsts k xs)
  codes_firsts zero ts h c = none_coded
  codes_firsts (suc k) [] h c = absurd (not-suc-le-zero h)
  codes_firsts {i = i} (suc k) (t ∷ ts) {xs = xs} h c =
      let s = coded_split c in
      rw s.is (more_coded s.here (codes_firsts {i = i + size (coded_split c).head} k ts (le_of_suc-le-suc h) s.rest))

  -- and the one behind them
  pub codes_pick : {i : ℕ} (k : ℕ) (ts : List ℕ) {xs : Forest} → k < length ts → CodedAll Γ fs ws i ts xs
      → Coded Γ fs ws (i + sizes (firsts k xs)) (get_or ts k 0) (pick k xs)
  unfolding sizes
  codes_pick k [] h c = absurd (not-suc-le-zero h)
  codes_pick zero (t ∷ ts) h c =
      let s = coded_split c in
      rw s.is (subst (λ (n : ℕ). Coded Γ fs ws n t s.head) (omega arith) s.here)
  codes_pick {i = i} (suc k) (t ∷ ts) {xs = xs} h c =
      let s = coded_split c in
      rw s.is (subst (λ (n : ℕ). Coded Γ fs ws n (get_or ts k 0) (pick k s.tail)) (omega arith) (codes_pick {i = i + size (coded_split c).head} k ts (le_of_suc-le-suc h) s.rest))

  -- the first k children of an open node, as parts
  pub fields_here : {i t : ℕ} {x : Tree} (o : Opened Γ fs ws i t x) (v u j k : ℕ) → v ≡ get_or ws i 0 → u ≡ owner Γ t v → j ≡ first Γ t
      → k ≤ length (kids Γ t v) → CodedAll Γ fs ws (i + 1) (parts Γ u j k) (firsts k o.children)
  unfolding kids
  fields_here {i} {t} o v u j k ev eu ej l =
      let w : ℕ = get_or ws i 0 in
      let eo : u ≡ owner Γ t w = eu ∙ ap (owner Γ t) ev in
      let lw : k ≤ length (kids Γ t w) = rw ev at l in
      rw (eo, ej, ← parts_take Γ (owner Γ t w) (first Γ t) k (count Γ (owner Γ t w) - first Γ t) (rw (length_parts Γ (owner Γ t w) (first Γ t) (count Γ (owner Γ t w) - first Γ t)) at lw))
      (codes_firsts k (kids Γ t w) lw o.below)

  -- a step to the child number k
  pub stepped_child : {i t : ℕ} {x : Tree} → Typed Γ → t < ntypes Γ → (o : Opened Γ fs ws i t x) (e : Elem) (k : ℕ)
      → k < length (kids Γ t (get_or ws i 0)) → acts Γ e x ≡ done x
      → ((act : Tree → Answer Tree) (s : Tree) → inside e act s ≡ child k act s)
      → next Γ e (node t (get_or ws i 0) o.children) ≡ pick k o.children → (n u : ℕ)
      → n ≡ i + 1 + sizes (firsts k o.children) → u ≡ get_or (kids Γ t (get_or ws i 0)) k 0
      → Stepped Γ fs ws i e x n u
  stepped_child {i} {t} {x} h l o e k m enters goes to n u en eu =
      let v : ℕ = get_or ws i 0 in
      let ns : Forest = o.children in
      let ts : List ℕ = kids Γ t v in
      record {
        tree = pick k ns;
        here = rw (en, eu) (codes_pick k ts m o.below);
        known = rw eu (kid_known Γ h t v l o.openable k m);
        frame = below Γ t v o.below.fits k m;
        place = omega (arith, length_codess Γ (firsts k ns));
        whole = ap (node t v) (put_pick o.below.fits k) ∙ sym o.is;
        leads = λ act.
            rw enters (goes act x ∙ ap (child k act) o.is ∙ rw (nth_put o.below.fits k m act)
            (bind_bind (act (pick k ns)) (λ z. done (put k z ns)) (λ us. done (node t v us))));
        ends = ap (next Γ e) o.is ∙ to;
        was_open = rw o.is;
      }

  module _ {i t : ℕ} {x : Tree} (o : Opened Γ fs ws i t x) where
    -- a pointer is open at no variant
    what_pointer : pointer (kind Γ t) ≡ true → get_or ws i 0 ≡ 0
    what_pointer p = o.openable.plain (pointer_not_enum (kind Γ t) p)

    -- TO A CHILD

    pub deref_to : Typed Γ → t < ntypes Γ → pointer (kind Γ t) ≡ true → (n u : ℕ) → n ≡ i + 1 → u ≡ get_or (kids Γ t 0) 0 0
        → Stepped Γ fs ws i deref x n u
    unfolding acts enter wide sizes
    deref_to h l p n u en eu =
        let w : get_or ws i 0 ≡ 0 = what_pointer p in
        stepped_child h l o deref 0 (rw (w, ap length (kids_pointer h t 0 p)) (omega arith)) (rw (o.is, p)) (λ act s. refl) refl n u (omega arith) (rw w eu)

    -- a field
    pub field_to : Typed Γ → t < ntypes Γ → pointer (kind Γ t) ≡ false → (k : ℕ) → k < length (kids Γ t (get_or ws i 0)) → (n u : ℕ)
        → n ≡ i + 1 + sizes (firsts k o.children) → u ≡ get_or (kids Γ t (get_or ws i 0)) k 0 → Stepped Γ fs ws i (field k) x n u
    unfolding acts enter wide
    field_to h l p k m n u en eu = stepped_child h l o (field k) k m (rw (o.is, p)) (λ act s. refl) refl n u en eu

    -- TO THE NODE ITSELF

    stay : t < ntypes Γ → Coded Γ fs ws i t x → (e : Elem) → acts Γ e x ≡ done x → ((act : Tree → Answer Tree) → inside e act ≡ act)
        → next Γ e (node t (get_or ws i 0) o.children) ≡ node t (get_or ws i 0) o.children → Stepped Γ fs ws i e x i t
    stay l c e enters goes to =
        record {
          tree = x;
          here = c;
          known = l;
          frame = top Γ;
          place = omega arith;
          whole = refl;
          leads = λ act. rw (enters, goes act) (sym (bind_done (act x)));
          ends = ap (next Γ e) o.is ∙ to ∙ sym o.is;
          was_open = rw o.is;
        }

    -- a downcast to its variant
    pub cast_stay : t < ntypes Γ → Coded Γ fs ws i t x → (w : ℕ) → casts Γ t w ≡ true → w ≡ get_or ws i 0 → Stepped Γ fs ws i (downcast w) x i t
    unfolding acts enter wide
    cast_stay l c w p e = stay l c (downcast w) (rw (o.is, p, eq-eqb w (get_or ws i 0) e)) (λ act. refl) refl

    -- an unfold
    pub open_stay : t < ntypes Γ → Coded Γ fs ws i t x → Stepped Γ fs ws i index x i t
    unfolding acts opening
    open_stay l c = stay l c index (rw o.is) (λ act. refl) refl

    -- REFUSED

    module _ (act : Tree → Answer Tree) where
      -- a deref of no pointer
      pub deref_refused : pointer (kind Γ t) ≡ false → acts Γ deref x >>= inside deref act ≡ refused 5
      unfolding acts enter
      deref_refused p = rw (o.is, p)

      -- a field of a pointer
      pub field_pointer : (k : ℕ) → pointer (kind Γ t) ≡ true → acts Γ (field k) x >>= inside (field k) act ≡ refused 5
      unfolding acts enter
      field_pointer k p = rw (o.is, p)

      -- a field that it has not
      pub field_past : (k : ℕ) → pointer (kind Γ t) ≡ false → length (kids Γ t (get_or ws i 0)) ≤ k → acts Γ (field k) x >>= inside (field k) act ≡ refused 5
      unfolding acts enter
      field_past k p m = rw (o.is, p, nth_past o.below.fits k m act)

      -- a downcast to no variant of it
      pub cast_none : (w : ℕ) → casts Γ t w ≡ false → acts Γ (downcast w) x >>= inside (downcast w) act ≡ refused 5
      unfolding acts enter
      cast_none w p = rw (o.is, p)

      -- to another variant
      pub cast_other : (w : ℕ) → casts Γ t w ≡ true → w ≢ get_or ws i 0 → acts Γ (downcast w) x >>= inside (downcast w) act ≡ refused 6
      unfolding acts enter
      cast_other w p n = rw (o.is, p, ne_eqb w (get_or ws i 0) n)
