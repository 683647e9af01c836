-- The walk by types alone is the walk from a folded node: one step (`grown`), and steps in a row (`sprung`).
use mathlib.Core.Path.{◌≡◌, refl, sym, ◌∙◌, ap, subst}
use mathlib.Core.Bool.{Bool, true, false, cond, true≢false}
use mathlib.Core.List.{List, [], ◌∷◌, ◌++◌, append-nil, append_assoc}
use Prim.Native.Nat.{ℕ, suc, pred, ◌+◌, ◌-◌, ◌<◌, ◌≤◌}
use native.Mathlib.Omega.{arith}
use native.Mathlib.Decide.{ℕ_discrete}
use lib.Dec.{eqb, leb}
use lib.ListN.{length, get_or, length-append, length-replicate, replicate-append-replicate}
use Rattle.std.specs.Prelude.{Result, Ok, Err}
use Rattle.refusal.specs.Refusal.{number}
use Rattle.refusal.specs.declared.Refusal.{Refusal}
use Rattle.model.specs.Answer.{Answer, refused, done, ◌>>=◌}
use Rattle.model.specs.Types.{ntypes, kind, count, pointer, fielded, shut, form, kids, owner, first, casts}
use Rattle.model.specs.Tree.{Tree, leaf, node, size, leaves}
use Rattle.model.specs.Typing.{Openable}
use Rattle.model.specs.State.{Code, codes}
use Rattle.model.specs.Place.{Elem, deref, field, downcast, index, Place, stops, no_index}
use Rattle.model.specs.Walk.{child, inside, opened, opening, enter, walk, next, reached, wide}
use borrow.Author.Tests.{eqb-true, eqb-false, leb-true, leb-false}
use Rattle.base.specs.Tests.{split, cond_split, and_left}
use Rattle.base.specs.Answer.{bind_done, bind_bind}
use Rattle.base.specs.Kinds.{pointer_not_enum, pointer_not_shut, fielded_not_enum, fielded_not_shut, openable_zero}
use Rattle.laws.specs.Typing.{fits_leaves}
use Rattle.laws.specs.Walked.{openable_cast}
use Rattle.base.specs.Typed.{Typed, kid_placed, parts_inside, owner_inside, kids_pointer}
use Rattle.base.specs.Parts.{length_kids, kids_at}
use Rattle.walk.specs.Way.{acts}
use Rattle.walk.specs.Fresh.{folded, widened, Bud, bud, grows_open, grows_folded, grows, sprout, stub, variant, distance, mark, passing, trail}
use Rattle.walk.specs.declared.step.Fresh.{Fresh}
use Rattle.walk.proofs.Ways.{walk_acts, reached_next, no_index_first, no_index_rest}
use Rattle.walk.proofs.Frames.{put, zeros, nth_put, nth_past, firsts_leaves, beyond_leaves, sizes_leaves, pick_leaves, below_coded}

-- a step that leads from f to g
pub record Sprig (Γ : List ℕ) (f : Fresh) (e : Elem) (g : Fresh) : Type 0 where
  pub plug : Tree → Tree
  pub behind : ℕ
  pub coded : (z : Tree) → codes Γ (plug z) ≡ passing Γ f e ++ (codes Γ z ++ zeros behind)
  pub leads : (act : Tree → Answer Tree) → acts Γ e (bud Γ f) >>= inside e act ≡ act (bud Γ g) >>= λ z. done (plug z)
  pub counted : g.added + size (bud Γ f) ≡ f.added + (length (passing Γ f e) + size (bud Γ g) + behind)
  pub more : f.added ≤ g.added
  pub few : g.added ≤ f.added + 16384
  pub slim : variant e ≤ 16384
  pub marked : passing Γ f e ++ stub Γ g ≡ mark Γ f e ∷ zeros (pred (distance e))
  pub far : length (passing Γ f e) ≡ distance e
  pub ends : stops (e ∷ []) ≡ false → next Γ e (bud Γ f) ≡ bud Γ g
  pub fine : stops (e ∷ []) ≡ false → Bud Γ g

-- what a step gives
abbrev pub Grown : (Γ : List ℕ) (f : Fresh) (e : Elem) → Result Fresh Refusal → Type 0
Grown Γ f e (Ok g) = Sprig Γ f e g
Grown Γ f e (Err r) = (act : Tree → Answer Tree) → acts Γ e (bud Γ f) >>= inside e act ≡ refused (number r)

-- a node has few children
pub kids_few : {Γ : List ℕ} → Typed Γ → (t v : ℕ) → t < ntypes Γ → (kind Γ t ≡ 7 → v < count Γ t) → length (kids Γ t v) ≤ 16384
kids_few {Γ} h t v l r = rw (length_kids Γ t v) (omega (arith, parts_inside h (owner Γ t v) (owner_inside h t v l r)))

module _ (Γ : List ℕ) where
  -- the nodes of a tree opened one level
  pub size_opened : (t v : ℕ) → size (opened Γ t v) ≡ suc (length (kids Γ t v))
  unfolding opened size
  size_opened t v = ap suc (sizes_leaves (kids Γ t v))

  module _ (t v i k : ℕ) (h : length (kids Γ t v) ≡ suc (i + k)) where
    -- at its child number i
    child_opened : (act : Tree → Answer Tree) → child i act (opened Γ t v)
        ≡ act (leaf (get_or (kids Γ t v) i 0)) >>= λ z. done (node t v (put i z (leaves (kids Γ t v))))
    unfolding opened
    child_opened act =
        let ts : List ℕ = kids Γ t v in
        let l : i < length ts = omega arith in
        rw (nth_put {Γ = Γ} (fits_leaves ts) i l act, pick_leaves ts i l)
        (bind_bind (act (leaf (get_or ts i 0))) (λ u. done (put i u (leaves ts))) (λ us. done (node t v us)))

    -- its codes
    codes_opened : (z : Tree) → codes Γ (node t v (put i z (leaves (kids Γ t v)))) ≡ (form (kind Γ t), v) ∷ zeros i ++ (codes Γ z ++ zeros k)
    codes_opened z =
        let l : i < length (kids Γ t v) = omega arith in
        rw (below_coded Γ t v (fits_leaves (kids Γ t v)) i l z, firsts_leaves Γ (kids Γ t v) i l, beyond_leaves Γ (kids Γ t v) i l k h)

  -- at a child that it has not
  child_past : (t v i : ℕ) → length (kids Γ t v) ≤ i → (act : Tree → Answer Tree) → child i act (opened Γ t v) ≡ refused 5
  unfolding opened
  child_past t v i h act = rw (nth_past {Γ = Γ} (fits_leaves (kids Γ t v)) i h act)

  -- ONE STEP

  -- the kinds with a pointee, and those with fields, may be open
  openable_pointer : (t : ℕ) → pointer (kind Γ t) ≡ true → Openable Γ t 0
  openable_pointer t e = openable_zero t (pointer_not_shut (kind Γ t) e) (pointer_not_enum (kind Γ t) e)

  -- and those with fields
  openable_fielded : (t : ℕ) → fielded (kind Γ t) ≡ true → Openable Γ t 0
  openable_fielded t e = openable_zero t (fielded_not_shut (kind Γ t) e) (fielded_not_enum (kind Γ t) e)

  -- a type with variants is no pointer
  pub cast_no_pointer : (t v : ℕ) → casts Γ t v ≡ true → pointer (kind Γ t) ≡ false
  unfolding casts pointer
  cast_no_pointer t v e = split (eqb (kind Γ t) 7) (λ d. cc (eqb-true (kind Γ t) 7 d))
      (λ d. cc (eqb-true (kind Γ t) 6 (and_left (eqb (kind Γ t) 6) (eqb v 0) (rw d at e))))

  -- and has few
  pub cast_few : Typed Γ → (t v : ℕ) → t < ntypes Γ → casts Γ t v ≡ true → v ≤ 16384
  cast_few h t v l c =
      let o : Openable Γ t v = openable_cast Γ t v c in
      elim (ℕ_discrete (kind Γ t) 7) [
        | yes e ↦ omega (arith, o.ranged e, parts_inside h t l, h.few_parts)
        | no f ↦ omega (arith, o.plain f)
      ]

  -- a child's type is one of the record's
  pub kid_known : Typed Γ → (t v : ℕ) → t < ntypes Γ → Openable Γ t v → (i : ℕ) → i < length (kids Γ t v) → get_or (kids Γ t v) i 0 < ntypes Γ
  kid_known h t v l o i m =
      rw (kids_at Γ t v i m) (kid_placed h t v l o (first Γ t + i) (omega arith) (omega (arith, length_kids Γ t v))).below

  -- a step to a child: the node is opened, or is open
  module _ {f : Fresh} {e : Elem} (t v i k m : ℕ) (enters : acts Γ e (bud Γ f) ≡ done (opened Γ t v))
      (goes : (act : Tree → Answer Tree) → inside e act ≡ child i act) (passes : passing Γ f e ≡ (form (kind Γ t), v) ∷ zeros i)
      (marks : mark Γ f e ≡ (form (kind Γ t), v)) (far : distance e ≡ suc i) (kidss : length (kids Γ t v) ≡ suc (i + k))
      (adds : m + size (bud Γ f) ≡ f.added + (suc i + 1 + k)) (more : f.added ≤ m) (few : m ≤ f.added + 16384) (slim : variant e ≤ 16384)
      (to : next Γ e (bud Γ f) ≡ leaf (get_or (kids Γ t v) i 0)) (known : get_or (kids Γ t v) i 0 < ntypes Γ) where
    sprig_child : Sprig Γ f e (folded (get_or (kids Γ t v) i 0) m)
    unfolding bud stub size
    sprig_child =
        let b : length (passing Γ f e) ≡ suc i = ap length passes ∙ ap suc (length-replicate i (0, 0)) in
        record {
          plug = λ z. node t v (put i z (leaves (kids Γ t v)));
          behind = k;
          coded = λ z. rw passes (codes_opened t v i k kidss z);
          leads = λ act. rw (enters, goes act) (child_opened t v i k kidss act);
          counted = omega arith;
          more = more;
          few = few;
          slim = slim;
          marked = rw (passes, marks, far) (append-nil _);
          far = b ∙ sym far;
          ends = λ s. to;
          fine = λ s. record { known = known; cast = λ o. absurd (true≢false (sym o)) };
        }

  -- a step that stays at the node
  module _ {f : Fresh} {e : Elem} (t v m : ℕ) (enters : acts Γ e (bud Γ f) ≡ done (opened Γ t v))
      (goes : (act : Tree → Answer Tree) → inside e act ≡ act) (passes : passing Γ f e ≡ [])
      (marks : mark Γ f e ≡ (form (kind Γ t), v)) (far : distance e ≡ 0)
      (adds : m + size (bud Γ f) ≡ f.added + suc (length (kids Γ t v))) (more : f.added ≤ m) (few : m ≤ f.added + 16384) (slim : variant e ≤ 16384)
      (to : stops (e ∷ []) ≡ false → next Γ e (bud Γ f) ≡ opened Γ t v) (fine : stops (e ∷ []) ≡ false → (t < ntypes Γ) × (casts Γ t v ≡ true)) where
    sprig_stay : Sprig Γ f e (widened t v m)
    unfolding bud stub
    sprig_stay =
        record {
          plug = λ z. z;
          behind = 0;
          coded = λ z. rw passes (sym (append-nil (codes Γ z)));
          leads = λ act. rw (enters, goes act) (sym (bind_done (act (opened Γ t v))));
          counted = rw passes (omega (arith, size_opened t v));
          more = more;
          few = few;
          slim = slim;
          marked = rw (passes, marks, far);
          far = ap length passes ∙ sym far;
          ends = to;
          fine = λ s. record { known = (fine s).0; cast = λ o. (fine s).1 };
        }

  module _ (h : Typed Γ) where
    -- from a folded node
    grown_folded : (t w n : ℕ) → t < ntypes Γ → (e : Elem)
        → Grown Γ (record { typ = t; opened = false; what = w; added = n }) e (grows_folded Γ t n e)
    unfolding grows_folded acts enter bud passing mark opening wide opened size
    grown_folded t w n l deref = cond_split (Grown Γ _ deref) (pointer (kind Γ t))
        (λ p.
        let one : length (kids Γ t 0) ≡ suc (0 + 0) = ap length (kids_pointer h t 0 p) in
        sprig_child t 0 0 0 (n + 1) (rw p) (λ act. refl) refl refl refl one (omega arith) (omega arith) (omega arith) (omega arith) (pick_leaves (kids Γ t 0) 0 (omega arith))
        (kid_known h t 0 l (openable_pointer t p) 0 (omega arith)))
        (λ p act. rw p)
    grown_folded t w n l (field i) = cond_split (Grown Γ _ (field i)) (fielded (kind Γ t))
        (λ p. cond_split (Grown Γ _ (field i)) (leb (length (kids Γ t 0)) i)
        (λ q act. rw p (child_past t 0 i (leb-true (length (kids Γ t 0)) i q) act))
        (λ q.
        let m : i < length (kids Γ t 0) = leb-false (length (kids Γ t 0)) i q in
        sprig_child t 0 i (length (kids Γ t 0) - suc i) (n + length (kids Γ t 0)) (rw p) (λ act. refl) refl refl refl (omega arith) (omega arith) (omega arith)
        (omega (arith, kids_few h t 0 l (λ e. absurd (fielded_not_enum (kind Γ t) p e)))) (omega arith) (pick_leaves (kids Γ t 0) i m) (kid_known h t 0 l (openable_fielded t p) i m)))
        (λ p act. rw p)
    grown_folded t w n l (downcast v) = cond_split (Grown Γ _ (downcast v)) (casts Γ t v)
        (λ c. sprig_stay t v (n + length (kids Γ t v)) (rw c) (λ act. refl) refl refl refl (omega arith) (omega arith)
        (omega (arith, kids_few h t v l (openable_cast Γ t v c).ranged)) (cast_few h t v l c) (λ s. refl) (λ s. (l, c)))
        (λ c act. rw c)
    grown_folded t w n l index = cond_split (Grown Γ _ index) (shut (kind Γ t)) (λ s act. rw s) (λ s.
        cond_split (Grown Γ _ index) (eqb (kind Γ t) 7) (λ e act. rw (s, e)) (λ e.
        sprig_stay t 0 (n + length (kids Γ t 0)) (rw (s, e)) (λ act. refl) refl refl refl (omega arith) (omega arith)
        (omega (arith, kids_few h t 0 l (λ k. absurd (eqb-false (kind Γ t) 7 e k)))) (omega arith) (λ x. absurd (true≢false x)) (λ x. absurd (true≢false x))))

    -- from a node that a downcast has opened
    grown_open : (t v n : ℕ) → t < ntypes Γ → casts Γ t v ≡ true → (e : Elem) → Grown Γ (widened t v n) e (grows_open Γ t v n e)
    unfolding grows_open acts enter bud passing mark opening wide opened size
    grown_open t v n l c deref = λ act. rw (cast_no_pointer t v c)
    grown_open t v n l c (field i) = cond_split (Grown Γ _ (field i)) (leb (length (kids Γ t v)) i)
        (λ q act. rw (cast_no_pointer t v c) (child_past t v i (leb-true (length (kids Γ t v)) i q) act))
        (λ q.
        let m : i < length (kids Γ t v) = leb-false (length (kids Γ t v)) i q in
        sprig_child t v i (length (kids Γ t v) - suc i) n (rw (cast_no_pointer t v c)) (λ act. refl) refl refl refl (omega arith)
        (omega (arith, sizes_leaves (kids Γ t v))) (omega arith) (omega arith) (omega arith) (pick_leaves (kids Γ t v) i m) (kid_known h t v l (openable_cast Γ t v c) i m))
    grown_open t v n l c (downcast w) = cond_split (Grown Γ _ (downcast w)) (casts Γ t w)
        (λ d. cond_split (Grown Γ _ (downcast w)) (eqb w v)
        (λ e. sprig_stay t v n (rw (d, e)) (λ act. refl) refl refl refl (omega (arith, sizes_leaves (kids Γ t v))) (omega arith) (omega arith) (cast_few h t w l d) (λ s. refl) (λ s. (l, c)))
        (λ e act. rw (d, e)))
        (λ d act. rw d)
    grown_open t v n l c index =
        sprig_stay t v n refl (λ act. refl) refl refl refl (omega (arith, sizes_leaves (kids Γ t v))) (omega arith) (omega arith) (omega arith)
        (λ x. absurd (true≢false x)) (λ x. absurd (true≢false x))

    -- a step by types alone is a step from the node that it stands for
    pub grown : (f : Fresh) → Bud Γ f → (e : Elem) → Grown Γ f e (grows Γ f e)
    unfolding grows
    grown f b e = split f.opened
        (λ o. subst (λ (x : Bool). Grown Γ (record { typ = f.typ; opened = x; what = f.what; added = f.added }) e
        (cond x (grows_open Γ f.typ f.what f.added e) (grows_folded Γ f.typ f.added e)))
        (sym o) (grown_open f.typ f.what f.added b.known (b.cast o) e))
        (λ o. subst (λ (x : Bool). Grown Γ (record { typ = f.typ; opened = x; what = f.what; added = f.added }) e
        (cond x (grows_open Γ f.typ f.what f.added e) (grows_folded Γ f.typ f.added e)))
        (sym o) (grown_folded f.typ f.what f.added b.known e))

    -- where a step leads
    pub sprig_to : {f g : Fresh} {e : Elem} → Bud Γ f → grows Γ f e ≡ Ok g → Sprig Γ f e g
    sprig_to {f} {g} {e} b d = subst (Grown Γ f e) d (grown f b e)

-- STEPS IN A ROW

-- the elements es lead from f to g, whatever follows
pub record Sprung (Γ : List ℕ) (f : Fresh) (es : Place) (g : Fresh) : Type 0 where
  pub plug : Tree → Tree
  pub behind : ℕ
  pub coded : (z : Tree) → codes Γ (plug z) ≡ trail Γ f es ++ (codes Γ z ++ zeros behind)
  pub leads : (q : Place) (act : Tree → Answer Tree) → walk Γ act (es ++ q) (bud Γ f) ≡ walk Γ act q (bud Γ g) >>= λ z. done (plug z)
  pub reaches : (q : Place) → reached Γ (es ++ q) (bud Γ f) ≡ reached Γ q (bud Γ g)
  pub counted : g.added + size (bud Γ f) ≡ f.added + (length (trail Γ f es) + size (bud Γ g) + behind)
  pub more : f.added ≤ g.added
  pub fine : Bud Γ g

-- what the walk by types gives
abbrev pub Sprouted : (Γ : List ℕ) (f : Fresh) (es : Place) → Result Fresh Refusal → Type 0
Sprouted Γ f es (Ok g) = Sprung Γ f es g
Sprouted Γ f es (Err r) = (q : Place) (act : Tree → Answer Tree) → walk Γ act (es ++ q) (bud Γ f) ≡ refused (number r)

module _ (Γ : List ℕ) where
  module _ (f : Fresh) (e : Elem) (es : Place) where
    -- the first step of several
    pub sprout_to : {g : Fresh} → grows Γ f e ≡ Ok g → sprout Γ f (e ∷ es) ≡ sprout Γ g es
    unfolding sprout
    sprout_to d = cc

    -- one that is refused
    pub sprout_refused : {r : Refusal} → grows Γ f e ≡ Err r → sprout Γ f (e ∷ es) ≡ Err r
    unfolding sprout
    sprout_refused d = cc

    -- its codes
    pub trail_to : {g : Fresh} → grows Γ f e ≡ Ok g → trail Γ f (e ∷ es) ≡ passing Γ f e ++ trail Γ g es
    unfolding trail
    trail_to d = cc

  -- no step
  pub sprung_none : (f : Fresh) → Bud Γ f → Sprung Γ f [] f
  unfolding trail
  sprung_none f b =
      record {
        plug = λ z. z;
        behind = 0;
        coded = λ z. sym (append-nil (codes Γ z));
        leads = λ q act. sym (bind_done (walk Γ act q (bud Γ f)));
        reaches = λ q. refl;
        counted = omega arith;
        more = omega arith;
        fine = b;
      }

  -- a step, then others
  pub sprung_more : {f g k : Fresh} (e : Elem) (es : Place) → stops (e ∷ []) ≡ false → grows Γ f e ≡ Ok g → Sprig Γ f e g → Sprung Γ g es k → Sprung Γ f (e ∷ es) k
  sprung_more {f} {g} {k} e es n d s r =
      let t : trail Γ f (e ∷ es) ≡ passing Γ f e ++ trail Γ g es = trail_to f e es d in
      record {
        plug = λ z. s.plug (r.plug z);
        behind = r.behind + s.behind;
        coded = λ z.
            s.coded (r.plug z)
            ∙ ap (λ (l : List Code). passing Γ f e ++ (l ++ zeros s.behind)) (r.coded z)
            ∙ rw (t, ← replicate-append-replicate {A = Code} r.behind s.behind (0, 0)) (simp append_assoc);
        leads = λ q act.
            walk_acts Γ e (es ++ q) n act (bud Γ f)
            ∙ s.leads (walk Γ act (es ++ q))
            ∙ ap (λ (a : Answer Tree). a >>= λ z. done (s.plug z)) (r.leads q act)
            ∙ bind_bind (walk Γ act q (bud Γ k)) (λ z. done (r.plug z)) (λ z. done (s.plug z));
        reaches = λ q. reached_next Γ e (es ++ q) n (bud Γ f) ∙ ap (reached Γ (es ++ q)) (s.ends n) ∙ r.reaches q;
        counted = omega (arith, s.counted, r.counted, ap length t, length-append (passing Γ f e) (trail Γ g es));
        more = omega (arith, s.more, r.more);
        fine = r.fine;
      }

  -- the walk by types alone is the walk from the node that it stands for
  pub sprouted : Typed Γ → (es : Place) → no_index es ≡ true → (f : Fresh) → Bud Γ f → Sprouted Γ f es (sprout Γ f es)
  unfolding sprout
  sprouted h [] n f b = sprung_none f b
  sprouted h (e ∷ es) n f b = one (grows Γ f e) refl (grown Γ h f b e) (λ g k. sprouted h es (no_index_rest e es n) g k)
    where
      first : stops (e ∷ []) ≡ false
      first = no_index_first e es n

      more : {g : Fresh} → grows Γ f e ≡ Ok g → Sprig Γ f e g → (o : Result Fresh Refusal) → Sprouted Γ g es o → Sprouted Γ f (e ∷ es) o
      more d s (Ok k) r = sprung_more e es first d s r
      more {g} d s (Err k) r = λ q act. walk_acts Γ e (es ++ q) first act (bud Γ f) ∙ s.leads (walk Γ act (es ++ q)) ∙ rw (r q act)

      one : (o : Result Fresh Refusal) → grows Γ f e ≡ o → Grown Γ f e o → ((g : Fresh) → Bud Γ g → Sprouted Γ g es (sprout Γ g es))
          → Sprouted Γ f (e ∷ es) (elim o [ Ok g ↦ sprout Γ g es | Err r ↦ Err r ])
      one (Ok g) d s rest = more d s (sprout Γ g es) (rest g (s.fine first))
      one (Err r) d s rest = λ q act. walk_acts Γ e (es ++ q) first act (bud Γ f) ∙ s (walk Γ act (es ++ q))
