-- How a walk goes: through open nodes step by step (`midway-..`), then by types alone; and where it ends (`Arrived`).
use mathlib.Core.Path.{◌≡◌, refl, sym, ◌∙◌, ap, ap₂, subst}
use mathlib.Core.Logic.{◌≢◌}
use mathlib.Core.Bool.{true, false, true≢false}
use mathlib.Core.List.{List, [], ◌∷◌, ◌++◌}
use Prim.Native.Nat.{ℕ, ◌+◌, ◌-◌, ◌<◌, ◌≤◌}
use native.Mathlib.Omega.{arith}
use native.Mathlib.Decide.{dec_lt}
use lib.ListN.{length, length-append}
use borrow.Author.Tests.{eq-eqb, ne_eqb}
use Rattle.std.specs.Prelude.{Ok, Err}
use Rattle.refusal.specs.Refusal.{number}
use Rattle.refusal.specs.declared.Refusal.{Refusal}
use Rattle.model.specs.Words.{word}
use Rattle.model.specs.Answer.{Answer, refused, done, ◌>>=◌}
use Rattle.model.specs.Types.{ntypes, kind}
use Rattle.model.specs.Tree.{Tree, leaf, node, type}
use Rattle.model.specs.State.{codes}
use Rattle.model.specs.Place.{deref, field, downcast, index, Place, stops, no_index}
use Rattle.model.specs.Walk.{enter, step, inside, walk, reached, changed, opened}
use Rattle.model.specs.Block.{elem_of}
use Rattle.base.specs.Tests.{split}
use Rattle.base.specs.Typed.{Typed}
use Rattle.base.specs.Answer.{bind_bind}
use Rattle.laws.specs.Typing.{fit_root}
use Rattle.records.specs.Here.{Coded}
use Rattle.walk.specs.Frame.{Frame}
use Rattle.walk.specs.Way.{route, acts, Stepped, Way}
use Rattle.walk.specs.Fresh.{folded, Bud, bud, sprout, trail}
use Rattle.walk.specs.Site.{rest, Midway, Passing}
use Rattle.walk.specs.declared.step.Fresh.{Fresh}
use Rattle.walk.specs.declared.along.Through.{Through}
use Rattle.walk.proofs.Frames.{within, zeros}
use Rattle.walk.proofs.Ways.{way_here, way_then, way_step, walk_acts, route_cons, route_split}
use Rattle.walk.proofs.Growing.{Sprouted, Sprung, sprouted}
use Rattle.walk.proofs.Places.{no_index_behind}

-- the first of the items from a on
pub rest_cons : (ops args : List ℕ) (a : ℕ) → a < length ops → rest ops args a ≡ elem_of (word ops a) (word args a) ∷ rest ops args (a + 1)
rest_cons ops args a h =
    let n : length ops - a - 1 ≡ length ops - (a + 1) = omega arith in
    route_cons ops args a (length ops - a) (omega arith) ∙ ap (λ (k : ℕ). elem_of (word ops a) (word args a) ∷ route ops args (a + 1) k) n

-- the items from a on, as those before e and those from e on
pub rest_split : (ops args : List ℕ) (a e : ℕ) → a ≤ e → e ≤ length ops → rest ops args a ≡ route ops args a (e - a) ++ rest ops args e
rest_split ops args a e l m =
    let n : length ops - a ≡ (e - a) + (length ops - e) = omega arith in
    let k : a + (e - a) ≡ e = omega arith in
    ap (route ops args a) n ∙ route_split ops args a (e - a) (length ops - e) ∙ ap (λ (j : ℕ). route ops args a (e - a) ++ route ops args j (length ops - e)) k

module _ {Γ fs ws ops args : List ℕ} where
  -- at the start
  pub midway_start : {i t : ℕ} {x : Tree} → Coded Γ fs ws i t x → t < ntypes Γ → Midway Γ fs ws ops args i x 1 i t
  unfolding way_here
  midway_start {x = x} h l = record { tree = x; here = h; known = l; way = way_here; place = omega arith }

  module _ {i a n t : ℕ} {x : Tree} (m : Midway Γ fs ws ops args i x a n t) (l : a < length ops)
      (p : stops (elem_of (word ops a) (word args a) ∷ []) ≡ false) where
    -- after one more step
    pub midway_step : {n' u : ℕ} → Stepped Γ fs ws n (elem_of (word ops a) (word args a)) m.tree n' u → Midway Γ fs ws ops args i x (a + 1) n' u
    unfolding way_then way_step
    midway_step s =
        record {
          tree = s.tree;
          here = s.here;
          known = s.known;
          way = way_then m.way (way_step (rest ops args (a + 1)) (rest_cons ops args a l) p s);
          place = omega (arith, m.place, s.place, length-append m.way.frame.before s.frame.before);
        }

    -- refused by a step
    pub midway_refused : {r : ℕ}
        → ((act : Tree → Answer Tree) → acts Γ (elem_of (word ops a) (word args a)) m.tree >>= inside (elem_of (word ops a) (word args a)) act ≡ refused r)
        → (act : Tree → Answer Tree) → walk Γ act (rest ops args 1) x ≡ refused r
    midway_refused s act =
        m.way.leads act
        ∙ ap (λ (q : Place). walk Γ act q m.tree >>= λ z. done (m.way.frame.plug z)) (rest_cons ops args a l)
        ∙ rw (walk_acts Γ (elem_of (word ops a) (word args a)) (rest ops args (a + 1)) p act m.tree, s (walk Γ act (rest ops args (a + 1))))

-- AT THE END

module _ (Γ : List ℕ) where
  -- at its end, or at an index of an array, a walk does no step
  pub stopped_walk : (p : Place) → stops p ≡ true → (z : Tree) → (0 < length p → kind Γ (type z) ≡ 4) → (act : Tree → Answer Tree) → walk Γ act p z ≡ act z
  unfolding walk step enter
  stopped_walk [] s z k act = refl
  stopped_walk (deref ∷ p) s z k act = absurd (true≢false (sym s))
  stopped_walk (field i ∷ p) s z k act = absurd (true≢false (sym s))
  stopped_walk (downcast v ∷ p) s z k act = absurd (true≢false (sym s))
  stopped_walk (index ∷ p) s (leaf t) k act = rw (eq-eqb (kind Γ t) 4 (k (omega arith)))
  stopped_walk (index ∷ p) s (node t v ns) k act = rw (eq-eqb (kind Γ t) 4 (k (omega arith)))

  -- at an index of anything else it is refused
  pub stopped_barred : (p : Place) → stops p ≡ true → (z : Tree) → 0 < length p → kind Γ (type z) ≢ 4 → (act : Tree → Answer Tree)
      → walk Γ act p z ≡ refused 5
  unfolding walk step enter
  stopped_barred [] s z l k act = absurd (omega arith)
  stopped_barred (deref ∷ p) s z l k act = absurd (true≢false (sym s))
  stopped_barred (field i ∷ p) s z l k act = absurd (true≢false (sym s))
  stopped_barred (downcast v ∷ p) s z l k act = absurd (true≢false (sym s))
  stopped_barred (index ∷ p) s (leaf t) l k act = rw (ne_eqb (kind Γ t) 4 k)
  stopped_barred (index ∷ p) s (node t v ns) l k act = rw (ne_eqb (kind Γ t) 4 k)

  -- and it is at the node reached, with no change
  pub stopped_reached : (p : Place) → stops p ≡ true → (z : Tree) → (reached Γ p z ≡ z) × (changed Γ p z ≡ false)
  unfolding reached changed
  stopped_reached [] s z = (refl, refl)
  stopped_reached (deref ∷ p) s z = absurd (true≢false (sym s))
  stopped_reached (field i ∷ p) s z = absurd (true≢false (sym s))
  stopped_reached (downcast v ∷ p) s z = absurd (true≢false (sym s))
  stopped_reached (index ∷ p) s z = (refl, refl)

-- the type of the node that a walk by types has come to
pub type_bud : (Γ : List ℕ) (f : Fresh) → type (bud Γ f) ≡ f.typ
unfolding bud opened
type_bud Γ f = split f.opened (λ o. rw o) (λ o. rw o)

-- the walk of p from x goes on as that of q from z, whatever it has opened
pub record Arrived (Γ : List ℕ) (p : Place) (x : Tree) (q : Place) (z : Tree) : Type 0 where
  pub frame : Frame Γ (codes Γ)
  pub leads : (act : Tree → Answer Tree) → walk Γ act p x ≡ walk Γ act q z >>= λ u. done (frame.plug u)
  pub reaches : reached Γ p x ≡ reached Γ q z

module _ {Γ : List ℕ} where
  -- what a walk by types has opened, as a frame
  abbrev pub sprung_frame : {f g : Fresh} {es : Place} → Sprung Γ f es g → Frame Γ (codes Γ)
  sprung_frame {f} {es = es} s = record { plug = s.plug; before = trail Γ f es; behind = zeros s.behind; coded = s.coded }

  -- through open nodes alone
  unfoldable pub arrived_open : {p q r : Place} {x z : Tree} → Way Γ p x q z → q ≡ r → Arrived Γ p x r z
  arrived_open {z = z} w d =
      record {
        frame = w.frame;
        leads = λ act. w.leads act ∙ ap (λ (s : Place). walk Γ act s z >>= λ u. done (w.frame.plug u)) d;
        reaches = w.reaches ∙ ap (λ (s : Place). reached Γ s z) d;
      }

  -- and then by types
  unfoldable pub arrived_fresh : {p q : Place} {x y : Tree} {t : ℕ} {g : Fresh} (es tl : Place) → Way Γ p x q y → q ≡ es ++ tl → y ≡ leaf t
      → Sprung Γ (folded t 0) es g → Arrived Γ p x tl (bud Γ g)
  unfolding bud
  arrived_fresh {q = q} {y = y} {t} {g} es tl w d f s =
      record {
        frame = within Γ w.frame (sprung_frame s);
        leads = λ act.
            w.leads act
            ∙ ap₂ (λ (r : Place) (z : Tree). walk Γ act r z >>= λ u. done (w.frame.plug u)) d f
            ∙ ap (λ (a : Answer Tree). a >>= λ u. done (w.frame.plug u)) (s.leads tl act)
            ∙ bind_bind (walk Γ act tl (bud Γ g)) (λ u. done (s.plug u)) (λ u. done (w.frame.plug u));
        reaches = w.reaches ∙ ap₂ (reached Γ) d f ∙ s.reaches tl;
      }

-- a node where the walk from x ends, of the type t
pub record Arrives (Γ : List ℕ) (p : Place) (x : Tree) (q : Place) (t : ℕ) : Type 0 where
  pub node : Tree
  pub typed : type node ≡ t
  pub arrived : Arrived Γ p x q node

-- a folded node of the record
pub bud_folded : {Γ : List ℕ} (t n : ℕ) → t < ntypes Γ → Bud Γ (folded t n)
bud_folded t n l = record { known = l; cast = λ o. absurd (true≢false (sym o)) }

-- no element is left
pub sprout_none : (Γ : List ℕ) (f : Fresh) (ops args : List ℕ) (i n : ℕ) → n ≡ 0 → (sprout Γ f (route ops args i n) ≡ Ok f) × (trail Γ f (route ops args i n) ≡ [])
unfolding sprout route trail
sprout_none Γ f ops args i n e = (rw e, rw e)

-- an earlier part of what has no index
pub plain_from : (ops args : List ℕ) (a e : ℕ) → 1 ≤ a → a ≤ e → no_index (route ops args 1 (e - 1)) ≡ true → no_index (route ops args a (e - a)) ≡ true
plain_from ops args a e l m h =
    let n : e - 1 ≡ (a - 1) + (e - a) = omega arith in
    let k : 1 + (a - 1) ≡ a = omega arith in
    let d : route ops args 1 (e - 1) ≡ route ops args 1 (a - 1) ++ route ops args a (e - a) =
    ap (route ops args 1) n ∙ route_split ops args 1 (a - 1) (e - a) ∙ ap (λ (j : ℕ). route ops args 1 (a - 1) ++ route ops args j (e - a)) k in
    no_index_behind (route ops args 1 (a - 1)) (route ops args a (e - a)) (sym (ap no_index d) ∙ h)

module _ {Γ fs ws ops args : List ℕ} {e i : ℕ} {x : Tree} {th : Through} (P : Passing Γ fs ws ops args e i x th) (h : Typed Γ) (l : e ≤ length ops)
    (plain : no_index (route ops args th.at (e - th.at)) ≡ true) where
  -- by types from where the open nodes end
  by_types : Sprouted Γ (folded th.typ 0) (route ops args th.at (e - th.at)) (sprout Γ (folded th.typ 0) (route ops args th.at (e - th.at)))
  by_types = sprouted Γ h (route ops args th.at (e - th.at)) plain (folded th.typ 0) (bud_folded th.typ 0 P.midway.known)

  -- it leads to g
  pub sprung_to : {g : Fresh} → sprout Γ (folded th.typ 0) (route ops args th.at (e - th.at)) ≡ Ok g
      → Sprung Γ (folded th.typ 0) (route ops args th.at (e - th.at)) g
  sprung_to d = subst (Sprouted Γ (folded th.typ 0) (route ops args th.at (e - th.at))) d by_types

  -- no step is left
  none_left : ¬ (th.at < e) → (e ≡ th.at) × (sprout Γ (folded th.typ 0) (route ops args th.at (e - th.at)) ≡ Ok (folded th.typ 0))
  none_left n = (omega (arith, P.most), (sprout_none Γ (folded th.typ 0) ops args th.at (e - th.at) (omega arith)).0)

  -- it is refused
  pub passing_refused : {r : Refusal} → sprout Γ (folded th.typ 0) (route ops args th.at (e - th.at)) ≡ Err r
      → (act : Tree → Answer Tree) → walk Γ act (rest ops args 1) x ≡ refused (number r)
  unfolding bud
  passing_refused {r} d act =
      let m = P.midway in
      elim (dec_lt th.at e) [
        | yes n ↦
            let w = subst (Sprouted Γ (folded th.typ 0) (route ops args th.at (e - th.at))) d by_types in
            m.way.leads act
            ∙ ap (λ (q : Place). walk Γ act q m.tree >>= λ u. done (m.way.frame.plug u)) (rest_split ops args th.at e P.most l)
            ∙ rw (P.folded n, w (rest ops args e) act)
        | no n ↦ let z : ◌≡◌ {A = ℕ} 0 1 = cc (none_left n).1 in absurd (omega arith)
      ]

  -- it ends at a node
  pub passing_arrives : {g : Fresh} → sprout Γ (folded th.typ 0) (route ops args th.at (e - th.at)) ≡ Ok g
      → Arrives Γ (rest ops args 1) x (rest ops args e) g.typ
  passing_arrives {g} d =
      let m = P.midway in
      elim (dec_lt th.at e) [
        | yes n ↦ record {
          node = bud Γ g;
          typed = type_bud Γ g;
          arrived = arrived_fresh (route ops args th.at (e - th.at)) (rest ops args e) m.way (rest_split ops args th.at e P.most l) (P.folded n) (sprung_to d);
        }
        | no n ↦
            let f : Ok (folded th.typ 0) ≡ Ok g = sym (none_left n).1 ∙ d in
            record {
              node = m.tree;
              typed = cc (fit_root m.here.fits);
              arrived = arrived_open m.way (ap (rest ops args) (sym (none_left n).0));
            }
      ]
