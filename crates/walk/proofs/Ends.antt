-- What a walk that has ended says to a caller: it stays within open nodes (`Stays`), or what it opens, with one step more or none,
-- stands in the place of a folded node (`Grafted`).
use mathlib.Core.Path.{◌≡◌, refl, sym, ◌∙◌, ap, ap₂, subst}
use mathlib.Core.Bool.{true, false, true≢false}
use mathlib.Core.List.{List, [], ◌∷◌, ◌++◌, append_assoc}
use mathlib.Core.Option.{some}
use Prim.Native.Nat.{ℕ, suc, pred, ◌+◌, ◌-◌, ◌<◌, ◌≤◌}
use native.Mathlib.Omega.{arith}
use lib.ListN.{length, length-append, replicate-append-replicate}
use lib.Dec.{ltb}
use borrow.Author.Tests.{ltb-true, ltb-false}
use Rattle.std.specs.Prelude.{Ok, Err, Some, None}
use Rattle.refusal.specs.Refusal.{number}
use Rattle.refusal.specs.declared.Refusal.{Refusal}
use Rattle.model.specs.Words.{word}
use Rattle.model.specs.Answer.{Answer, refused, done, ◌>>=◌}
use Rattle.model.specs.Types.{kids}
use Rattle.model.specs.Tree.{Tree, leaf, size, sizes, type, leaves}
use Rattle.model.specs.State.{Code, codes}
use Rattle.model.specs.Place.{Elem, deref, field, downcast, index, Place, Spot, stops, no_index}
use Rattle.model.specs.Walk.{enter, opening, opened, inside, walk, reached, changed, passed}
use Rattle.model.specs.Block.{elem_of}
use Rattle.model.specs.Calls.{spot_of}
use Rattle.base.specs.Tests.{split}
use Rattle.base.specs.Answer.{bind_done, bind_bind}
use Rattle.base.specs.Typed.{Typed}
use Rattle.laws.specs.Typing.{fit_root}
use Rattle.records.specs.Codes.{length_codes}
use Rattle.walk.specs.Frame.{Frame}
use Rattle.walk.specs.Way.{route, acts, Stepped}
use Rattle.walk.specs.Fresh.{folded, bud, grows, stub, distance, mark, passing, trail}
use Rattle.walk.specs.Site.{rest, Midway, Site}
use Rattle.walk.specs.Applied.{filled, tip, element, opening as opening_elements}
use Rattle.walk.specs.declared.step.More.{More}
use Rattle.walk.specs.declared.step.Fresh.{Fresh}
use Rattle.walk.specs.declared.along.Walk.{Walk}
use Rattle.walk.proofs.Frames.{zeros, codess_leaves, sizes_leaves}
use Rattle.walk.proofs.Ways.{no_index_first, route_next, length_route}
use Rattle.walk.proofs.Growing.{Sprig, grown, sprig_to, Grown, Sprung}
use Rattle.walk.proofs.Inks.{length_filled}
use Rattle.walk.proofs.Places.{rest_place}
use Rattle.walk.proofs.Sites.{rest_cons, rest_split, stopped_reached, sprung_to, type_bud, sprout_none, Arrives, passing_arrives}

-- ONE STEP MORE, which stays at its node

-- what it does is done there
inside_stays : (e : Elem) → distance e ≡ 0 → (act : Tree → Answer Tree) → inside e act ≡ act
inside_stays deref d act = absurd (omega (arith, d))
inside_stays (field i) d act = absurd (omega (arith, d))
inside_stays (downcast v) d act = refl
inside_stays index d act = refl

module _ (Γ : List ℕ) (e : Elem) (d : distance e ≡ 0) (x : Tree) where
  -- so it is all that is done
  acts_stays : acts Γ e x ≡ acts Γ e x >>= inside e done
  acts_stays = sym (bind_done (acts Γ e x)) ∙ ap (λ (f : Tree → Answer Tree). acts Γ e x >>= f) (sym (inside_stays e d done))

  -- at an open node it changes nothing
  pub step_stays : {fs ws : List ℕ} {i n u : ℕ} → Stepped Γ fs ws i e x n u → acts Γ e x ≡ done x
  step_stays s = acts_stays ∙ s.leads done ∙ ap done s.whole

  -- or is refused
  pub step_barred : {r : ℕ} → ((act : Tree → Answer Tree) → acts Γ e x >>= inside e act ≡ refused r) → acts Γ e x ≡ refused r
  step_barred s = acts_stays ∙ s done

-- at a node that a walk by types has come to it opens it
step_leads : (Γ : List ℕ) (e : Elem) → distance e ≡ 0 → {f g : Fresh} (s : Sprig Γ f e g) → acts Γ e (bud Γ f) ≡ done (s.plug (bud Γ g))
step_leads Γ e d {f} s = acts_stays Γ e d (bud Γ f) ∙ s.leads done

-- a downcast
pub acts_cast : (Γ : List ℕ) (v : ℕ) → acts Γ (elem_of 3 v) ≡ enter Γ (downcast v)
unfolding acts elem_of
acts_cast Γ v = refl

-- an unfold
pub acts_open : (Γ : List ℕ) (a : ℕ) → acts Γ (elem_of 16 a) ≡ opening Γ
unfolding acts elem_of
acts_open Γ a = refl

-- CODES AND ZEROS BEHIND THEM

-- more zeros
filled_more : (cs : List Code) (n k : ℕ) → length cs ≤ n → filled cs n ++ zeros k ≡ filled cs (n + k)
unfolding filled
filled_more cs n k h =
    let e : n - length cs + k ≡ n + k - length cs = omega arith in
    append_assoc cs (zeros (n - length cs)) (zeros k)
    ∙ ap (λ (l : List Code). cs ++ l) (replicate-append-replicate {A = Code} (n - length cs) k (0, 0) ∙ ap zeros e)

-- more codes
filled_behind : (a cs : List Code) (n : ℕ) → a ++ filled cs n ≡ filled (a ++ cs) (length a + n)
unfolding filled
filled_behind a cs n =
    let e : n - length cs ≡ length a + n - length (a ++ cs) = omega (arith, length-append a cs) in
    sym (append_assoc a cs (zeros (n - length cs))) ∙ ap (λ (k : ℕ). a ++ cs ++ zeros k) e

-- the codes of the node that a walk by types has come to
codes_bud : (Γ : List ℕ) (f : Fresh) → (codes Γ (bud Γ f) ≡ filled (stub Γ f) (size (bud Γ f))) × (length (stub Γ f) ≤ size (bud Γ f))
unfolding bud stub filled codes size opened
codes_bud Γ f =
    let ts : List ℕ = kids Γ f.typ f.what in
    split f.opened
    (λ o. rw o (let n : suc (sizes (leaves ts)) - 1 ≡ length ts = omega (arith, sizes_leaves ts) in (rw (n, codess_leaves Γ ts), omega arith)))
    (λ o. rw o (refl, omega arith))

-- what a step that stays writes
passing_stays : (Γ : List ℕ) (f : Fresh) (e : Elem) → distance e ≡ 0 → passing Γ f e ≡ []
unfolding passing
passing_stays Γ f deref d = absurd (omega (arith, d))
passing_stays Γ f (field i) d = absurd (omega (arith, d))
passing_stays Γ f (downcast v) d = refl
passing_stays Γ f index d = refl

-- WHERE A WALK ENDS

-- a step from a folded node changes it
changed_folded : (Γ : List ℕ) (e : Elem) (p : Place) → stops (e ∷ []) ≡ false → (t : ℕ) → changed Γ (e ∷ p) (leaf t) ≡ true
unfolding changed
changed_folded Γ deref p h t = refl
changed_folded Γ (field i) p h t = refl
changed_folded Γ (downcast v) p h t = refl
changed_folded Γ index p h t = absurd (true≢false h)

-- it passes no element of a place that isn't walked
passed_stops : (Γ : List ℕ) (p : Place) (s : Tree) → stops p ≡ true → passed Γ p s ≡ 0
unfolding passed
passed_stops Γ [] s h = refl
passed_stops Γ (deref ∷ p) s h = absurd (true≢false (sym h))
passed_stops Γ (field i ∷ p) s h = absurd (true≢false (sym h))
passed_stops Γ (downcast v ∷ p) s h = absurd (true≢false (sym h))
passed_stops Γ (index ∷ p) s h = refl

-- nor of one walked from a folded node
passed_folded : (Γ : List ℕ) (p : Place) (t : ℕ) → passed Γ p (leaf t) ≡ 0
unfolding passed
passed_folded Γ [] t = refl
passed_folded Γ (deref ∷ p) t = refl
passed_folded Γ (field i ∷ p) t = refl
passed_folded Γ (downcast v ∷ p) t = refl
passed_folded Γ (index ∷ p) t = refl

-- the walk of p from x, at i, goes through open nodes alone to the tree z, at n
pub record Stays (Γ : List ℕ) (p : Place) (i : ℕ) (x : Tree) (n : ℕ) (z : Tree) : Type 0 where
  pub frame : Frame Γ (codes Γ)
  pub whole : frame.plug z ≡ x
  pub place : n ≡ i + length frame.before
  pub leads : (act : Tree → Answer Tree) → walk Γ act p x ≡ act z >>= λ u. done (frame.plug u)
  pub unchanged : changed Γ p x ≡ false
  pub reaches : reached Γ p x ≡ z

-- done with act, the walk of p from x, at i, gives a tree in which the codes cs, and zeros behind them, 1 + n in all, stand in
-- the place of a folded node of x, at m
pub record Grafted (Γ : List ℕ) (act : Tree → Answer Tree) (p : Place) (i : ℕ) (x : Tree) (m : ℕ) (cs : List Code) (n : ℕ) : Type 0 where
  pub result : Tree
  pub walks : walk Γ act p x ≡ done result
  pub before : List Code
  pub behind : List Code
  pub place : m ≡ i + length before
  pub was : codes Γ x ≡ before ++ ((0, 0) ∷ behind)
  pub is : codes Γ result ≡ before ++ (filled cs (suc n) ++ behind)
  pub sized : size result ≡ size x + n

-- the walk of p from x ends at a node of type t
pub record Ended (Γ : List ℕ) (p : Place) (x : Tree) (t : ℕ) : Type 0 where
  pub result : Tree
  pub walks : walk Γ done p x ≡ done result
  pub typed : type (reached Γ p x) ≡ t

module _ {Γ fs ws ops args : List ℕ} {i : ℕ} {q : Spot} {x : Tree} {w : Walk} (h : Typed Γ) (is : spot_of ops args ≡ some q)
    (S : Site Γ fs ws ops args i q.place x w) where
  -- where the open nodes end
  abbrev m : Midway Γ fs ws ops args i x w.passed w.node w.typ
  m = S.passing.midway

  -- the place, as items
  here : q.place ≡ rest ops args 1
  here = sym (rest_place ops args is)

  -- it ends at a node
  pub site_ended : Ended Γ q.place x w.fresh.typ
  site_ended =
      let a : Arrives Γ (rest ops args 1) x (rest ops args w.walked) w.fresh.typ = passing_arrives S.passing h S.within S.plain S.fresh in
      record {
        result = a.arrived.frame.plug a.node;
        walks = ap (λ (r : Place). walk Γ done r x) here ∙ a.arrived.leads done ∙ rw (S.array a.node a.typed done);
        typed = ap type (ap (λ (r : Place). reached Γ r x) here ∙ a.arrived.reaches ∙ (stopped_reached Γ (rest ops args w.walked) S.last a.node).0) ∙ a.typed;
      }

  -- it changes the tree where it opens a node
  pub site_changed : w.passed < w.walked → changed Γ q.place x ≡ true
  unfolding changed
  site_changed l =
      let e : Elem = elem_of (word ops w.passed) (word args w.passed) in
      let p : no_index (e ∷ route ops args (w.passed + 1) (w.walked - (w.passed + 1))) ≡ true = sym (ap no_index (route_next ops args w.passed w.walked l)) ∙ S.plain in
      ap (λ (r : Place). changed Γ r x) here
      ∙ m.way.changes
      ∙ ap₂ (changed Γ) (rest_cons ops args w.passed (omega (arith, S.within))) (S.passing.folded l)
      ∙ changed_folded Γ e (rest ops args (w.passed + 1)) (no_index_first e (route ops args (w.passed + 1) (w.walked - (w.passed + 1))) p) w.typ

  -- it has passed as many elements as items lead through open nodes, which count the root
  pub site_passed : w.passed ≡ suc (passed Γ q.place x)
  site_passed =
      let a : ℕ = w.passed in
      let long : length (rest ops args 1) ≡ length ops - 1 = length_route ops args 1 (length ops - 1) in
      let left : length (rest ops args a) ≡ length ops - a = length_route ops args a (length ops - a) in
      let none : passed Γ (rest ops args a) m.tree ≡ 0 = split (ltb a w.walked)
      (λ l. ap (passed Γ (rest ops args a)) (S.passing.folded (ltb-true a w.walked l)) ∙ passed_folded Γ (rest ops args a) w.typ)
      (λ l.
      let e : a ≡ w.walked = omega (arith, ltb-false a w.walked l, S.passing.most) in
      passed_stops Γ (rest ops args a) m.tree (ap (λ (n : ℕ). stops (rest ops args n)) e ∙ S.last)) in
      omega (arith, ap (λ (r : Place). passed Γ r x) here, m.way.passes, S.passing.least, S.passing.most, S.within)

  -- or not at all
  pub site_stays : w.passed ≡ w.walked → Stays Γ q.place i x w.node S.passing.midway.tree
  site_stays e =
      let z : Tree = m.tree in
      let last : stops (rest ops args w.passed) ≡ true = ap (λ (n : ℕ). stops (rest ops args n)) e ∙ S.last in
      let none : w.walked - w.passed ≡ 0 = omega arith in
      let d : Ok (folded w.typ 0) ≡ Ok w.fresh = sym (sprout_none Γ (folded w.typ 0) ops args w.passed (w.walked - w.passed) none).0 ∙ S.fresh in
      let typed : type z ≡ w.fresh.typ = cc (fit_root m.here.fits) in
      record {
        frame = m.way.frame;
        whole = m.way.whole;
        place = m.place;
        leads = λ act.
            ap (λ (r : Place). walk Γ act r x) here
            ∙ m.way.leads act
            ∙ ap (λ (a : Answer Tree). a >>= λ u. done (m.way.frame.plug u)) (ap (λ (n : ℕ). walk Γ act (rest ops args n) z) e ∙ S.array z typed act);
        unchanged = ap (λ (r : Place). changed Γ r x) here ∙ m.way.changes ∙ (stopped_reached Γ (rest ops args w.passed) last z).1;
        reaches = ap (λ (r : Place). reached Γ r x) here ∙ m.way.reaches ∙ (stopped_reached Γ (rest ops args w.passed) last z).0;
      }

  module _ (f : S.passing.midway.tree ≡ leaf w.typ) where
    -- what it opens by types
    sprung : Sprung Γ (folded w.typ 0) (opening_elements ops args w) w.fresh
    sprung = sprung_to S.passing h S.within S.plain S.fresh

    -- so many nodes
    sprung_counted : suc w.fresh.added ≡ length (trail Γ (folded w.typ 0) (opening_elements ops args w)) + (size (bud Γ w.fresh) + sprung.behind)
    unfolding bud size
    sprung_counted = omega (arith, sprung.counted)

    -- then it does act
    leads_last : (act : Tree → Answer Tree) → walk Γ act q.place x ≡ act (bud Γ w.fresh) >>= λ u. done (m.way.frame.plug (sprung.plug u))
    unfolding bud
    leads_last act =
        let t : Place = rest ops args w.walked in
        ap (λ (r : Place). walk Γ act r x) here
        ∙ m.way.leads act
        ∙ ap₂ (λ (r : Place) (z : Tree). walk Γ act r z >>= λ u. done (m.way.frame.plug u)) (rest_split ops args w.passed w.walked S.passing.most S.within) f
        ∙ ap (λ (a : Answer Tree). a >>= λ u. done (m.way.frame.plug u))
        (sprung.leads t act ∙ ap (λ (a : Answer Tree). a >>= λ u. done (sprung.plug u)) (S.array (bud Γ w.fresh) (type_bud Γ w.fresh) act))
        ∙ bind_bind (act (bud Γ w.fresh)) (λ u. done (sprung.plug u)) (λ u. done (m.way.frame.plug u))

    -- a tree in the place of the node reached
    grafted : (act : Tree → Answer Tree) (z : Tree) (cs : List Code) (k n : ℕ) → act (bud Γ w.fresh) ≡ done z → codes Γ z ≡ filled cs k → length cs ≤ k
        → suc n ≡ length (trail Γ (folded w.typ 0) (opening_elements ops args w)) + (k + sprung.behind)
        → Grafted Γ act q.place i x w.node (trail Γ (folded w.typ 0) (opening_elements ops args w) ++ cs) n
    unfolding codes
    grafted act z cs k n d c l s =
        let tr : List Code = trail Γ (folded w.typ 0) (opening_elements ops args w) in
        let F : Frame Γ (codes Γ) = m.way.frame in
        let r : Tree = F.plug (sprung.plug z) in
        let here : codes Γ (sprung.plug z) ≡ filled (tr ++ cs) (suc n) =
        sprung.coded z
        ∙ ap (λ (l : List Code). tr ++ (l ++ zeros sprung.behind)) c
        ∙ ap (λ (l : List Code). tr ++ l) (filled_more cs k sprung.behind l)
        ∙ filled_behind tr cs (k + sprung.behind)
        ∙ ap (filled (tr ++ cs)) (sym s) in
        let was : codes Γ x ≡ F.before ++ ((0, 0) ∷ F.behind) = ap (codes Γ) (sym m.way.whole ∙ ap F.plug f) ∙ F.coded (leaf w.typ) in
        let now : codes Γ r ≡ F.before ++ (filled (tr ++ cs) (suc n) ++ F.behind) = F.coded (sprung.plug z) ∙ ap (λ (l : List Code). F.before ++ (l ++ F.behind)) here in
        let long : length (tr ++ cs) ≤ suc n = omega (arith, length-append tr cs) in
        record {
          result = r;
          walks = leads_last act ∙ rw d;
          before = F.before;
          behind = F.behind;
          place = m.place;
          was = was;
          is = now;
          sized = omega (
            arith,
            length_codes Γ x,
            length_codes Γ r,
            ap length was,
            ap length now,
            length-append F.before ((0, 0) ∷ F.behind),
            length-append F.before (filled (tr ++ cs) (suc n) ++ F.behind),
            length-append (filled (tr ++ cs) (suc n)) F.behind,
            length_filled (tr ++ cs) (suc n) long,
          );
        }

    -- no step more
    pub site_grafted : Grafted Γ done q.place i x w.node (trail Γ (folded w.typ 0) (opening_elements ops args w) ++ tip Γ w.fresh None) w.fresh.added
    unfolding tip
    site_grafted =
        grafted done (bud Γ w.fresh) (stub Γ w.fresh) (size (bud Γ w.fresh)) w.fresh.added refl (codes_bud Γ w.fresh).0 (codes_bud Γ w.fresh).1
        sprung_counted

    -- one step more, which stays at its node
    pub site_last : (m : More) → distance (element m) ≡ 0 → {g : Fresh} → grows Γ w.fresh (element m) ≡ Ok g
        → Grafted Γ (acts Γ (element m)) q.place i x w.node (trail Γ (folded w.typ 0) (opening_elements ops args w) ++ tip Γ w.fresh (Some m)) g.added
    unfolding tip
    site_last m d {g} e =
        let el : Elem = element m in
        let s : Sprig Γ w.fresh el g = sprig_to Γ h sprung.fine e in
        let none : passing Γ w.fresh el ≡ [] = passing_stays Γ w.fresh el d in
        let one : stub Γ g ≡ mark Γ w.fresh el ∷ [] = sym (ap (λ (l : List Code). l ++ stub Γ g) none) ∙ s.marked ∙ ap (λ (k : ℕ). mark Γ w.fresh el ∷ zeros (pred k)) d in
        let z : Tree = s.plug (bud Γ g) in
        let k : ℕ = size (bud Γ g) + s.behind in
        let c : codes Γ z ≡ filled (stub Γ g) k =
        s.coded (bud Γ g)
        ∙ ap₂ (λ (a b : List Code). a ++ (b ++ zeros s.behind)) none (codes_bud Γ g).0
        ∙ filled_more (stub Γ g) (size (bud Γ g)) s.behind (codes_bud Γ g).1 in
        grafted (acts Γ el) z (mark Γ w.fresh el ∷ []) k g.added (step_leads Γ el d s) (c ∙ ap (λ (l : List Code). filled l k) one)
        (omega (arith, ap length one, (codes_bud Γ g).1)) (omega (arith, sprung_counted, s.counted, ap length none))

    -- one that is refused
    pub site_barred : (m : More) → distance (element m) ≡ 0 → {r : Refusal} → grows Γ w.fresh (element m) ≡ Err r
        → walk Γ (acts Γ (element m)) q.place x ≡ refused (number r)
    site_barred m d {r} e =
        let s = subst (Grown Γ w.fresh (element m)) e (grown Γ h w.fresh sprung.fine (element m)) in
        leads_last (acts Γ (element m)) ∙ rw (step_barred Γ (element m) d (bud Γ w.fresh) s)
