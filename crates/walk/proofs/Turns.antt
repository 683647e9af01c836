-- The two loops of the walk by types: one counts what it opens (`Turn`), the other writes it (`Writing`).
use mathlib.Core.Path.{◌≡◌, refl, sym, ◌∙◌, ap, ap₂, subst, subst₂}
use mathlib.Core.Bool.{Bool, true, false}
use mathlib.Core.List.{List, [], ◌∷◌, ◌++◌, append_assoc, append-nil}
use Prim.Native.Nat.{ℕ, suc, pred, ◌+◌, ◌*◌, ◌-◌, ◌<◌, ◌≤◌}
use native.Mathlib.Omega.{arith}
use lib.ListN.{length, set, length-append, length-replicate, length-set}
use Rattle.std.specs.Prelude.{Result, Ok, Err}
use Rattle.refusal.specs.declared.Refusal.{Refusal}
use Rattle.model.specs.Words.{word}
use Rattle.model.specs.Types.{ntypes, kind, form}
use Rattle.model.specs.Tree.{size}
use Rattle.model.specs.State.{Code}
use Rattle.model.specs.Place.{Elem, Place, stops, no_index}
use Rattle.model.specs.Block.{elem_of}
use Rattle.base.specs.Tests.{split}
use Rattle.base.specs.Typed.{Typed}
use Rattle.records.specs.Codes.{size_pos}
use Rattle.walk.specs.Way.{route}
use Rattle.walk.specs.Fresh.{folded, Bud, bud, grows, sprout, stub, variant, distance, mark, passing, trail}
use Rattle.walk.specs.Applied.{marked, Inked, Penned}
use Rattle.walk.specs.declared.step.Fresh.{Fresh}
use Rattle.walk.proofs.Frames.{zeros}
use Rattle.walk.proofs.Ways.{route_next, no_index_first, no_index_rest}
use Rattle.walk.proofs.Growing.{Sprig, sprig_to, Sprung, Sprouted, sprouted, sprout_to, sprout_refused, trail_to}
use Rattle.walk.proofs.Sites.{bud_folded, sprout_none}
use Rattle.walk.proofs.Inks.{inked_none, inked_one, inked_zeros}

-- the walk by types has come to f, at item `at`
pub record Turn (Γ ops args : List ℕ) (from end typ : ℕ) (f : Fresh) (at : ℕ) : Type 0 where
  pub least : from ≤ at
  pub most : at ≤ end
  pub fine : Bud Γ f
  pub few : f.added ≤ at * 16384
  pub plain : no_index (route ops args at (end - at)) ≡ true
  pub same : sprout Γ (folded typ 0) (route ops args from (end - from)) ≡ sprout Γ f (route ops args at (end - at))

-- at the start
pub turn_start : {Γ ops args : List ℕ} {from end typ : ℕ} → from ≤ end → typ < ntypes Γ → no_index (route ops args from (end - from)) ≡ true
    → Turn Γ ops args from end typ (folded typ 0) from
turn_start {typ = typ} l k p = record { least = omega arith; most = l; fine = bud_folded typ 0 k; few = omega arith; plain = p; same = refl }

module _ {Γ ops args : List ℕ} {from end typ : ℕ} {f : Fresh} {at : ℕ} (t : Turn Γ ops args from end typ f at) where
  -- at the end
  pub turn_done : end ≤ at → sprout Γ (folded typ 0) (route ops args from (end - from)) ≡ Ok f
  turn_done l = let z : end - at ≡ 0 = omega arith in t.same ∙ (sprout_none Γ f ops args at (end - at) z).0

  module _ (l : at < end) where
    -- the element at hand, and those behind it
    abbrev here : Elem
    here = elem_of (word ops at) (word args at)

    abbrev others : Place
    others = route ops args (at + 1) (end - (at + 1))

    -- they have no index
    plain_here : no_index (here ∷ others) ≡ true
    plain_here = sym (ap no_index (route_next ops args at end l)) ∙ t.plain

    -- so the element at hand is a step
    first_here : stops (here ∷ []) ≡ false
    first_here = no_index_first here others plain_here

    -- from here the walk goes on as from the start
    same_here : sprout Γ (folded typ 0) (route ops args from (end - from)) ≡ sprout Γ f (here ∷ others)
    same_here = t.same ∙ ap (sprout Γ f) (route_next ops args at end l)

    -- a refusal is the walk's
    pub turn_refused : {r : Refusal} → grows Γ f here ≡ Err r → Err r ≡ sprout Γ (folded typ 0) (route ops args from (end - from))
    turn_refused d = sym (same_here ∙ sprout_refused Γ f here others d)

    -- a step leads on
    pub turn_more : Typed Γ → {g : Fresh} → grows Γ f here ≡ Ok g → Turn Γ ops args from end typ g (at + 1)
    turn_more h d =
        let s = sprig_to Γ h t.fine d in
        record {
          least = omega (arith, t.least);
          most = omega arith;
          fine = s.fine first_here;
          few = omega (arith, t.few, s.few);
          plain = no_index_rest here others plain_here;
          same = same_here ∙ sprout_to Γ f here others d;
        }

-- WRITING

-- the first step of a walk that is not refused
pub record First (Γ : List ℕ) (f : Fresh) (e : Elem) (es : Place) (g : Fresh) : Type 0 where
  pub to : Fresh
  pub leads : grows Γ f e ≡ Ok to
  pub rest : sprout Γ to es ≡ Ok g

-- that it has one
first : (Γ : List ℕ) (f : Fresh) (e : Elem) (es : Place) {g : Fresh} → sprout Γ f (e ∷ es) ≡ Ok g → First Γ f e es g
first Γ f e es {g} d = by (grows Γ f e) refl
  where
    by : (o : Result Fresh Refusal) → grows Γ f e ≡ o → First Γ f e es g
    by (Ok k) p = record { to = k; leads = p; rest = sym (sprout_to Γ f e es p) ∙ d }
    by (Err r) p = let z : ◌≡◌ {A = ℕ} 0 1 = cc (sprout_refused Γ f e es p) in absurd (omega arith)

-- the node's own code, as far as it is written
stub_open : (Γ : List ℕ) (f : Fresh) (e : Elem) → f.opened ≡ true → stub Γ f ≡ mark Γ f e ∷ []
unfolding stub mark
stub_open Γ f e o = rw o

-- not where it is folded
stub_closed : (Γ : List ℕ) (f : Fresh) → f.opened ≡ false → stub Γ f ≡ []
unfolding stub
stub_closed Γ f o = rw o

-- an open node stays
pub marked_open : (b : Bool) (l : List ℕ) (i v : ℕ) → b ≡ true → marked b l i v ≡ l
unfolding marked
marked_open b l i v o = rw o

-- a folded one is written
pub marked_closed : (b : Bool) (l : List ℕ) (i v : ℕ) → b ≡ false → marked b l i v ≡ set l i v
unfolding marked
marked_closed b l i v o = rw o

-- one code at the most
pub stub_short : (Γ : List ℕ) (f : Fresh) → length (stub Γ f) ≤ 1
unfolding stub
stub_short Γ f = split f.opened (λ o. rw o (omega arith)) (λ o. rw o (omega arith))

-- its form
pub mark_form : (Γ : List ℕ) (f : Fresh) (e : Elem) → form (kind Γ f.typ) ≡ (mark Γ f e).0
unfolding mark
mark_form Γ f e = refl

-- and its variant
pub mark_what : (Γ : List ℕ) (f : Fresh) (e : Elem) → f.opened ≡ false → variant e ≡ (mark Γ f e).1
unfolding mark
mark_what Γ f e o = rw o

-- as many entries
length_marked : (b : Bool) (l : List ℕ) (i v : ℕ) → length (marked b l i v) ≡ length l
unfolding marked
length_marked b l i v = split b (λ o. rw o) (λ o. rw o (length-set l i v))

-- two ends of one walk are the same
pub to_same : {f g : Fresh} → ◌≡◌ {A = Result Fresh Refusal} (Ok f) (Ok g) → f ≡ g
to_same e = cc

-- what a step writes over what stands: the node's own code
pub inked_marked : (h : Code → ℕ) (i n : ℕ) (l l' : List ℕ) (Γ : List ℕ) (tr : List Code) (f : Fresh) (e : Elem) (p v : ℕ)
    → Inked h i n l l' (tr ++ stub Γ f) → length tr < n → p ≡ i + length tr → (f.opened ≡ false → v ≡ h (mark Γ f e))
    → Inked h i n l (marked f.opened l' p v) (tr ++ (mark Γ f e ∷ []))
inked_marked h i n l l' Γ tr f e p v k m q ev =
    split f.opened
    (λ o.
    subst₂ (λ (l'' : List ℕ) (cs : List Code). Inked h i n l l'' cs) (sym (marked_open f.opened l' p v o)) (ap (λ (cs : List Code). tr ++ cs) (stub_open Γ f e o)) k)
    (λ o.
    let none : tr ++ stub Γ f ≡ tr = ap (λ (cs : List Code). tr ++ cs) (stub_closed Γ f o) ∙ append-nil tr in
    subst (λ (l'' : List ℕ). Inked h i n l l'' (tr ++ (mark Γ f e ∷ []))) (sym (marked_closed f.opened l' p v o ∙ ap (set l' p) (ev o)))
    (inked_one h i n l l' tr p (mark Γ f e) (subst (λ (cs : List Code). Inked h i n l l' cs) none k) m q))

-- the walk has written what it has opened so far: the codes tr, and the node's own if it is open
pub record Writing (Γ ops args : List ℕ) (from end typ i : ℕ) (g : Fresh) (fs ws fs' ws' : List ℕ) (f : Fresh) (p at : ℕ) : Type 0 where
  pub turn : Turn Γ ops args from end typ f at
  pub past : List Code
  pub trails : trail Γ (folded typ 0) (route ops args from (end - from)) ≡ past ++ trail Γ f (route ops args at (end - at))
  pub pen : p ≡ i + length past
  pub counts : length past + size (bud Γ f) ≤ suc f.added
  pub forms : (n : ℕ) → suc g.added ≤ n → Inked (λ c. c.0) i n fs fs' (past ++ stub Γ f)
  pub whats : (n : ℕ) → suc g.added ≤ n → Inked (λ c. c.1) i n ws ws' (past ++ stub Γ f)
  pub forms_long : length fs' ≡ length fs
  pub whats_long : length ws' ≡ length ws

-- at the start
pub writing_start : {Γ ops args : List ℕ} {from end typ i : ℕ} {g : Fresh} {fs ws : List ℕ} → Turn Γ ops args from end typ (folded typ 0) from
    → Writing Γ ops args from end typ i g fs ws fs ws (folded typ 0) i from
unfolding bud stub size
writing_start {i = i} {fs = fs} {ws} t =
    record {
      turn = t;
      past = [];
      trails = refl;
      pen = omega arith;
      counts = omega arith;
      forms = λ n m. inked_none (λ c. c.0) i n fs;
      whats = λ n m. inked_none (λ c. c.1) i n ws;
      forms_long = refl;
      whats_long = refl;
    }

module _ {Γ ops args : List ℕ} {from end typ i : ℕ} {g : Fresh} {fs ws fs' ws' : List ℕ} {f : Fresh} {p at : ℕ} (h : Typed Γ)
    (w : Writing Γ ops args from end typ i g fs ws fs' ws' f p at) (d : sprout Γ (folded typ 0) (route ops args from (end - from)) ≡ Ok g) where
  -- at the end
  pub writing_done : end ≤ at → Penned Γ (route ops args from (end - from)) typ i fs ws fs' ws' (record { at = p; fresh = f }) g
  writing_done l =
      let z : end - at ≡ 0 = omega arith in
      let e : Ok f ≡ Ok g = sym (turn_done w.turn l) ∙ d in
      let same : f ≡ g = cc in
      let all : trail Γ (folded typ 0) (route ops args from (end - from)) ≡ w.past =
      w.trails ∙ ap (λ (cs : List Code). w.past ++ cs) (sprout_none Γ f ops args at (end - at) z).1 ∙ append-nil w.past in
      let cs : w.past ++ stub Γ f ≡ trail Γ (folded typ 0) (route ops args from (end - from)) ++ stub Γ g = ap₂ (λ (a : List Code) (k : Fresh). a ++ stub Γ k) (sym all) same in
      record {
        fresh = same;
        at = w.pen ∙ ap (λ (a : List Code). i + length a) (sym all);
        forms = λ n m. subst (λ (a : List Code). Inked (λ c. c.0) i n fs fs' a) cs (w.forms n m);
        whats = λ n m. subst (λ (a : List Code). Inked (λ c. c.1) i n ws ws' a) cs (w.whats n m);
      }

  module _ (l : at < end) where
    -- the step is not refused, but leads on
    pub writing_first : First Γ f (elem_of (word ops at) (word args at)) (route ops args (at + 1) (end - (at + 1))) g
    writing_first = first Γ f (elem_of (word ops at) (word args at)) (route ops args (at + 1) (end - (at + 1))) (sym (same_here w.turn l) ∙ d)

    -- what it does
    sprig : Sprig Γ f (elem_of (word ops at) (word args at)) writing_first.to
    sprig = sprig_to Γ h w.turn.fine writing_first.leads

    -- its variant is a number of 16 bits
    pub writing_slim : variant (elem_of (word ops at) (word args at)) < 65536
    writing_slim = omega (arith, sprig.slim)

    -- what it leads to is within what is opened in all
    within_all : writing_first.to.added ≤ g.added
    within_all =
        let p : no_index (others w.turn l) ≡ true = no_index_rest (here w.turn l) (others w.turn l) (plain_here w.turn l) in
        let s : Sprung Γ writing_first.to (others w.turn l) g =
        subst (Sprouted Γ writing_first.to (others w.turn l)) writing_first.rest (sprouted Γ h (others w.turn l) p writing_first.to (sprig.fine (first_here w.turn l))) in
        s.more

    -- so there is room for the node
    pub writing_room : length w.past < suc g.added
    writing_room = omega (arith, w.counts, size_pos (bud Γ f), sprig.more, within_all)

    -- and for what is passed
    pub writing_pen : length w.past + distance (elem_of (word ops at) (word args at)) < suc g.added
    writing_pen = omega (arith, w.counts, sprig.counted, sprig.far, size_pos (bud Γ writing_first.to), within_all)

    -- one step more
    pub writing_more : {fs'' ws'' : List ℕ} {q : ℕ} → fs'' ≡ marked f.opened fs' p (form (kind Γ f.typ))
        → ws'' ≡ marked f.opened ws' p (variant (elem_of (word ops at) (word args at)))
        → q ≡ p + distance (elem_of (word ops at) (word args at)) → {k : Fresh} → grows Γ f (elem_of (word ops at) (word args at)) ≡ Ok k
        → Writing Γ ops args from end typ i g fs ws fs'' ws'' k q (at + 1)
    writing_more {fs''} {ws''} {q} ef ew eq {k} dk =
        let e : Elem = elem_of (word ops at) (word args at) in
        let s : Sprig Γ f e k = sprig_to Γ h w.turn.fine dk in
        let r : List Code = w.past in
        let same : Ok k ≡ Ok writing_first.to = sym dk ∙ writing_first.leads in
        let few : k.added ≤ g.added = rw (to_same same) within_all in
        let long : suc (pred (distance e)) ≡ length (passing Γ f e) + length (stub Γ k) =
        ap suc (sym (length-replicate (pred (distance e)) (0, 0))) ∙ sym (ap length s.marked) ∙ length-append (passing Γ f e) (stub Γ k) in
        let cs : r ++ (mark Γ f e ∷ []) ++ zeros (pred (distance e)) ≡ r ++ passing Γ f e ++ stub Γ k =
        append_assoc r (mark Γ f e ∷ []) (zeros (pred (distance e))) ∙ ap (λ (a : List Code). r ++ a) (sym s.marked) ∙ sym (append_assoc r (passing Γ f e) (stub Γ k)) in
        let room : (n : ℕ) → suc g.added ≤ n → (length r < n) × (length (r ++ (mark Γ f e ∷ [])) + pred (distance e) ≤ n) =
        λ n m. (
          omega (arith, w.counts, size_pos (bud Γ f), s.more),
          omega (arith, w.counts, s.counted, long, stub_short Γ k, size_pos (bud Γ k), length-append r (mark Γ f e ∷ [])),
        ) in
        record {
          turn = turn_more w.turn l h dk;
          past = r ++ passing Γ f e;
          trails =
              w.trails
              ∙ ap (λ (a : Place). r ++ trail Γ f a) (route_next ops args at end l)
              ∙ ap (λ (a : List Code). r ++ a) (trail_to Γ f e (others w.turn l) dk)
              ∙ sym (append_assoc r (passing Γ f e) (trail Γ k (others w.turn l)));
          pen = omega (arith, w.pen, s.far, length-append r (passing Γ f e));
          counts = omega (arith, w.counts, s.counted, length-append r (passing Γ f e));
          forms = λ n m. subst₂ (λ (a : List ℕ) (b : List Code). Inked (λ c. c.0) i n fs a b) (sym ef) cs
              (inked_zeros (λ c. c.0) i n fs (marked f.opened fs' p (form (kind Γ f.typ))) (r ++ (mark Γ f e ∷ [])) (pred (distance e)) refl
              (inked_marked (λ c. c.0) i n fs fs' Γ r f e p (form (kind Γ f.typ)) (w.forms n m) (room n m).0 w.pen (λ o. mark_form Γ f e)) (room n m).1);
          whats = λ n m. subst₂ (λ (a : List ℕ) (b : List Code). Inked (λ c. c.1) i n ws a b) (sym ew) cs
              (inked_zeros (λ c. c.1) i n ws (marked f.opened ws' p (variant e)) (r ++ (mark Γ f e ∷ [])) (pred (distance e)) refl
              (inked_marked (λ c. c.1) i n ws ws' Γ r f e p (variant e) (w.whats n m) (room n m).0 w.pen (mark_what Γ f e)) (room n m).1);
          forms_long = ap length ef ∙ length_marked f.opened fs' p (form (kind Γ f.typ)) ∙ w.forms_long;
          whats_long = ap length ew ∙ length_marked f.opened ws' p (variant e) ∙ w.whats_long;
        }
