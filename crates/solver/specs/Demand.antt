-- Demand 3: the replay of the second pass's record meets no refusal, comes to each block's canonical state, and so on.
use Rattle.std.specs.Prelude.{◌≡◌, true, false, eqb}
use Rattle.std.proofs.Math.Path.{refl, ap}
use Rattle.std.proofs.Common.{sym, ◌∙◌}
use mathlib.Core.List.{List, [], ◌∷◌, ◌++◌, map, append-nil}
use Rattle.std.proofs.Math.Option.{Option, some}
use Prim.Native.Nat.{ℕ, zero, suc, ◌<◌}
use borrow.Author.Tests.{eqb-true}
use Rattle.model.specs.Answer.{Answer, refused, done}
use Rattle.model.specs.Frame.{Line, Exit, Work, Frame, target, Outcome, goto, leave, work, enter, visit, opening_exit, opening, carries, mark}
use Rattle.model.specs.Passes.{Log}
use Rattle.model.specs.Replay.{at_point, find}
use Rattle.base.specs.Tests.{split, split_option, clash, eqb_same, eqb_sym}
use Rattle.base.specs.Answer.{split_answer}
use Rattle.base.specs.Each.{Each, each_none, each_more, each_append, each_same}
use Rattle.solver.specs.Lists.{Has, here, later, has_map, each_has, each_of, elem_has, each_apart, Once, once_head, once_tail}
use Rattle.solver.specs.Lines.{at_append, at_none, at_mark, at_mark_other, each_mark}
use Rattle.solver.specs.Player.{Player, script, jump, play}
use Rattle.solver.specs.Laws.{Good, Bodies, Collects, Edges, Inside, Points, Follows}
use Rattle.solver.specs.Outcome.{Calm, stop_calm, calm_inner, calm_next, calm_says, goto_calm_on}
use Rattle.solver.specs.Arrivals.{exit_listed}
use Rattle.solver.specs.Solution.{Covered, Solution}
use Rattle.solver.specs.Told.{gives, tell, stored_visit, story}
use Rattle.solver.specs.Elaborate.{Elaborated}
use Rattle.solver.specs.Canon.{At, at_join, at_start, at_on, exits_once}
use Rattle.solver.specs.Count.{part, hop, hops, tell_next, tell_says}
use Rattle.solver.specs.Story.{opening_visit, opening_meet, record_at}

module _ {Stmt : Type 0} where
  -- only the lines of the point's owner matter
  at_part : (owner : ℕ → ℕ) (p : ℕ) (ls : List (Line Stmt)) → at_point p (part owner (owner p) ls) ≡ at_point p ls
  unfolding at_point part
  at_part owner p [] = refl
  at_part owner p (l ∷ ls) = split (eqb l.point p)
      (λ e. let q = eqb-true l.point p e in cc (at_part owner p ls, eqb_same (owner p)))
      (λ e. split (eqb (owner l.point) (owner p)) (λ d. cc (at_part owner p ls)) (λ d. cc (at_part owner p ls)))

module _ {Env Stmt : Type 0} (F : Frame Env Stmt) where
  -- statements in a row
  pub carries_append : (ts us : List Stmt) (D : Env) {E : Env} → carries F ts D ≡ done E → carries F (ts ++ us) D ≡ carries F us E
  unfolding carries
  carries_append [] us D e = cc
  carries_append (t ∷ ts) us D {E} e = split_answer (F.carry t D)
      (λ r d. clash (cc))
      (λ M d. let k = carries_append ts us M {E = E} (cc) in cc)

  -- a target that is listed is found by its item, if items differ
  pub has_find : {i c : ℕ} {ts : List (ℕ × ℕ)} → Once (map (λ t. t.0) ts) → Has (i, c) ts → find i ts ≡ some c
  unfolding find
  has_find {i} o here = cc (eqb_same i)
  has_find {i} {c} o (later {b = t} h) = split (eqb t.0 i)
      (λ e. clash (cc (eqb-true t.0 i e, once_head o, elem_has (has_map (λ t. t.0) h))))
      (λ e. cc (has_find (once_tail o) h))

  module _ (kept : ℕ → Option Env) where
    -- among the jumps of a block, an item has its own statements
    hop_at : (p : ℕ) (y : Exit Env) → eqb y.item p ≡ false → at_point p (hop F kept y) ≡ []
    unfolding hop at_point
    hop_at p y e = split (F.join_point y.block)
        (λ j. rw (j, hop) (at_mark_other p y.item (gives F kept y) e))
        (λ j. rw (j, hop) refl)

    -- at a jump's item each statement is one that is collected
    pub hop_each : {P : Stmt → Type 0} (y : Exit Env) → ((E S : Env) (ts : List Stmt) → F.collect E S ≡ done ts → Each P ts) → Each P (at_point y.item (hop F kept y))
    unfolding hop gives at_point
    hop_each {P} y h = split (F.join_point y.block)
        (λ j. rw (j, hop, at_mark y.item (gives F kept y)) (split_option (kept y.block)
        (λ e. rw (e, gives) each_none)
        (λ S e. split_answer (F.collect y.state S) (λ r d. rw (e, gives, d) each_none) (λ ts d. rw (e, gives, d) (h y.state S ts d)))))
        (λ j. rw (j, hop) each_none)

    -- at a point that is no jump's item there is nothing of the jumps
    hops_none : (p : ℕ) {ys : List (Exit Env)} → Each (λ y. eqb y.item p ≡ false) ys → at_point p (hops F kept ys) ≡ []
    unfolding hops at_point
    hops_none p each_none = refl
    hops_none p (each_more {a = y} {l = ys} e es) = at_append p (hop F kept y) (hops F kept ys) ∙ cc (hop_at p y e, hops_none p es)

    -- at a jump's item there is what is recorded at that jump
    hops_one : {y : Exit Env} {ys : List (Exit Env)} → Once (map (λ x. x.item) ys) → Has y ys → at_point y.item (hops F kept ys) ≡ at_point y.item (hop F kept y)
    unfolding hops
    hops_one {y} o (here {l = ys}) = at_append y.item (hop F kept y) (hops F kept ys)
        ∙ ap (λ l. at_point y.item (hop F kept y) ++ l) (hops_none y.item (each_apart (λ (x : Exit Env). x.item) y.item {l = ys} (once_head o)))
        ∙ append-nil (at_point y.item (hop F kept y))
    hops_one {y} o (later {b = z} {l = ys} h) = at_append y.item (hop F kept z) (hops F kept ys)
        ∙ cc (
          hop_at y.item z (split (eqb z.item y.item)
              (λ e. clash (cc (eqb-true z.item y.item e, once_head o, elem_has (has_map (λ x. x.item) h))))
              (λ e. e)),
          hops_one (once_tail o) h,
        )

-- WHAT VISITS RECORD: Q of each line, if Q of what each block says and of what is collected at its jumps
module _ {Env Stmt : Type 0} (F : Frame Env Stmt) {Ok : Env → Type 0} (B : Bodies F Ok) (G : Edges F) (kept : ℕ → Option Env) (Q : Line Stmt → Type 0)
    (own : (b : ℕ) (E : Env) (w : Work Env Stmt) → b < F.blocks → F.body b E ≡ done w → Each Q w.lines)
    (col : (b : ℕ) (y : Exit Env) → b < F.blocks → Has (target y) (F.targets b) → Each Q (mark y.item (gives F kept y))) (P : Exit Env → Type 0) where
  -- of each line of a calm outcome
  abbrev Says : Outcome Env Stmt → Type 0
  Says o = Calm P o → Each Q (tell F kept o)

  -- a jump
  goto_each : (go : ℕ → Env → Outcome Env Stmt) → ((c : ℕ) (D : Env) → c < F.blocks → Says (go c D))
      → {b : ℕ} → b < F.blocks → (y : Exit Env) → Has (target y) (F.targets b) → Says (goto F go y)
  unfolding goto tell
  goto_each go f {b} m y h k = split (F.join_point y.block)
      (λ e. rw (e, goto) (each_append (col b y m h) each_none))
      (λ e. rw (e, goto) (f y.block y.state (G.below h) (goto_calm_on F go y k e)))

  -- all jumps of a block
  leave_each : (go : ℕ → Env → Outcome Env Stmt) → ((c : ℕ) (D : Env) → c < F.blocks → Says (go c D))
      → {b : ℕ} → b < F.blocks → {ys : List (Exit Env)} → Each (λ y. Has (target y) (F.targets b)) ys → Says (leave F go ys)
  unfolding leave tell
  leave_each go f m each_none k = each_none
  leave_each go f m (each_more {a = y} {l = ys} h hs) k =
      let (u, v) = calm_next (goto F go y) k in
      rw (tell_next F kept (leave F go ys) u) (each_append (goto_each go f m y h u) (leave_each go f m hs v))

  -- what follows a block's own run
  work_each : (go : ℕ → Env → Outcome Env Stmt) → ((c : ℕ) (D : Env) → c < F.blocks → Says (go c D))
      → {b : ℕ} → b < F.blocks → {E : Env} (a : Answer (Work Env Stmt)) → F.body b E ≡ a → Says (work F go a)
  unfolding work
  work_each go f m (refused r) e k = stop_calm k
  work_each go f {b} m {E} (done w) e k = rw (tell_says F kept w.lines (leave F go w.exits))
      (each_append (own b E w m e) (leave_each go f m (each_of w.exits (λ y h. exit_listed B e h)) (calm_says w.lines k)))

  -- a block entered, at any fuel
  enter_each : (n b : ℕ) (E : Env) → b < F.blocks → Says (enter F n b E)
  unfolding enter tell
  enter_each zero b E m k = stop_calm k
  enter_each (suc n) b E m k = work_each (enter F n) (enter_each n) m (F.body b E) refl (calm_inner k)

  -- a visit
  pub visit_each : (b : ℕ) (E : Env) → b < F.blocks → Says (visit F b E)
  unfolding visit
  visit_each b E m = enter_each F.blocks b E m

-- and so of each line of the whole record
module _ {Env Stmt : Type 0} (F : Frame Env Stmt) {Ok : Env → Type 0} (B : Bodies F Ok) (G : Edges F) (kept : ℕ → Option Env) (Q : Line Stmt → Type 0)
    (own : (b : ℕ) (E : Env) (w : Work Env Stmt) → b < F.blocks → F.body b E ≡ done w → Each Q w.lines)
    (collected : (i : ℕ) (E S : Env) (ts : List Stmt) → F.collect E S ≡ done ts → Each Q (mark i ts)) where
  -- at a jump
  pub gives_each : (i : ℕ) (y : Exit Env) → Each Q (mark i (gives F kept y))
  unfolding gives mark
  gives_each i y = split_option (kept y.block)
      (λ e. rw (e, gives) each_none)
      (λ S e. split_answer (F.collect y.state S) (λ r d. rw (e, gives, d) each_none) (λ ts d. rw (e, gives, d) (collected i y.state S ts d)))

module _ {Env Stmt : Type 0} (F : Frame Env Stmt) {Ok : Env → Type 0} (B : Bodies F Ok) (G : Edges F) {owner : ℕ → ℕ} (N : Points F owner)
    (kept : ℕ → Option Env) where
  -- what visits record is not at the entry
  abbrev Foreign : Line Stmt → Type 0
  Foreign l = eqb l.point F.entry ≡ false

  -- a block's point is not the entry's
  owned_foreign : {b : ℕ} → b < F.blocks → (l : Line Stmt) → owner l.point ≡ b → Foreign l
  owned_foreign {b} m l o = split (eqb l.point F.entry)
      (λ e. clash (cc (eqb-true l.point F.entry e, N.alone b m, eqb_same b)))
      (λ e. e)

  visit_away : (P : Exit Env → Type 0) (b : ℕ) (E : Env) → b < F.blocks → Calm P (visit F b E) → Each Foreign (tell F kept (visit F b E))
  visit_away P b E m = visit_each F B G kept Foreign
      (λ c D w l e. each_same (λ i r. owned_foreign l i r.owned) (N.inside e))
      (λ c y l h. each_mark y.item (gives F kept y) (λ t. owned_foreign l (record { point = y.item; stmt = t }) (N.owned h))) P b E m

-- a jump carried out comes to a canonical state
pub record Lands {Env Stmt : Type 0} (F : Frame Env Stmt) (kept : ℕ → Option Env) (E₀ : Env) (us : List Stmt) (D : Env) (c : ℕ) : Type 0 where
  pub state : Env
  pub carried : carries F us D ≡ done state
  pub canon : At F kept E₀ c state

module _ {Env Stmt : Type 0} (F : Frame Env Stmt) {Ok : Env → Type 0} (B : Bodies F Ok) (G : Edges F) {owner : ℕ → ℕ} (N : Points F owner)
    (C : Collects F Ok) (R : Player Env Stmt) (W : Follows F Ok owner R)
    (kept : ℕ → Option Env) (ts : List Stmt) (E₀ : Env) (g : Log Stmt)
    (good : Good F Ok E₀) (S : Solution F Ok E₀ kept) (K : Elaborated F kept ts E₀ g) where
  -- at the entry stand its own statements and those of the jump from it
  entry_opening : at_point F.entry (tell F kept (opening F E₀)) ≡ at_point F.entry (hop F kept (opening_exit F E₀))
  unfolding tell hop at_point
  entry_opening = split (F.join_point 0)
      (λ e. rw (opening_meet F B G N kept E₀ S e, e, hop) (ap (at_point F.entry) (append-nil (mark F.entry (gives F kept (opening_exit F E₀))))))
      (λ e. rw (opening_visit F B G N kept E₀ S e, e, hop)
      (at_none F.entry (visit_away F B G N kept (Covered F Ok kept) 0 E₀ G.some_block (rw (opening_visit F B G N kept E₀ S e) at S.opens))))

  -- in the whole record: the entry's own, then those of the jump to the start block
  entry_story : {bs : List ℕ} → Each (λ b. (T : Env) × (kept b ≡ some T)) bs
      → at_point F.entry (story F kept ts E₀ bs) ≡ ts ++ at_point F.entry (hop F kept (opening_exit F E₀))
  unfolding story stored_visit
  entry_story each_none = at_append F.entry (mark F.entry ts) (tell F kept (opening F E₀)) ∙ cc (at_mark F.entry ts, entry_opening)
  entry_story (each_more {a = b} {l = bs} s ss) =
      at_append F.entry (story F kept ts E₀ bs) (tell F kept (stored_visit F kept b))
      ∙ ap (λ l. at_point F.entry (story F kept ts E₀ bs) ++ l)
      (rw (s.1, stored_visit) (at_none F.entry (visit_away F B G N kept (Covered F Ok kept) b s.0 (S.placed b s.0 s.1).below (S.visits b s.0 s.1))))
      ∙ append-nil (at_point F.entry (story F kept ts E₀ bs))
      ∙ entry_story ss

  -- so the replay finds them there
  pub entry_script : script F R g.lines F.entry ≡ ts ++ at_point F.entry (hop F kept (opening_exit F E₀))
  entry_script = rw K.recorded (entry_story (each_of g.visited (λ b h. K.only b (elem_has h))))

  -- what is recorded at a jump leads to the canonical state of the block it goes to
  pub hop_lands : (y : Exit Env) → (F.join_point y.block ≡ true → Covered F Ok kept y)
      → (F.join_point y.block ≡ false → At F kept E₀ y.block y.state)
      → Lands F kept E₀ (at_point y.item (hop F kept y)) y.state y.block
  unfolding hop gives at_point carries
  hop_lands y f h = split (F.join_point y.block)
      (λ e.
      let D = f e in
      let k = C.collects D.good D.ok D.above in
      let q : gives F kept y ≡ k.stmts = cc (D.stored, k.given) in
      record {
        state = D.state;
        carried = rw (e, hop) (rw (at_mark y.item (gives F kept y), q) k.leads);
        canon = at_join e D.stored;
      })
      (λ e. record { state = y.state; carried = rw (e, hop) refl; canon = h e })

  -- a canonical state is good
  pub at_good : {b : ℕ} {E : Env} → At F kept E₀ b E → Good F Ok E
  at_good (at_join {b} {S = T} j p) = S.fine b T p
  at_good (at_start j p q) = rw q good
  at_good (at_on A e h k) = each_has (B.good (at_good A) e) h

  -- the script at a block's points, from its canonical state
  module _ {b : ℕ} {E : Env} {w : Work Env Stmt} (A : At F kept E₀ b E) (e : F.body b E ≡ done w) where
    -- at a block's point the replay finds what its run records there, then what its jumps do
    script_own : (p : ℕ) → owner p ≡ b → script F R g.lines p ≡ at_point p w.lines ++ at_point p (hops F kept w.exits)
    script_own p o =
        let q = record_at F B G N kept E₀ S K A e in
        sym (at_part owner p g.lines) ∙ rw (o, q) (at_append p w.lines (hops F kept w.exits))

    -- at a point inside the block, the run's own alone
    pub script_inside : (p : ℕ) → Inside F owner b p → script F R g.lines p ≡ at_point p w.lines
    script_inside p i =
        script_own p i.owned
        ∙ ap (λ l. at_point p w.lines ++ l) (hops_none F kept p (each_of w.exits (λ y h. eqb_sym y.item p ∙ i.apart y.item y.block (exit_listed B e h))))
        ∙ append-nil (at_point p w.lines)

    -- at a target item, the jump's own alone
    pub script_item : {y : Exit Env} → Has y w.exits → script F R g.lines y.item ≡ at_point y.item (hop F kept y)
    script_item {y} h =
        script_own y.item (N.owned (exit_listed B e h))
        ∙ cc (at_none y.item (each_same (λ l i. i.apart y.item y.block (exit_listed B e h)) (N.inside e)), hops_one F kept (exits_once F B G N kept E₀ e) h)

  -- one block, from its canonical state
  pub record Passed (b : ℕ) (E : Env) : Type 0 where
    pub end : Env
    pub ends : R.through b (script F R g.lines) E ≡ done end
    pub fine : R.Fine b (script F R g.lines) E
    pub jumps : {i c : ℕ} → Has (i, c) (F.targets b) → (D : Env) × (jump F R g.lines b i end ≡ done D) × At F kept E₀ c D

  -- where a list of jumps comes to
  pub record Comes (is : List ℕ) (b : ℕ) (E : Env) (d : ℕ) : Type 0 where
    pub state : Env
    pub plays : play F R g.lines is b E ≡ done (d, state)
    pub canon : At F kept E₀ d state
    pub fine : R.Fine d (script F R g.lines) state
