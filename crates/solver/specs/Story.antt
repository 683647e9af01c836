-- In the second pass's record, each block that has a canonical state has its own lines, once.
use Rattle.std.specs.Prelude.{◌≡◌, true, false, List, [], ◌∷◌, ℕ, ◌+◌, ◌<◌, eqb}
use Rattle.std.proofs.Math.Path.{refl, sym, ap}
use Rattle.std.proofs.Common.{◌∙◌, append-nil, arith}
use Rattle.std.proofs.Math.Option.{Option, some}
use borrow.Author.Tests.{eqb-true}
use Rattle.model.specs.Answer.{done}
use Rattle.model.specs.Rounds.{elem}
use Rattle.model.specs.Frame.{Work, Frame, over, meet, goto, visit, opening_exit, opening, mark}
use Rattle.model.specs.Passes.{Log}
use Rattle.base.specs.Tests.{split, clash}
use Rattle.base.specs.Each.{Each, each_none, each_more}
use Rattle.solver.specs.Lists.{Has, each_of, elem_has, Once, once_head, once_tail}
use Rattle.solver.specs.Lines.{each_mark}
use Rattle.solver.specs.Laws.{Bodies, Edges, Points}
use Rattle.solver.specs.Arrivals.{exit_listed}
use Rattle.solver.specs.Solution.{Covered, Solution}
use Rattle.solver.specs.Told.{gives, tell, stored_visit, story}
use Rattle.solver.specs.Elaborate.{Elaborated}
use Rattle.solver.specs.Canon.{At, at_join, at_start, at_on, at_same}
use Rattle.solver.specs.Count.{bit, count, enter_lone, enter_edge, part, part_append, part_other, own_lines}
use Rattle.solver.specs.Parts.{one_of, Recorded, enter_none, recorded_after, recorded_before, enter_one}

module _ {Env Stmt : Type 0} (F : Frame Env Stmt) {Ok : Env → Type 0} (B : Bodies F Ok) (G : Edges F) {owner : ℕ → ℕ} (N : Points F owner)
    (kept : ℕ → Option Env) (E₀ : Env) (X : Solution F Ok E₀ kept) where
  -- a state is stored at b
  abbrev Stored : ℕ → Type 0
  Stored b = (S : Env) × (kept b ≡ some S)

  -- how often x is entered in the opening and the visits of bs
  unfoldable pub tally : ℕ → List ℕ → ℕ
  tally x [] = count x (opening F E₀)
  tally x (b ∷ bs) = tally x bs + count x (stored_visit F kept b)

  -- then b is a join point
  stored_joins : {b : ℕ} → Stored b → F.join_point b ≡ true
  stored_joins {b} s = (X.placed b s.0 s.1).joins

  -- the start block, entered at once
  pub opening_visit : F.join_point 0 ≡ false → opening F E₀ ≡ visit F 0 E₀
  unfolding opening goto
  opening_visit j = cc

  -- the start block, if it is a join point
  pub opening_meet : F.join_point 0 ≡ true → opening F E₀ ≡ meet (opening_exit F E₀) over
  unfolding opening goto
  opening_meet j = cc

  -- a block that no edge enters is entered in the visit of itself
  visit_lone : (x : ℕ) → ((b i : ℕ) → Has (i, x) (F.targets b) → F.join_point x ≡ false → ⊥)
      → {b : ℕ} (s : Stored b) → count x (stored_visit F kept b) ≡ bit (eqb x b)
  unfolding stored_visit visit
  visit_lone x lone {b} s = rw (s.1, stored_visit) (enter_lone F B (Covered F Ok kept) x lone F.blocks b s.0 (X.visits b s.0 s.1))

  -- and in the opening, if it is the start block
  opening_lone : (x : ℕ) → ((b i : ℕ) → Has (i, x) (F.targets b) → F.join_point x ≡ false → ⊥)
      → F.join_point 0 ≡ false → count x (opening F E₀) ≡ bit (eqb x 0)
  unfolding visit
  opening_lone x lone j = rw (opening_visit j) (enter_lone F B (Covered F Ok kept) x lone F.blocks 0 E₀ (rw (opening_visit j) at X.opens))

  -- an opening that arrives at a join point enters no block
  opening_none_join : (x : ℕ) → F.join_point 0 ≡ true → count x (opening F E₀) ≡ 0
  unfolding count
  opening_none_join x j = rw (opening_meet j) refl

  -- a join point
  module _ (x : ℕ) (j : F.join_point x ≡ true) where
    -- no edge enters a join point at once
    join_lone : (b i : ℕ) → Has (i, x) (F.targets b) → F.join_point x ≡ false → ⊥
    join_lone b i h e = clash (cc)

    -- the opening enters none
    opening_join : count x (opening F E₀) ≡ 0
    opening_join = split (F.join_point 0)
        (λ e. opening_none_join x e)
        (λ e. split (eqb x 0)
        (λ d. clash (cc (eqb-true x 0 d)))
        (λ d. opening_lone x join_lone e ∙ ap bit d))

    -- a join point that is not among the visited is not entered
    tally_join_none : {bs : List ℕ} → Each Stored bs → elem x bs ≡ false → tally x bs ≡ 0
    unfolding tally elem
    tally_join_none each_none e = opening_join
    tally_join_none (each_more {a = b} s ss) e = split (eqb x b)
        (λ d. clash (cc))
        (λ d.
        let q : count x (stored_visit F kept b) ≡ 0 = visit_lone x join_lone s ∙ ap bit d in
        omega (arith, tally_join_none ss (cc)))

    -- one that is, is entered once
    tally_join : {bs : List ℕ} → Each Stored bs → Once bs → elem x bs ≡ true → tally x bs ≡ 1
    unfolding tally elem
    tally_join each_none o e = clash (cc)
    tally_join (each_more {a = b} s ss) o e = split (eqb x b)
        (λ d.
        let q : count x (stored_visit F kept b) ≡ 1 = visit_lone x join_lone s ∙ ap bit d in
        omega (arith, tally_join_none ss (cc (once_head o, eqb-true x b d))))
        (λ d.
        let q : count x (stored_visit F kept b) ≡ 0 = visit_lone x join_lone s ∙ ap bit d in
        omega (arith, tally_join ss (once_tail o) (cc)))

  -- a start block that is no join point
  tally_start : F.join_point 0 ≡ false → {bs : List ℕ} → Each Stored bs → tally 0 bs ≡ 1
  unfolding tally
  tally_start j each_none = opening_lone 0 (λ b i h e. G.none_back j h) j
  tally_start j (each_more {a = b} s ss) = split (eqb 0 b)
      (λ d. clash (cc (stored_joins s, eqb-true 0 b d)))
      (λ d.
      let q : count 0 (stored_visit F kept b) ≡ 0 = visit_lone 0 (λ b i h e. G.none_back j h) s ∙ ap bit d in
      omega (arith, tally_start j ss))

  -- a block that one edge enters
  module _ {x p i : ℕ} (edge : Has (i, x) (F.targets p)) (plain : F.join_point x ≡ false) where
    -- in the opening it is entered as often as the block before it
    opening_edge : count x (opening F E₀) ≡ count p (opening F E₀)
    unfolding visit
    opening_edge = split (F.join_point 0)
        (λ e. opening_none_join x e ∙ sym (opening_none_join p e))
        (λ e.
        let k = enter_edge F B (Covered F Ok kept) x G N edge plain F.blocks 0 E₀ (rw (opening_visit e) at X.opens) in
        split (eqb x 0)
        (λ d. absurd (G.none_back e (rw (eqb-true x 0 d) at edge)))
        (λ d. rw (opening_visit e) (omega (arith, rw d at k))))

    -- so in the visit of a stored block
    visit_edge : {b : ℕ} → Stored b → count x (stored_visit F kept b) ≡ count p (stored_visit F kept b)
    unfolding stored_visit visit
    visit_edge {b} s =
        let k = enter_edge F B (Covered F Ok kept) x G N edge plain F.blocks b s.0 (X.visits b s.0 s.1) in
        split (eqb x b)
        (λ d. clash (cc (stored_joins s, eqb-true x b d)))
        (λ d. rw (s.1, stored_visit) (omega (arith, rw d at k)))

    -- so in all
    tally_edge : {bs : List ℕ} → Each Stored bs → tally x bs ≡ tally p bs
    unfolding tally
    tally_edge each_none = opening_edge
    tally_edge (each_more s ss) = omega (arith, tally_edge ss, visit_edge s)

  -- a block with a canonical state is entered once
  pub tally_at : {bs : List ℕ} → Each Stored bs → Once bs → ((b : ℕ) (S : Env) → kept b ≡ some S → elem b bs ≡ true)
      → {x : ℕ} {E : Env} → At F kept E₀ x E → tally x bs ≡ 1
  tally_at ss o f (at_join {b} {S} j p) = tally_join b j ss o (f b S p)
  tally_at ss o f (at_start {b} j p q) = rw p (tally_start (rw p at j) ss)
  tally_at ss o f (at_on A e h k) = tally_edge (exit_listed B e h) k ss ∙ tally_at ss o f A

  module _ (ts : List Stmt) (x : ℕ) (small : x < F.blocks) where
    -- at the entry's point nothing is x's
    entry_none : (us : List Stmt) → part owner x (mark F.entry us) ≡ []
    entry_none us = part_other owner x (each_mark F.entry us (λ t. refl)) (N.alone x small)

    -- an opening that does not enter x records nothing at x's points
    opening_none : count x (opening F E₀) ≡ 0 → part owner x (tell F kept (opening F E₀)) ≡ []
    unfolding visit tell
    opening_none c = split (F.join_point 0)
        (λ e. rw (opening_meet e) (ap (part owner x) (append-nil (mark F.entry (gives F kept (opening_exit F E₀)))) ∙ entry_none (gives F kept (opening_exit F E₀))))
        (λ e. rw (opening_visit e)
        (enter_none F B N kept E₀ (Covered F Ok kept) x F.blocks 0 E₀ (rw (opening_visit e) at X.opens) (rw (opening_visit e) at c)))

    -- one that does records x's own
    opening_one : count x (opening F E₀) ≡ 1 → Recorded F kept E₀ owner x (tell F kept (opening F E₀))
    unfolding visit
    opening_one c = split (F.join_point 0)
        (λ e. clash (sym (opening_none_join x e) ∙ c))
        (λ e. rw (opening_visit e)
        (enter_one F B N kept E₀ (Covered F Ok kept) x F.blocks 0 E₀ (at_start e refl refl) (rw (opening_visit e) at X.opens) (rw (opening_visit e) at c)))

    -- a visit that does not enter x records nothing there
    visit_none : {b : ℕ} → Stored b → count x (stored_visit F kept b) ≡ 0 → part owner x (tell F kept (stored_visit F kept b)) ≡ []
    unfolding stored_visit visit
    visit_none {b} s c = rw (s.1, stored_visit)
        (enter_none F B N kept E₀ (Covered F Ok kept) x F.blocks b s.0 (X.visits b s.0 s.1) (rw (s.1, stored_visit) at c))

    -- one that does records x's own
    visit_one : {b : ℕ} → Stored b → count x (stored_visit F kept b) ≡ 1 → Recorded F kept E₀ owner x (tell F kept (stored_visit F kept b))
    unfolding stored_visit visit
    visit_one {b} s c = rw (s.1, stored_visit)
        (enter_one F B N kept E₀ (Covered F Ok kept) x F.blocks b s.0 (at_join (stored_joins s) s.1) (X.visits b s.0 s.1) (rw (s.1, stored_visit) at c))

    -- where x is not entered at all, nothing is recorded at its points
    story_none : {bs : List ℕ} → Each Stored bs → tally x bs ≡ 0 → part owner x (story F kept ts E₀ bs) ≡ []
    unfolding tally story
    story_none each_none c = part_append owner x (mark F.entry ts) (tell F kept (opening F E₀)) ∙ cc (entry_none ts, opening_none c)
    story_none (each_more {a = b} {l = bs} s ss) c =
        part_append owner x (story F kept ts E₀ bs) (tell F kept (stored_visit F kept b))
        ∙ cc (story_none ss (omega arith), visit_none s (omega arith))

    -- where x is entered once, its lines are its own
    story_one : {bs : List ℕ} → Each Stored bs → tally x bs ≡ 1 → Recorded F kept E₀ owner x (story F kept ts E₀ bs)
    unfolding tally story
    story_one each_none c = recorded_after F B N kept E₀ (Covered F Ok kept) x (mark F.entry ts) (tell F kept (opening F E₀)) (entry_none ts) (opening_one c)
    story_one (each_more {a = b} {l = bs} s ss) c =
        let l = story F kept ts E₀ bs in
        let m = tell F kept (stored_visit F kept b) in
        one_of (tally x bs) (count x (stored_visit F kept b)) c
        (λ u v. recorded_after F B N kept E₀ (Covered F Ok kept) x l m (story_none ss u) (visit_one s v))
        (λ u v. recorded_before F B N kept E₀ (Covered F Ok kept) x l m (visit_none s v) (story_one ss u))

  -- a block with a canonical state is one of the frame's
  at_below : {x : ℕ} {E : Env} → At F kept E₀ x E → x < F.blocks
  at_below (at_join {b} {S} j p) = (X.placed b S p).below
  at_below (at_start j p q) = rw p G.some_block
  at_below (at_on A e h k) = G.below (exit_listed B e h)

  -- THE RECORD at the points of a block is what the block's run from its canonical state records, and its jumps
  pub record_at : {ts : List Stmt} {g : Log Stmt} → Elaborated F kept ts E₀ g → {x : ℕ} {E : Env} {w : Work Env Stmt}
      → At F kept E₀ x E → F.body x E ≡ done w → part owner x g.lines ≡ own_lines F kept w
  record_at {ts} {g} R {x} {E} {w} A e =
      let ss : Each Stored g.visited = each_of g.visited (λ b h. R.only b (elem_has h)) in
      let f = story_one ts x (at_below A) ss (tally_at ss R.once R.every A) in
      let q : f.state ≡ E = at_same F B G N kept E₀ f.canon A in
      let v : f.worked ≡ w = cc f.given in
      cc (R.recorded, f.there)
