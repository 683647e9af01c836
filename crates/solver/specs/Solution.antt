-- An accepted first pass leaves a solution: every stored state's visit is not refused, and each of its arrivals is covered
-- by what is stored at the block where it arrives; so is the entry's.
use Rattle.std.specs.Prelude.{◌≡◌, refl, true, false, List, eqb}
use Rattle.std.proofs.Math.Path.{sym}
use Rattle.std.proofs.Common.{◌∙◌, ap}
use Rattle.std.proofs.Math.Option.{Option, some}
use Prim.Native.Nat.{ℕ, zero, suc, ◌<◌}
use borrow.Author.Tests.{eqb-true}
use Rattle.model.specs.Answer.{Answer, refused, done}
use Rattle.model.specs.Rounds.{put}
use Rattle.model.specs.Frame.{Exit, Work, Frame, target, Outcome, goto, leave, work, enter, visit, opening}
use Rattle.model.specs.Passes.{absorb, Store, empty, keep, unwait, merge, arrive, take_in, round, load, solve, infer}
use Rattle.base.specs.Tests.{split, split_option, clash}
use Rattle.base.specs.Answer.{split_answer}
use Rattle.base.specs.Each.{Each, each_none, each_more}
use Rattle.solver.specs.Lists.{put_other, Has, each_of}
use Rattle.solver.specs.Loop.{Falls, run_ends}
use Rattle.solver.specs.Laws.{Good, Lattice, Bodies, Edges}
use Rattle.solver.specs.Outcome.{Every, every_over, every_stop, every_into, every_say, every_meet, Calm, every_map, calm_map, every_next, every_says}
use Rattle.solver.specs.Arrivals.{exit_listed, Fair, visit_fair, opening_fair}
use Rattle.solver.specs.Termination.{Covers, Sound, Grew, covers_grew, take_law, Turned, round_law, rest_law, turned_took, solve_falls}

module _ {Env Stmt : Type 0} (F : Frame Env Stmt) where
  -- from the block b the join point c is reached, by blocks that are none
  pub data Leads : ℕ → ℕ → Type 0 where
    leads_to : {b i c : ℕ} → Has (i, c) (F.targets b) → F.join_point c ≡ true → Leads b c
    leads_on : {b i d c : ℕ} → Has (i, d) (F.targets b) → F.join_point d ≡ false → Leads d c → Leads b c

  -- the join points that are reached from the entry
  pub data Reach : ℕ → Type 0 where
    reach_start : F.join_point 0 ≡ true → Reach 0
    reach_first : {c : ℕ} → F.join_point 0 ≡ false → Leads 0 c → Reach c
    reach_on : {b c : ℕ} → Reach b → Leads b c → Reach c

  -- where a state is stored
  pub record Placed (b : ℕ) : Type 0 where
    pub below : b < F.blocks
    pub joins : F.join_point b ≡ true
    pub reach : Reach b

module _ {Env Stmt : Type 0} {F : Frame Env Stmt} {Ok : Env → Type 0} (B : Bodies F Ok) where
  -- the arrivals of a visit are where the graph leads
  goto_leads : {go : ℕ → Env → Outcome Env Stmt} → ((c : ℕ) (D : Env) → Every (λ x. Leads F c x.block) (go c D))
      → {b : ℕ} (x : Exit Env) → Has (target x) (F.targets b) → Every (λ y. Leads F b y.block) (goto F go x)
  unfolding goto
  goto_leads {go} f {b} x h = split (F.join_point x.block)
      (λ e. rw (e, goto) (every_meet (leads_to h e) every_over))
      (λ e. rw (e, goto) (every_map (λ y l. leads_on h e l) (f x.block x.state)))

  -- those of all jumps of a block
  leave_leads : {go : ℕ → Env → Outcome Env Stmt} → ((c : ℕ) (D : Env) → Every (λ x. Leads F c x.block) (go c D))
      → {b : ℕ} {xs : List (Exit Env)} → Each (λ x. Has (target x) (F.targets b)) xs → Every (λ y. Leads F b y.block) (leave F go xs)
  unfolding leave
  leave_leads f each_none = every_over
  leave_leads f (each_more {a = x} h hs) = every_next (goto_leads f x h) (leave_leads f hs)

  -- those behind a block's own run
  work_leads : {go : ℕ → Env → Outcome Env Stmt} → ((c : ℕ) (D : Env) → Every (λ x. Leads F c x.block) (go c D))
      → {b : ℕ} {E : Env} (a : Answer (Work Env Stmt)) → F.body b E ≡ a → Every (λ y. Leads F b y.block) (work F go a)
  unfolding work
  work_leads f (refused r) e = every_stop
  work_leads f (done w) e = every_says w.lines (leave_leads f (each_of w.exits (λ x h. exit_listed B e h)))

  -- at any fuel
  pub enter_leads : (n b : ℕ) (E : Env) → Every (λ y. Leads F b y.block) (enter F n b E)
  unfolding enter
  enter_leads zero b E = every_stop
  enter_leads (suc n) b E = every_into (work_leads (enter_leads n) (F.body b E) refl)

  -- of a visit
  pub visit_leads : (b : ℕ) (E : Env) → Every (λ y. Leads F b y.block) (visit F b E)
  unfolding visit
  visit_leads b E = enter_leads F.blocks b E

  -- of the opening: they are reached
  pub opening_reach : (E : Env) → Every (λ y. Reach F y.block) (opening F E)
  unfolding opening goto
  opening_reach E = split (F.join_point 0)
      (λ e. rw (e, goto) (every_meet (reach_start e) every_over))
      (λ e. rw (e, goto) (every_map (λ y l. reach_first e l) (visit_leads 0 E)))

-- an arrival leaves what is stored elsewhere
module _ {Env Stmt : Type 0} (F : Frame Env Stmt) where
  -- what is stored at another block stays when a state is stored
  keep_other : (s t : Store Env) (c : ℕ) (E : Env) (b : ℕ) → t ≡ keep c E s → eqb c b ≡ false → t.kept b ≡ s.kept b
  keep_other s t c E b z d = ap (λ u. u.kept b) z ∙ put_other s.kept c (some E) b d

  -- at another block
  pub arrive_other : (s t : Store Env) (x : Exit Env) (b : ℕ) → eqb x.block b ≡ false → arrive F x s ≡ done t → t.kept b ≡ s.kept b
  unfolding arrive merge
  arrive_other s t x b d e = split_option (s.kept x.block)
      (λ k. keep_other s t x.block x.state b (cc) d)
      (λ T k. split (F.room (F.join T x.state))
      (λ m. split (F.changed T x.state)
      (λ n. keep_other s t x.block (F.join T x.state) b (cc) d)
      (λ n. let z : s ≡ t = cc in cc))
      (λ m. clash (cc)))

-- a state is stored only where one was, or arrives
module _ {Env Stmt : Type 0} (F : Frame Env Stmt) (P : ℕ → Type 0) where
  -- by an arrival
  arrive_only : (s t : Store Env) (x : Exit Env) → ((b : ℕ) (S : Env) → s.kept b ≡ some S → P b) → P x.block
      → arrive F x s ≡ done t → (b : ℕ) (S : Env) → t.kept b ≡ some S → P b
  arrive_only s t x h p e b S q = split (eqb x.block b)
      (λ d. let z = eqb-true x.block b d in rw z at p)
      (λ d. h b S (sym (arrive_other F s t x b d e) ∙ q))

  -- and so in taking in an outcome
  pub take_only : (s t : Store Env) {o : Outcome Env Stmt} → ((b : ℕ) (S : Env) → s.kept b ≡ some S → P b) → Every (λ x. P x.block) o
      → take_in F o s ≡ done t → (b : ℕ) (S : Env) → t.kept b ≡ some S → P b
  unfolding take_in absorb
  take_only s t h every_over e b S q = h b S (cc)
  take_only s t h every_stop e b S q = clash (cc)
  take_only s t h (every_into k) e b S q = take_only s t h k e b S q
  take_only s t h (every_say k) e b S q = take_only s t h k e b S q
  take_only s t h (every_meet {x} {o} p k) e b S q = split_answer (arrive F x s)
      (λ r d. clash (cc))
      (λ u d. take_only u t (arrive_only s u x h p d) k (cc) b S q)

module _ {Env Stmt : Type 0} (F : Frame Env Stmt) (Ok : Env → Type 0) where
  -- an arrival is covered
  abbrev pub Covered : (ℕ → Option Env) → Exit Env → Type 0
  Covered kept x = Covers F Ok kept x.block x.state

  -- a solution for the entry's state E
  pub record Solution (E : Env) (kept : ℕ → Option Env) : Type 0 where
    pub placed : (b : ℕ) (S : Env) → kept b ≡ some S → Placed F b
    pub fine : (b : ℕ) (S : Env) → kept b ≡ some S → Good F Ok S
    pub opens : Calm (Covered kept) (opening F E)
    pub visits : (b : ℕ) (S : Env) → kept b ≡ some S → Calm (Covered kept) (visit F b S)

  -- the same, but for the visits of those that wait
  pub record Partial (E : Env) (s : Store Env) : Type 0 where
    pub sound : Sound F Ok s
    pub placed : (b : ℕ) (S : Env) → s.kept b ≡ some S → Placed F b
    pub opens : Calm (Covered s.kept) (opening F E)
    pub visits : (b : ℕ) (S : Env) → s.kept b ≡ some S → s.waits b ≡ false → Calm (Covered s.kept) (visit F b S)

  module _ (L : Lattice F Ok) (B : Bodies F Ok) (G : Edges F) where
    -- a fair arrival where the graph leads from a reached block
    every_placed : {o : Outcome Env Stmt} → Every (Fair F Ok) o → Every (λ x. Reach F x.block) o → Every (λ x. Placed F x.block) o
    every_placed every_over every_over = every_over
    every_placed every_stop every_stop = every_stop
    every_placed (every_into h) (every_into k) = every_into (every_placed h k)
    every_placed (every_say h) (every_say k) = every_say (every_placed h k)
    every_placed (every_meet f h) (every_meet r k) = every_meet (record { below = f.below; joins = f.joins; reach = r }) (every_placed h k)

    -- what is covered stays covered
    covered_grew : {s t : Store Env} {o : Outcome Env Stmt} → Grew F Ok s t → Calm (Covered s.kept) o → Calm (Covered t.kept) o
    covered_grew K h = calm_map (λ x c. covers_grew F Ok L K c) h

    -- a round keeps it
    partial_turned : {E : Env} {s t : Store Env} → Partial E s → Turned F Ok L s t → Partial E t
    unfolding put
    partial_turned {E} {s} {t} I u =
        let b = u.block in
        let S = u.state in
        let g = I.sound.fine b S u.stored in
        let k = turned_took F Ok L B G I.sound u in
        record {
          sound = k.grew.sound;
          placed = take_only F (Placed F) (unwait b s) t I.placed
              (every_placed (visit_fair F Ok B G b S g)
              (every_map (λ x l. reach_on (I.placed b S u.stored).reach l) (visit_leads B b S)))
              u.took;
          opens = covered_grew k.grew I.opens;
          visits = λ c T p w.
              let q = k.grew.quiet c w in
              let j : s.kept c ≡ some T = sym q.1 ∙ p in
              split (eqb b c)
              (λ e.
              let z = eqb-true b c e in
              let y : S ≡ T = cc u.stored in
              rw (← z, ← y) k.calm)
              (λ e. covered_grew k.grew (I.visits c T j (cc q.0)));
        }

    -- so the load falls, and the invariant stays
    pub partial_falls : (E : Env) → Falls (round F) (Partial E) (load F)
    partial_falls E = record {
      keeps = λ {s} {t} I e. partial_turned I (round_law F Ok L s t e);
      less = λ {s} {t} I e. (solve_falls F Ok L B G).less I.sound e;
    }

    -- nothing is stored at first
    pub empty_sound : Sound F Ok empty
    empty_sound = record { fine = λ b S p. clash (cc); known = λ b p. clash (cc) }

    -- after the opening
    pub partial_opens : {E : Env} {s : Store Env} → Good F Ok E → take_in F (opening F E) empty ≡ done s → Partial E s
    partial_opens {E} {s} g e =
        let k = take_law F Ok L empty s empty_sound (opening_fair F Ok B G E g) e in
        let nothing : (b : ℕ) (S : Env) → (empty {Env = Env}).kept b ≡ some S → Placed F b = λ b S p. clash (cc) in
        record {
          sound = k.grew.sound;
          placed = take_only F (Placed F) empty s nothing (every_placed (opening_fair F Ok B G E g) (opening_reach B E)) e;
          opens = k.calm;
          visits = λ b S p w. let q = k.grew.quiet b w in clash (cc q.1);
        }

    -- THE SOLUTION: what an accepted first pass leaves
    pub infer_solves : {E : Env} {t : Store Env} → Good F Ok E → infer F E ≡ done t → Solution E t.kept
    unfolding infer solve
    infer_solves {E} {t} g e = split_answer (take_in F (opening F E) empty)
        (λ r d. clash (cc))
        (λ s d.
        let j : solve F s ≡ done t = cc in
        let k = run_ends (round F) (partial_falls E) (partial_opens g d) j in
        let I = k.holds in
        record {
          placed = I.placed;
          fine = I.sound.fine;
          opens = I.opens;
          visits = λ b S p. I.visits b S p (rest_law F Ok L t k.rests b (I.placed b S p).below);
        })
