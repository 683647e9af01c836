-- The first pass: what an arrival, a visit and a round do to the store; and that its fuel never runs out.
use Rattle.std.specs.Prelude.{◌≡◌, refl, ℕ, ◌≤◌, ◌<◌, eqb}
use Rattle.std.proofs.Common.{◌∙◌}
use Rattle.std.proofs.Math.Bool.{true, false}
use Rattle.std.proofs.Math.Option.{Option, none, some}
use native.Mathlib.Omega.{arith}
use borrow.Author.Tests.{eqb-true}
use Rattle.model.specs.Answer.{done}
use Rattle.model.specs.Rounds.{put, idle, turned, lowest}
use Rattle.model.specs.Frame.{Exit, Frame, Outcome, visit}
use Rattle.model.specs.Passes.{absorb, Store, keep, unwait, merge, arrive, take_in, round, weigh, load, solve}
use Rattle.base.specs.Tests.{split, split_option, clash}
use Rattle.base.specs.Answer.{split_answer}
use Rattle.base.specs.Below.{sum_grows, sum_falls}
use Rattle.base.specs.Order.{Above, above_trans, above_first, above_second}
use Rattle.solver.specs.Lists.{put_same, put_other}
use Rattle.solver.specs.Loop.{after, Falls, run_round}
use Rattle.solver.specs.Lowest.{lowest_none, lowest_some}
use Rattle.solver.specs.Laws.{Good, Lattice, Bodies, Edges}
use Rattle.solver.specs.Outcome.{Every, every_over, every_stop, every_into, every_say, every_meet, Calm, calm_over, calm_into, calm_say, calm_meet}
use Rattle.solver.specs.Arrivals.{Fair, visit_fair}

-- a block has a stored state that is above E
pub record Covers {Env Stmt : Type 0} (F : Frame Env Stmt) (Ok : Env → Type 0) (kept : ℕ → Option Env) (b : ℕ) (E : Env) : Type 0 where
  pub state : Env
  pub stored : kept b ≡ some state
  pub good : Ok state
  pub ok : Ok E
  pub above : Above F.join state E

module _ {Env Stmt : Type 0} (F : Frame Env Stmt) (Ok : Env → Type 0) where
  -- what is stored is good, what waits is stored
  pub record Sound (s : Store Env) : Type 0 where
    pub fine : (b : ℕ) (S : Env) → s.kept b ≡ some S → Good F Ok S
    pub known : (b : ℕ) → s.waits b ≡ true → (S : Env) × (s.kept b ≡ some S)

  -- from s to t, by arrivals
  pub record Grew (s t : Store Env) : Type 0 where
    pub more : (b : ℕ) (S : Env) → s.kept b ≡ some S → Covers F Ok t.kept b S
    pub quiet : (b : ℕ) → t.waits b ≡ false → (s.waits b ≡ false) × (t.kept b ≡ s.kept b)
    pub less : (b : ℕ) → weigh F (t.kept b) (t.waits b) ≤ weigh F (s.kept b) (s.waits b)
    pub sound : Sound t

  module _ (L : Lattice F Ok) where
    -- a state is stored that is above E
    cover : {kept : ℕ → Option Env} {b : ℕ} {S E : Env} → kept b ≡ some S → Ok S → Ok E → Above F.join S E → Covers F Ok kept b E
    cover {S} p g h a = record { state = S; stored = p; good = g; ok = h; above = a }

    -- a state that stays is covered by itself
    stays : {s : Store Env} → Sound s → {kept : ℕ → Option Env} {b : ℕ} {S : Env} → s.kept b ≡ some S → kept b ≡ s.kept b → Covers F Ok kept b S
    stays H {b} {S} p q = let g = H.fine b S p in cover (q ∙ p) g.ok g.ok (L.laws.self S)

    -- nothing arrived
    pub grew_refl : {s : Store Env} → Sound s → Grew s s
    grew_refl H = record {
      more = λ b S p. stays H p refl;
      quiet = λ b p. (p, refl);
      less = λ b. omega arith;
      sound = H;
    }

    -- what is covered stays covered
    pub covers_grew : {s t : Store Env} → Grew s t → {b : ℕ} {E : Env} → Covers F Ok s.kept b E → Covers F Ok t.kept b E
    covers_grew K {b} C =
        let D = K.more b C.state C.stored in
        cover D.stored D.good C.ok (above_trans L.laws D.good C.good C.ok D.above C.above)

    -- arrivals after arrivals
    pub grew_trans : {s t u : Store Env} → Grew s t → Grew t u → Grew s u
    grew_trans J K = record {
      more = λ b S p. covers_grew K (J.more b S p);
      quiet = λ b p. let k = K.quiet b p in let j = J.quiet b k.0 in (j.0, k.1 ∙ j.1);
      less = λ b. omega (arith, J.less b, K.less b);
      sound = K.sound;
    }

    -- a better state is stored
    keep_grew : {s : Store Env} → Sound s → {c : ℕ} {E : Env} → Good F Ok E
        → ((S : Env) → s.kept c ≡ some S → Above F.join E S)
        → weigh F (some E) true < weigh F (s.kept c) (s.waits c)
        → Grew s (keep c E s)
    unfolding put
    keep_grew {s} H {c} {E} g a l = record {
      more = λ b S p. split (eqb c b)
          (λ e. let q = eqb-true c b e in cover {S = E} (cc) g.ok (H.fine b S p).ok (a S (cc)))
          (λ e. stays H p (cc));
      quiet = λ b p. split (eqb c b) (λ e. clash (cc)) (λ e. (cc, cc));
      less = λ b. split (eqb c b)
          (λ e.
          let q = eqb-true c b e in
          let k : weigh F (put s.kept c (some E) b) (put s.waits c true b) ≡ weigh F (some E) true = cc in
          let j : weigh F (s.kept c) (s.waits c) ≡ weigh F (s.kept b) (s.waits b) = cc in
          omega arith)
          (λ e.
          let k : weigh F (put s.kept c (some E) b) (put s.waits c true b) ≡ weigh F (s.kept b) (s.waits b) = cc in
          omega arith);
      sound = record {
        fine = λ b S p. split (eqb c b) (λ e. let q : E ≡ S = cc in rw (← q) g) (λ e. H.fine b S (cc));
        known = λ b p. split (eqb c b) (λ e. (E, cc)) (λ e. let k = H.known b (cc) in (k.0, cc k.1));
      };
    }

    -- what an arrival does
    pub record Taken (s : Store Env) (x : Exit Env) (t : Store Env) : Type 0 where
      pub grew : Grew s t
      pub covers : Covers F Ok t.kept x.block x.state

    -- of an arrival where a state is stored
    merge_law : (s t : Store Env) (x : Exit Env) (S : Env) → Sound s → Good F Ok x.state → s.kept x.block ≡ some S
        → merge F x S s ≡ done t → Taken s x t
    unfolding merge weigh put
    merge_law s t x S H g p e =
        let E = x.state in
        let J = F.join S E in
        let f = H.fine x.block S p in
        split (F.room J)
        (λ d. split (F.changed S E)
        (λ c.
        let q : keep x.block J s ≡ t = cc in
        let ok = L.laws.ok f.ok g.ok in
        let l = L.falls f g.ok d c in
        rw (← q) (record {
          grew = keep_grew H (record { ok = ok; fits = d })
              (λ T r. let z : S ≡ T = cc in rw (← z) (above_first L.laws f.ok g.ok))
              (rw p (omega arith));
          covers = cover {S = J} (put_same s.kept x.block (some J)) ok g.ok (above_second L.laws f.ok g.ok);
        }))
        (λ c.
        let q : s ≡ t = cc in
        rw (← q) (record { grew = grew_refl H; covers = cover {S = S} p f.ok g.ok (L.unchanged f.ok g.ok c) })))
        (λ d. clash (cc))

    -- of any arrival
    pub arrive_law : (s t : Store Env) (x : Exit Env) → Sound s → Good F Ok x.state → arrive F x s ≡ done t → Taken s x t
    unfolding arrive weigh
    arrive_law s t x H g e = split_option (s.kept x.block)
        (λ p.
        let q : keep x.block x.state s ≡ t = cc in
        let l = L.bounded g in
        rw (← q) (record {
          grew = keep_grew H g (λ T r. clash (cc)) (rw p (omega arith));
          covers = cover {S = x.state} (put_same s.kept x.block (some x.state)) g.ok g.ok (L.laws.self x.state);
        }))
        (λ S p. merge_law s t x S H g p (cc))

    -- what taking in an outcome does: everything only grows, and every arrival is covered in the end
    pub record Took (s : Store Env) (o : Outcome Env Stmt) (t : Store Env) : Type 0 where
      pub grew : Grew s t
      pub calm : Calm (λ x. Covers F Ok t.kept x.block x.state) o

    -- of an outcome
    pub take_law : (s t : Store Env) {o : Outcome Env Stmt} → Sound s → Every (Fair F Ok) o → take_in F o s ≡ done t → Took s o t
    unfolding take_in absorb
    take_law s t H every_over e = let q : s ≡ t = cc in rw (← q) (record { grew = grew_refl H; calm = calm_over })
    take_law s t H every_stop e = clash (cc)
    take_law s t H (every_into h) e = let k = take_law s t H h e in record { grew = k.grew; calm = calm_into k.calm }
    take_law s t H (every_say h) e = let k = take_law s t H h e in record { grew = k.grew; calm = calm_say k.calm }
    take_law s t H (every_meet {x} {o} f h) e = split_answer (arrive F x s)
        (λ r d. clash (cc))
        (λ u d.
        let a = arrive_law s u x H f.good d in
        let k = take_law u t a.grew.sound h (cc) in
        record { grew = grew_trans a.grew k.grew; calm = calm_meet (covers_grew k.grew a.covers) k.calm })

    -- what a round does
    pub record Turned (s t : Store Env) : Type 0 where
      pub block : ℕ
      pub state : Env
      pub below : block < F.blocks
      pub waited : s.waits block ≡ true
      pub stored : s.kept block ≡ some state
      pub took : take_in F (visit F block state) (unwait block s) ≡ done t

    -- a round that goes on has popped a block and visited it
    pub round_law : (s t : Store Env) → round F s ≡ turned t → Turned s t
    unfolding round
    round_law s t e = split_option (lowest F.rank s.waits F.blocks)
        (λ p. clash (cc))
        (λ b p.
        let w = lowest_some F.rank s.waits F.blocks b p in
        split_option (s.kept b)
        (λ q. clash (cc))
        (λ S q. split_answer (take_in F (visit F b S) (unwait b s))
        (λ r d. clash (cc))
        (λ u d. record { block = b; state = S; below = w.0; waited = w.1; stored = q; took = cc })))

    -- at rest, nothing waits
    pub rest_law : (s : Store Env) → round F s ≡ idle → (b : ℕ) → b < F.blocks → s.waits b ≡ false
    unfolding round
    rest_law s e = split_option (lowest F.rank s.waits F.blocks)
        (λ p. lowest_none F.rank s.waits F.blocks p)
        (λ b p. split_option (s.kept b)
        (λ q. clash (cc))
        (λ S q. split_answer (take_in F (visit F b S) (unwait b s)) (λ r d. clash (cc)) (λ u d. clash (cc))))

    -- a popped block waits no more
    pub unwait_sound : {s : Store Env} (b : ℕ) → Sound s → Sound (unwait b s)
    unfolding put
    unwait_sound b H = record {
      fine = H.fine;
      known = λ c p. split (eqb b c) (λ e. clash (cc)) (λ e. H.known c (cc));
    }

    -- a block weighs more while it waits
    weigh_wait : (o : Option Env) → weigh F o false < weigh F o true
    unfolding weigh
    weigh_wait none = omega arith
    weigh_wait (some S) = omega arith

    -- a popped block lightens the load
    unwait_load : (s : Store Env) (b : ℕ) → b < F.blocks → s.waits b ≡ true → load F (unwait b s) < load F s
    unfolding load
    unwait_load s b l w = sum_falls (λ c. weigh F (s.kept c) (put s.waits b false c)) (λ c. weigh F (s.kept c) (s.waits c)) F.blocks b l
        (rw (put_same s.waits b false, w) (weigh_wait (s.kept b)))
        (λ c m. split (eqb b c)
        (λ e.
        let q = eqb-true b c e in
        let k : put s.waits b false c ≡ false = cc (put_same s.waits b false) in
        let j : s.waits c ≡ true = cc in
        rw (k, j) (omega (arith, weigh_wait (s.kept c))))
        (λ e. rw (put_other s.waits b false c e) (omega arith)))

    -- arrivals do not add to the load
    grew_load : {s t : Store Env} → Grew s t → load F t ≤ load F s
    unfolding load
    grew_load {s} {t} K = sum_grows (λ b. weigh F (t.kept b) (t.waits b)) (λ b. weigh F (s.kept b) (s.waits b)) F.blocks (λ b m. K.less b)

    module _ (B : Bodies F Ok) (G : Edges F) where
      -- a round, as growth after a pop
      pub turned_took : {s t : Store Env} → Sound s → (u : Turned s t) → Took (unwait u.block s) (visit F u.block u.state) t
      turned_took {s} {t} H u = take_law (unwait u.block s) t (unwait_sound u.block H)
          (visit_fair F Ok B G u.block u.state (H.fine u.block u.state u.stored)) u.took

      -- TERMINATION: every round lightens the load
      pub solve_falls : Falls (round F) Sound (load F)
      solve_falls = record {
        keeps = λ {s} {t} H e. (turned_took H (round_law s t e)).grew.sound;
        less = λ {s} {t} H e.
            let u = round_law s t e in
            let k = grew_load (turned_took H u).grew in
            let j = unwait_load s u.block u.below u.waited in
            omega arith;
      }

      -- one round of the first pass: with `solve_falls`, this determines it
      pub solve_round : (s : Store Env) → Sound s → solve F s ≡ after s (round F s) (solve F)
      unfolding solve
      solve_round s H = run_round (round F) solve_falls s H
