-- Whole, continued from specs/Whole: theorems that rest on others.
use Rattle.std.specs.Prelude.{◌≡◌, List, ◌++◌, ℕ, ◌<◌}
use Rattle.std.proofs.Math.Path.{refl, subst}
use Rattle.std.proofs.Common.{sym, ◌∙◌, ap}
use Rattle.model.specs.Answer.{done}
use Rattle.model.specs.Frame.{Line, mark, Work, Frame, opening_exit, carries}
use Rattle.model.specs.Passes.{Store, infer, Found, analyse}
use Rattle.model.specs.Replay.{at_point}
use Rattle.base.specs.Tests.{clash}
use Rattle.base.specs.Answer.{split_answer}
use Rattle.base.specs.Each.{Each}
use Rattle.solver.specs.Lists.{each_of, elem_has}
use Rattle.solver.specs.Player.{Player, script, replay, Path}
use Rattle.solver.specs.Laws.{Good, Lawful}
use Rattle.solver.specs.Solution.{infer_solves}
use Rattle.solver.proofs.Elaborate.{elaborate_works}
use Rattle.solver.specs.Canon.{at_same}
use Rattle.solver.specs.Count.{hop}
use Rattle.solver.specs.Demand.{hop_each, entry_script}
use Rattle.solver.proofs.Demand.{story_each, entry_lands, play_comes}
use Rattle.solver.specs.Whole.{Demand, Made, Replays}

module _ {Env Stmt : Type 0} (F : Frame Env Stmt) (Ok : Env → Type 0) (owner : ℕ → ℕ) (R : Player Env Stmt) (H : Lawful F Ok owner R)
    (ts : List Stmt) (E₀ : Env) (good : Good F Ok E₀) where
  -- after an accepted first pass the second is accepted, and the stored states are the first pass's
  pub second_accepted : {s : Store Env} → infer F E₀ ≡ done s → (r : Found Env Stmt) × (analyse F ts E₀ ≡ done r) × (r.kept ≡ s.kept) × Made F Ok owner R H ts E₀ good r
  unfolding analyse
  second_accepted {s} e =
      let X = infer_solves F Ok H.lattice H.bodies H.edges good e in
      let (g, d, K) = elaborate_works F Ok H.bodies H.collects s.kept ts E₀ X in
      (record { kept = s.kept; lines = g.lines }, cc, refl, record { log = g; solution = X; elaborated = K; lines = refl })

  -- an accepted analysis has both passes accepted
  pub accepted_made : {r : Found Env Stmt} → analyse F ts E₀ ≡ done r → Made F Ok owner R H ts E₀ good r
  unfolding analyse
  accepted_made {r} a = split_answer (infer F E₀)
      (λ k e. clash (cc))
      (λ s e.
      let (q, d, p, M) = second_accepted e in
      let z : q ≡ r = cc in
      rw z at M)

  -- Q of each line that is recorded, if Q of what a block says, of what is collected, and of the entry's own
  pub lines_each : (Q : Line Stmt → Type 0) → ((b : ℕ) (E : Env) (w : Work Env Stmt) → b < F.blocks → F.body b E ≡ done w → Each Q w.lines)
      → ((i : ℕ) (E S : Env) (us : List Stmt) → F.collect E S ≡ done us → Each Q (mark i us)) → Each Q (mark F.entry ts)
      → {r : Found Env Stmt} → analyse F ts E₀ ≡ done r → Each Q r.lines
  lines_each Q own collected first {r} a =
      let M = accepted_made a in
      let K = M.elaborated in
      subst (Each Q) (sym K.recorded ∙ M.lines)
      (story_each F H.bodies H.edges r.kept Q own collected ts M.solution first (each_of M.log.visited (λ b h. K.only b (elem_has h))))

  -- E: all folded
  module _ (E : Env) (enters : carries F ts E ≡ done E₀) {r : Found Env Stmt} (a : analyse F ts E₀ ≡ done r) where
    -- along every list of jumps: the state at the end is the canonical one
    pub replay_works : {is : List ℕ} {b : ℕ} → Path F 0 is b → Replays F R r.kept E₀ E r.lines is b
    unfolding replay
    replay_works {is} {b} p =
        let M = accepted_made a in
        let l = entry_lands F H.bodies H.edges H.points H.collects R H.follows r.kept ts E₀ M.log good M.solution M.elaborated enters in
        let k = play_comes F H.bodies H.edges H.points H.collects R H.follows r.kept ts E₀ M.log good M.solution M.elaborated l.canon p in
        subst (λ ls. Replays F R r.kept E₀ E ls is b) M.lines
        (record { state = k.state; replays = cc (l.carried, k.plays); fine = k.fine; canon = k.canon })

    -- at the entry stand its own statements, then what is collected there
    pub entry_says : {P : Stmt → Type 0} → ((D S : Env) (us : List Stmt) → F.collect D S ≡ done us → Each P us)
        → (us : List Stmt) × (script F R r.lines F.entry ≡ ts ++ us) × Each P us
    entry_says {P} h =
        let M = accepted_made a in
        let y = opening_exit F E₀ in
        let q = entry_script F H.bodies H.edges H.points H.collects R H.follows r.kept ts E₀ M.log good M.solution M.elaborated in
        (at_point F.entry (hop F r.kept y), ap (at_point F.entry) (sym M.lines) ∙ q, hop_each F r.kept y h)

    -- two lists that end in one block come to one state
    pub replay_same : {is js : List ℕ} {b : ℕ} → Path F 0 is b → Path F 0 js b → replay F R r.lines is E ≡ replay F R r.lines js E
    replay_same p q =
        let u = replay_works p in
        let v = replay_works q in
        let z = at_same F H.bodies H.edges H.points r.kept E₀ u.canon v.canon in
        cc (u.replays, v.replays)

    -- THE THEOREM
    pub demand_3 : Demand F R E r.lines
    demand_3 = record {
      works = λ p. let u = replay_works p in (u.state, u.replays, u.fine);
      agrees = λ p q. replay_same p q;
    }
