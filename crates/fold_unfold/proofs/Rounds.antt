-- One round of a pass over the memory: nothing waits and the pass is over, or the waiting block of lowest rank is visited. A number
-- falls with each round, and what the solver's theorems ask stays.
use mathlib.Core.Path.{◌≡◌, refl, sym, ap, ◌∙◌, subst}
use mathlib.Core.Bool.{Bool, true, false}
use mathlib.Core.List.{List, []}
use mathlib.Core.Option.{Option, none, some}
use Prim.Native.Nat.{ℕ, ◌<◌}
use Rattle.model.specs.Answer.{Answer, refused, done, ◌>>=◌}
use Rattle.model.specs.Tree.{Forest, leaves}
use Rattle.model.specs.Place.{At}
use Rattle.model.specs.Function.{nblocks, rank, local_types}
use Rattle.model.specs.Block.{entry_uses}
use Rattle.model.specs.Frame.{visit, opening}
use Rattle.model.specs.Rounds.{Round, idle, turned, turn, run_rounds, lowest}
use Rattle.model.specs.Passes.{Store, unwait, take_in, round, load, solve, Log, fresh_log, visiting, take_down, round_two, unvisited}
use Rattle.model.specs.Body.{enter_uses, frame}
use Rattle.base.specs.Answer.{split_answer, then_done, bind_bind}
use Rattle.solver.specs.Loop.{after, Falls, run_round}
use Rattle.solver.specs.Lowest.{lowest_some}
use Rattle.solver.specs.Termination.{Sound, solve_falls}
use Rattle.solver.specs.Solution.{Solution, partial_opens, infer_solves}
use Rattle.solver.proofs.Told.{take_gives}
use Rattle.solver.specs.Elaborate.{Under, under_opens}
use Rattle.solver.proofs.Elaborate.{elaborate_falls}
use Rattle.demand.specs.States.{Ok}
use Rattle.demand.specs.Whole.{Passed, lawful, entered}
use Rattle.arrival.specs.Memory.{Memory, store_of, with_store, log_of, with_log, popped, enters}
use Rattle.fold_unfold.specs.Runs as Runs
use Rattle.fold_unfold.specs.Runs.{opens, rest, pass, Starts}
use Rattle.fold_unfold.proofs.Absorbed.{enters_store, jumps_store, enters_log, jumps_log}

-- ANY ROUNDS

module _ {S : Type 0} (round : S → Round S) {Inv : S → Type 0} {load : S → ℕ} (H : Falls round Inv load) where
  -- at rest the run is over
  run_rests : (s : S) → Inv s → round s ≡ idle → run_rounds round load s ≡ done s
  unfolding after
  run_rests s i e = run_round round H s i ∙ ap (λ (r : Round S). after s r (run_rounds round load)) e

  -- a round's answer, then the rounds that are left
  after_turn : (s : S) (a : Answer S) (k : S → Answer S) → after s (turn a) k ≡ a >>= k
  unfolding after
  after_turn s (refused r) k = refl
  after_turn s (done t) k = refl

  -- one round
  run_turns : (s : S) → Inv s → (a : Answer S) → round s ≡ turn a → run_rounds round load s ≡ a >>= run_rounds round load
  run_turns s i a e = run_round round H s i ∙ ap (λ (r : Round S). after s r (run_rounds round load)) e ∙ after_turn s a (run_rounds round load)

  -- keeps the invariant, and the number falls
  turns_less : (s : S) → Inv s → (a : Answer S) → round s ≡ turn a → (t : S) → a ≡ done t → Inv t × (load t < load s)
  turns_less s i a e t d = let k : round s ≡ turned t = e ∙ ap turn d in (H.keeps i k, H.less i k)

-- A PASS UNDER WAY

module _ (Γ fn : List ℕ) where
  -- the second pass, after the first
  pub record Second (m : Memory) : Type 0 where
    pub state : Forest
    pub lines : List At
    pub solution : Solution (frame Γ fn) (Ok Γ fn) state m.kept
    pub under : Under (frame Γ fn) m.kept lines state (log_of m)

  -- what the theorems on a pass ask
  abbrev pub Steady : Bool → Memory → Type 0
  Steady false m = Sound (frame Γ fn) (Ok Γ fn) (store_of m)
  Steady true m = Second m

  -- the number that falls
  abbrev pub number : Bool → Memory → ℕ
  number false m = load (frame Γ fn) (store_of m)
  number true m = unvisited (frame Γ fn) m.kept (log_of m)

-- the first pass does not tell which blocks it has visited
abbrev pub told : Bool → Memory → Memory
told false m = record { kept = m.kept; waits = m.waits; visited = []; lines = m.lines }
told true m = m

-- a round that visits the block b
pub record Turned (Γ fn : List ℕ) (recording : Bool) (m : Memory) (b : ℕ) : Type 0 where
  pub below : b < nblocks fn
  pub state : Forest
  pub stored : m.kept b ≡ some state
  pub goes : rest Γ fn recording (told recording m)
      ≡ enters Γ fn recording (nblocks fn) b state (popped b m) >>= λ t. rest Γ fn recording (told recording t)
  pub less : (t : Memory) → enters Γ fn recording (nblocks fn) b state (popped b m) ≡ done t
      → Steady Γ fn recording t × (number Γ fn recording t < number Γ fn recording m)

module _ {Γ fn : List ℕ} (H : Passed Γ fn) where
  -- THE FIRST PASS

  -- its rounds
  first_falls : Falls (round (frame Γ fn)) (Sound (frame Γ fn) (Ok Γ fn)) (load (frame Γ fn))
  first_falls = let L = lawful H in solve_falls (frame Γ fn) (Ok Γ fn) L.lattice L.bodies L.edges

  -- nothing waits
  first_rests : (m : Memory) → Steady Γ fn false m → lowest (rank fn) m.waits (nblocks fn) ≡ none
      → rest Γ fn false (told false m) ≡ done (told false m)
  unfolding solve frame round
  first_rests m i e =
      let k : round (frame Γ fn) (store_of m) ≡ idle = cc in
      ap (λ (a : Answer (Store Forest)). a >>= λ s. done (with_store (told false m) s)) (run_rests (round (frame Γ fn)) first_falls (store_of m) i k)

  -- a block is visited
  first_turns : (m : Memory) (b : ℕ) → Steady Γ fn false m → lowest (rank fn) m.waits (nblocks fn) ≡ some b → Turned Γ fn false m b
  unfolding solve frame round
  first_turns m b i e =
      let w = lowest_some (rank fn) m.waits (nblocks fn) b e in
      let (S, p) = i.known b w.1 in
      let s = store_of m in
      let a = take_in (frame Γ fn) (visit (frame Γ fn) b S) (unwait b s) in
      let k : round (frame Γ fn) s ≡ turn a = cc in
      let q = enters_store Γ fn (popped b m) b S in
      record {
        below = w.0;
        state = S;
        stored = p;
        goes = ap (λ (x : Answer (Store Forest)). x >>= λ t. done (with_store (told false m) t)) (run_turns (round (frame Γ fn)) first_falls s i a k)
            ∙ bind_bind a _ _
            ∙ sym (bind_bind a _ _)
            ∙ ap (λ (x : Answer Memory). x >>= λ t. rest Γ fn false (told false t)) (sym q);
        less = λ t d.
            let (u, f, g) = then_done a (sym q ∙ d) in
            let z : with_store (popped b m) u ≡ t = cc in
            subst (λ (x : Memory). Steady Γ fn false x × (number Γ fn false x < number Γ fn false m)) z (turns_less (round (frame Γ fn)) first_falls s i a k u f);
      }

  -- THE SECOND PASS

  -- its rounds
  second_falls : (m : Memory) (I : Second Γ fn m)
      → Falls (round_two (frame Γ fn) m.kept) (Under (frame Γ fn) m.kept I.lines I.state) (unvisited (frame Γ fn) m.kept)
  second_falls m I = elaborate_falls (frame Γ fn) (Ok Γ fn) (lawful H).collects m.kept I.lines I.state I.solution

  -- nothing waits
  second_rests : (m : Memory) → Steady Γ fn true m → lowest (rank fn) m.waits (nblocks fn) ≡ none → rest Γ fn true m ≡ done m
  unfolding frame round_two
  second_rests m I e =
      let k : round_two (frame Γ fn) m.kept (log_of m) ≡ idle = cc in
      ap (λ (a : Answer (Log At)). a >>= λ g. done (with_log m g)) (run_rests (round_two (frame Γ fn) m.kept) (second_falls m I) (log_of m) I.under k)

  -- a block is visited
  second_turns : (m : Memory) (b : ℕ) → Steady Γ fn true m → lowest (rank fn) m.waits (nblocks fn) ≡ some b → Turned Γ fn true m b
  unfolding frame round_two
  second_turns m b I e =
      let w = lowest_some (rank fn) m.waits (nblocks fn) b e in
      let (S, p) = (I.under.waiting b w.1).1 in
      let g = log_of m in
      let two = round_two (frame Γ fn) m.kept in
      let a = take_down (frame Γ fn) m.kept (visit (frame Γ fn) b S) (visiting (frame Γ fn) m.kept b g) in
      let k : two g ≡ turn a = cc in
      let q = enters_log Γ fn (popped b m) b S in
      record {
        below = w.0;
        state = S;
        stored = p;
        goes = ap (λ (x : Answer (Log At)). x >>= λ h. done (with_log m h)) (run_turns two (second_falls m I) g I.under a k)
            ∙ bind_bind a _ _
            ∙ sym (bind_bind a _ _)
            ∙ ap (λ (x : Answer Memory). x >>= λ t. rest Γ fn true t) (sym q);
        less = λ t d.
            let (h, f, j) = then_done a (sym q ∙ d) in
            let z : with_log (popped b m) h ≡ t = cc in
            let (U, l) = turns_less two (second_falls m I) g I.under a k h f in
            subst (λ (x : Memory). Steady Γ fn true x × (number Γ fn true x < number Γ fn true m)) z
            (record { state = I.state; lines = I.lines; solution = I.solution; under = U }, l);
      }

  -- EITHER PASS

  -- nothing waits: the pass is over
  pub rests : (recording : Bool) (m : Memory) → Steady Γ fn recording m → lowest (rank fn) m.waits (nblocks fn) ≡ none
      → rest Γ fn recording (told recording m) ≡ done (told recording m)
  rests false m i e = first_rests m i e
  rests true m i e = second_rests m i e

  -- a block is visited
  pub turns : (recording : Bool) (m : Memory) (b : ℕ) → Steady Γ fn recording m → lowest (rank fn) m.waits (nblocks fn) ≡ some b
      → Turned Γ fn recording m b
  turns false m b i e = first_turns m b i e
  turns true m b i e = second_turns m b i e

  -- AFTER THE OPENING

  -- the first pass
  first_opened : {m : Memory} → opens Γ fn false Runs.blank ≡ done m → Steady Γ fn false m × (told false m ≡ m)
  unfolding opens
  first_opened {m} e =
      let L = lawful H in
      let (r, u, d) = then_done (enter_uses Γ (entry_uses fn) (leaves (local_types fn))) e in
      let (s, f, j) = then_done (take_in (frame Γ fn) (opening (frame Γ fn) r.0) (store_of Runs.blank)) (sym (jumps_store Γ fn Runs.blank r.0) ∙ d) in
      let z : with_store Runs.blank s ≡ m = cc in
      let P = partial_opens (frame Γ fn) (Ok Γ fn) L.lattice L.bodies L.edges (entered H u).1 f in
      subst (λ (x : Memory). Steady Γ fn false x × (told false x ≡ x)) z (P.sound, refl)

  -- the second
  second_opened : (kept : ℕ → Option Forest) → Runs.Inferred Γ fn kept → {m : Memory} → opens Γ fn true (Runs.again kept) ≡ done m → Steady Γ fn true m
  unfolding opens frame
  second_opened kept I {m} e =
      let L = lawful H in
      let (r, u, d) = then_done (enter_uses Γ (entry_uses fn) (leaves (local_types fn))) e in
      let E : r ≡ I.entry = cc I.enters in
      let X : Solution (frame Γ fn) (Ok Γ fn) r.0 kept =
      rw (E, ← I.same) (infer_solves (frame Γ fn) (Ok Γ fn) L.lattice L.bodies L.edges (entered H I.enters).1 I.infers) in
      let n = Runs.entered Γ fn true r.1 (Runs.again kept) in
      let (g, f, T) = take_gives (frame Γ fn) (Ok Γ fn) L.collects kept (fresh_log (frame Γ fn) kept r.1) X.opens in
      let (h, k, j) = then_done (take_down (frame Γ fn) kept (opening (frame Γ fn) r.0) (log_of n)) (sym (jumps_log Γ fn n r.0) ∙ d) in
      let y : g ≡ h = cc in
      let z : with_log n g ≡ m = cc in
      subst (λ (x : Memory). Steady Γ fn true x) z
      (record { state = r.0; lines = r.1; solution = X; under = under_opens (frame Γ fn) (Ok Γ fn) L.collects kept r.1 r.0 X T })

  -- either
  opened : (recording : Bool) (m : Memory) → Starts Γ fn recording m → {t : Memory} → opens Γ fn recording m ≡ done t
      → Steady Γ fn recording t × (told recording t ≡ t)
  opened false m z e = first_opened (rw z at e)
  opened true m (kept, z, I) e = (second_opened kept I (rw z at e), refl)

  -- so the theorems hold of what it leaves
  pub opened_steady : (recording : Bool) (m : Memory) → Starts Γ fn recording m → (t : Memory) → opens Γ fn recording m ≡ done t → Steady Γ fn recording t
  opened_steady recording m i t e = (opened recording m i e).0

  -- and a pass is its opening, then its rounds
  pub opened_pass : (recording : Bool) (m : Memory) → Starts Γ fn recording m
      → pass Γ fn recording m ≡ opens Γ fn recording m >>= λ t. rest Γ fn recording (told recording t)
  unfolding pass
  opened_pass recording m i = split_answer (opens Γ fn recording m)
      (λ n e. cc)
      (λ t e. let k = (opened recording m i e).1 in cc)
