-- A block that is left by its targets, one item after the other: what is left of the way at item i, and what an item does to it.
use mathlib.Core.Path.{◌≡◌, refl, ap, ◌∙◌, subst, subst₂}
use mathlib.Core.Bool.{Bool, false}
use mathlib.Core.List.{List, [], ◌∷◌, map}
use mathlib.Core.Logic.{◌≢◌}
use Prim.Native.Nat.{ℕ, suc, ◌+◌, ◌-◌, ◌≤◌, ◌<◌}
use Rattle.std.specs.Prelude.{Option, Result, Ok, Err}
use native.Mathlib.Omega.{arith}
use lib.ListN.{length}
use lib.Dec.{eqb}
use borrow.Author.Tests.{lt-ltb, eq-eqb, ne_eqb}
use Rattle.model.specs.Words.{collect_from}
use Rattle.model.specs.Answer.{Answer, refused, done, ◌>>=◌}
use Rattle.model.specs.Tree.{Forest}
use Rattle.model.specs.Function.{nblocks, local_types, start, stop, op, arg}
use Rattle.model.specs.Block.{targets, matched}
use Rattle.model.specs.Frame.{Exit, target}
use Rattle.model.specs.Body.{exits_of, frame}
use Rattle.solver.specs.Direct.{do_leave}
use Rattle.base.specs.Tests.{clash}
use Rattle.base.specs.Answer.{split_answer}
use Rattle.base.specs.Each.{Each, each_more}
use Rattle.base.specs.Collected.{collect_zero, collect_pass, collect_fail}
use Rattle.graph.specs.Points.{exits_listed}
use Rattle.records.specs.Here.{Holds}
use Rattle.refusal.specs.Refusal.{number}
use Rattle.refusal.specs.declared.Refusal.{Refusal}
use Rattle.state.specs.Value.{value}
use Rattle.state.specs.declared.nodes.State.{State}
use Rattle.statements.specs.declared.Out.{Out}
use Rattle.statements.specs.Points.{point}
use Rattle.body.specs.Arms.{leaves_by, Chosen, Planned}
use Rattle.body.specs.declared.arms.Match.{Match}
use Rattle.arrival.specs.Memory.{Memory, hears, arrives, enters, jumps, departs}
use Rattle.arrival.specs.Shares.{Arrays, Remembers, Alike}
use Rattle.arrival.specs.Visits.{Spoken, exit, Visits}
use Rattle.visit.proofs.Entering.{alike_same, alike_then, visits_pen, visits_refused, visits_over}

-- is the item i a target?
abbrev is_target : List ℕ → ℕ → Bool
is_target fn i = eqb (op fn i) 10

-- with the block that it names
abbrev aim : List ℕ → ℕ → ℕ × ℕ
aim fn i = (i, arg fn i)

-- the targets among n items from i on
abbrev aims : List ℕ → ℕ → ℕ → List (ℕ × ℕ)
aims fn n i = collect_from (is_target fn) (aim fn) n i

-- the first of several proofs, and the others
first_each : {A : Type 0} {P : A → Type 0} {a : A} {l : List A} → Each P (a ∷ l) → P a × Each P l
first_each (each_more p ps) = (p, ps)

-- exits without targets are none
none_of : (xs : List (Exit Forest)) → map target xs ≡ [] → xs ≡ []
none_of [] e = refl
none_of (y ∷ ys) e = clash (cc)

module _ (Γ fn : List ℕ) (recording : Bool) (n b : ℕ) where
  -- by these exits
  abbrev pub leaving : List (Exit Forest) → Memory → Answer Memory
  leaving xs t = do_leave (frame Γ fn) (hears Γ fn recording) (arrives Γ fn recording) (λ c D t. enters Γ fn recording n c D t) xs t

  module _ (p : Option Match) (E : Forest) (m : Memory) where
    -- exits for the target items from i on, by the plan
    pub record Exits (i : ℕ) (M : Memory) (xs : List (Exit Forest)) : Type 0 where
      pub listed : map target xs ≡ aims fn (stop fn b - i) i
      pub chosen : Chosen Γ fn p E xs
      pub leaves : departs Γ fn recording n b E m ≡ leaving xs M

    -- at the item i, from the arrays x and the buffer out
    pub record Left (x : Arrays) (out : List ℕ) (i : ℕ) (x' : Arrays) (out' : List ℕ) (q : Out) : Type 0 where
      pub memory : Memory
      pub exits : List (Exit Forest)
      pub ahead : Exits i memory exits
      pub alike : Alike x x'
      pub same : length out' ≡ length out
      pub is : Remembers Γ fn memory x'
      pub spoken : Spoken fn recording memory.lines out' q

    -- the target item i, in the state D
    pub record Aimed (i : ℕ) (M : Memory) : Type 0 where
      pub state : Forest
      pub by : leaves_by Γ fn p i E ≡ done state
      pub rest : List (Exit Forest)
      pub listed : map target rest ≡ aims fn (stop fn b - (i + 1)) (i + 1)
      pub chosen : Chosen Γ fn p E rest
      pub leaves : departs Γ fn recording n b E m ≡ jumps Γ fn recording n (exit fn false i (arg fn i) state) M >>= λ t. leaving rest t

-- a jump of the pass that the record says, to the block that the item names
jumped : {Γ fn : List ℕ} {b recording : Bool} {x x' : Arrays} {out out' : List ℕ} {c d : ℕ} {v : Result Out Refusal} (n i : ℕ) (D : Forest) (M : Memory)
    → b ≡ recording → c ≡ d → Visits Γ fn b x out (jumps Γ fn b n (exit fn false i c D) M) x' out' v
    → Visits Γ fn recording x out (jumps Γ fn recording n (exit fn false i d D) M) x' out' v
jumped {Γ} {fn} {b} {recording} {x} {x'} {out} {out'} {c} {d} {v} n i D M e z N =
    subst (λ (k : ℕ). Visits Γ fn recording x out (jumps Γ fn recording n (exit fn false i k D) M) x' out' v) z
    (visits_pen (λ r. jumps Γ fn r n (exit fn false i c D) M) e N)

module _ {Γ fn : List ℕ} {recording : Bool} {n b : ℕ} {p : Option Match} {E : Forest} {m : Memory} where
  -- at the block's first item
  pub left_start : {x : Arrays} {out : List ℕ} {o : Out} → b < nblocks fn → Planned Γ fn b E (Ok p) → Remembers Γ fn m x
      → Spoken fn recording m.lines out o → Left Γ fn recording n b p E m x out (start fn b) x out o
  unfolding targets
  left_start {x} l P R S = split_answer (exits_of Γ fn (matched fn b) (targets fn b) E)
      (λ k e. let d = P.denied k e in clash (cc))
      (λ xs e. record {
        memory = m;
        exits = xs;
        ahead = record {
          listed = exits_listed Γ fn (matched fn b) (targets fn b) E e ∙ rw (lt-ltb b (nblocks fn) l, targets) refl;
          chosen = P.chosen p xs refl e;
          leaves = rw e refl;
        };
        alike = alike_same x;
        same = refl;
        is = R;
        spoken = S;
      })

  -- the first of the exits left is the next item's
  next_of : {i : ℕ} {M : Memory} (xs : List (Exit Forest)) → Exits Γ fn recording n b p E m i M xs
      → map target xs ≡ aim fn i ∷ aims fn (stop fn b - (i + 1)) (i + 1) → Aimed Γ fn recording n b p E m i M
  unfolding do_leave point
  next_of [] X e = clash (cc)
  next_of {i} {M} (h ∷ ys) X e =
      let d : target h ≡ aim fn i = cc in
      let (c, cs) = first_each X.chosen in
      let v : h ≡ exit fn false i (arg fn i) h.state = λ t. record { item = (d t).0; block = (d t).1; state = h.state } in
      record {
        state = h.state;
        by = rw (ap (λ u. u.0) d) at c;
        rest = ys;
        listed = cc;
        chosen = cs;
        leaves = X.leaves ∙ ap (λ u. jumps Γ fn recording n u M >>= λ t. leaving Γ fn recording n b ys t) v;
      }

  -- where its jump is refused the block is
  pub aimed_refused : {i k : ℕ} {M : Memory} {r : Bool} {c : ℕ} (N : Aimed Γ fn recording n b p E m i M) → r ≡ recording → c ≡ arg fn i
      → jumps Γ fn r n (exit fn false i c N.state) M ≡ refused k → departs Γ fn recording n b E m ≡ refused k
  aimed_refused {i} {k} {M} N e z d =
      let j = subst₂ (λ (r : Bool) (c : ℕ). jumps Γ fn r n (exit fn false i c N.state) M ≡ refused k) e z d in
      N.leaves ∙ rw j refl

  module _ {x x' : Arrays} {out out' : List ℕ} {i : ℕ} {q : Out} (L : Left Γ fn recording n b p E m x out i x' out' q) where
    -- an item that is no target
    pub left_skip : i < stop fn b → op fn i ≢ 10 → Left Γ fn recording n b p E m x out (i + 1) x' out' q
    left_skip l d =
        let z : stop fn b - i ≡ suc (stop fn b - (i + 1)) = omega arith in
        let y : i + 1 ≡ suc i = omega arith in
        record {
          memory = L.memory;
          exits = L.exits;
          ahead = record {
            listed = L.ahead.listed ∙ rw (z, collect_fail (is_target fn) (aim fn) (stop fn b - (i + 1)) i (ne_eqb (op fn i) 10 d), ← y) refl;
            chosen = L.ahead.chosen;
            leaves = L.ahead.leaves;
          };
          alike = L.alike;
          same = L.same;
          is = L.is;
          spoken = L.spoken;
        }

    -- a target
    pub left_next : i < stop fn b → op fn i ≡ 10 → Aimed Γ fn recording n b p E m i L.memory
    left_next l d =
        let z : stop fn b - i ≡ suc (stop fn b - (i + 1)) = omega arith in
        let y : i + 1 ≡ suc i = omega arith in
        next_of L.exits L.ahead
        (L.ahead.listed ∙ rw (z, collect_pass (is_target fn) (aim fn) (stop fn b - (i + 1)) i (eq-eqb (op fn i) 10 d), ← y) refl)

    -- it came through
    pub left_over : {x'' : Arrays} {out'' : List ℕ} {w : Out} {c : ℕ} (N : Aimed Γ fn recording n b p E m i L.memory) → c ≡ arg fn i
        → Visits Γ fn q.recording x' out' (jumps Γ fn q.recording n (exit fn false i c N.state) L.memory) x'' out'' (Ok w)
        → Left Γ fn recording n b p E m x out (i + 1) x'' out'' w
    left_over {w = w} N z J₀ =
        let J = jumped n i N.state L.memory L.spoken.pen z J₀ in
        split_answer (jumps Γ fn recording n (exit fn false i (arg fn i) N.state) L.memory)
        (λ k e. let d = J.denied k e in clash (cc))
        (λ M e.
        let (o, r, R, S) = J.over M e in
        let z : o ≡ w = cc in
        record {
          memory = M;
          exits = N.rest;
          ahead = record { listed = N.listed; chosen = N.chosen; leaves = N.leaves ∙ rw e refl };
          alike = alike_then L.alike J.alike;
          same = J.same ∙ L.same;
          is = R;
          spoken = rw z at S;
        })

    -- or is refused
    pub left_refused : {x'' : Arrays} {out'' : List ℕ} {k : Refusal} {c : ℕ} (N : Aimed Γ fn recording n b p E m i L.memory) → c ≡ arg fn i
        → Visits Γ fn q.recording x' out' (jumps Γ fn q.recording n (exit fn false i c N.state) L.memory) x'' out'' (Err k)
        → Visits Γ fn recording x out (departs Γ fn recording n b E m) x'' out'' (Err k)
    left_refused {k = k} N z J₀ =
        let J = jumped n i N.state L.memory L.spoken.pen z J₀ in
        split_answer (jumps Γ fn recording n (exit fn false i (arg fn i) N.state) L.memory)
        (λ j e.
        let z : j ≡ number k = cc (J.denied j e) in
        visits_refused (N.leaves ∙ rw (e, z) refl) (alike_then L.alike J.alike) (J.same ∙ L.same))
        (λ M e. let r = (J.over M e).1 in clash (cc))

    -- behind the last item
    pub left_end : stop fn b ≤ i → Visits Γ fn recording x out (departs Γ fn recording n b E m) x' out' (Ok q)
    unfolding do_leave
    left_end l =
        let z : stop fn b - i ≡ 0 = omega arith in
        let e = none_of L.exits (L.ahead.listed ∙ rw (z, collect_zero (is_target fn) (aim fn) i) refl) in
        visits_over (L.ahead.leaves ∙ rw e refl) L.alike L.same L.is L.spoken

-- what a loop over a block's items keeps: the way left, from whatever memory the arrays and the buffer had
pub record Onward (Γ fn : List ℕ) (recording : Bool) (n b : ℕ) (s : State) (p : Option Match) (x : Arrays) (out : List ℕ) (o : Out) (x' : Arrays) (out' : List ℕ) (q : Out) (i : ℕ) : Type 0 where
  pub alike : Alike x x'
  pub same : length out' ≡ length out
  pub left : (m : Memory) (E : Forest) → Remembers Γ fn m x → Spoken fn recording m.lines out o → Holds Γ (local_types fn) (value s) E
      → Left Γ fn recording n b p E m x out i x' out' q
