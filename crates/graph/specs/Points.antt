-- One block's own run, whatever the state: it is left by the block's targets, in order, and what it records stands at points of the
-- block that are no target items. So each point is one block's, or the entry's.
use Rattle.std.specs.Prelude.{◌≡◌, ◌≢◌, ℕ, ◌-◌, ◌<◌, ltb}
use Rattle.std.proofs.Math.Path.{refl}
use Rattle.std.proofs.Common.{ap, arith}
use mathlib.Core.List.{List, [], ◌∷◌, ◌++◌, map}
use Rattle.std.proofs.Math.Option.{Option, none, some}
use borrow.Author.Tests.{ltb-true}
use Rattle.model.specs.Answer.{done}
use Rattle.model.specs.Tree.{Forest}
use Rattle.model.specs.Place.{Spot, At}
use Rattle.model.specs.Walk.{projection, subject_at}
use Rattle.model.specs.Function.{nblocks, start, stop, op}
use Rattle.model.specs.Block.{Station, is_station, station, stations, targets, returns, matched}
use Rattle.model.specs.Frame.{Line, mark, Exit, Work, target}
use Rattle.model.specs.Body.{use_at, pass_stations, Left, variants, choice, open_variant, match_targets, unopened, match_exits, exits_of, ret_lines, body, frame}
use Rattle.base.specs.Tests.{split, clash}
use Rattle.base.specs.Answer.{then_done}
use Rattle.base.specs.Each.{Each, each_none, each_more, each_append}
use Rattle.base.specs.Collected.{collect_each}
use Rattle.base.specs.Function.{FunctionFacts}
use Rattle.solver.specs.Lines.{each_mark}
use Rattle.graph.specs.Ranges.{Holds}
use Rattle.graph.specs.Enders.{last_holds}

-- THE EXITS

-- where the state is left as it is
unopened_listed : (ts : List (ℕ × ℕ)) (E : Forest) → map target (unopened ts E) ≡ ts
unfolding unopened
unopened_listed [] E = refl
unopened_listed (t ∷ ts) E = ap (λ l. t ∷ l) (unopened_listed ts E)

module _ (Γ fn : List ℕ) where
  -- of a match
  pub match_listed : (q : Spot) (E : Forest) (ts : List (ℕ × ℕ)) (ds : Left) {xs : List (Exit Forest)} → match_targets Γ fn q E ts ds ≡ done xs → map target xs ≡ ts
  unfolding match_targets
  match_listed q E [] ds {xs} e = let z : [] ≡ xs = cc in rw (← z) refl
  match_listed q E (t ∷ ts) ds {xs} e =
      let (c, u, e₁) = then_done (choice fn t.0 ds) e in
      let (D, v, e₂) = then_done (open_variant Γ fn q c.opens E) e₁ in
      let (ys, w, e₃) = then_done (match_targets Γ fn q E ts c.remain) e₂ in
      let z : record { item = t.0; block = t.1; state = D } ∷ ys ≡ xs = cc in
      rw (← z) (ap (λ l. t ∷ l) (match_listed q E ts c.remain w))

  match_exits_listed : (q : Spot) (ts : List (ℕ × ℕ)) (E : Forest) (o : Option ℕ) {xs : List (Exit Forest)} → match_exits Γ fn q ts E o ≡ done xs → map target xs ≡ ts
  unfolding match_exits
  match_exits_listed q ts E none {xs} e = let z : unopened ts E ≡ xs = cc in rw (← z) (unopened_listed ts E)
  match_exits_listed q ts E (some t) e = match_listed q E ts (variants Γ t) e

  -- the exits are the targets, in order
  pub exits_listed : (m : Option Spot) (ts : List (ℕ × ℕ)) (E : Forest) {xs : List (Exit Forest)} → exits_of Γ fn m ts E ≡ done xs → map target xs ≡ ts
  unfolding exits_of
  exits_listed none ts E {xs} e = let z : unopened ts E ≡ xs = cc in rw (← z) (unopened_listed ts E)
  exits_listed (some q) ts E e = let (o, u, d) = then_done (subject_at Γ q E) e in match_exits_listed q ts E o d

  -- what a block's own run has done
  pub record Ran (b : ℕ) (E : Forest) (w : Work Forest At) : Type 0 where
    pub block : b < nblocks fn
    pub end : Forest  -- behind its statements
    pub said : List (Line At)
    pub passed : pass_stations Γ (stations fn b) E ≡ done (end, said)
    pub leaves : exits_of Γ fn (matched fn b) (targets fn b) end ≡ done w.exits
    pub lines : w.lines ≡ said ++ ret_lines Γ fn b end

  -- an accepted body has
  pub body_ran : {b : ℕ} {E : Forest} {w : Work Forest At} → (frame Γ fn).body b E ≡ done w → Ran b E w
  unfolding frame body
  body_ran {b} {E} {w} e = split (ltb b (nblocks fn))
      (λ l.
      let d : body Γ fn b E ≡ done w = cc in
      let (r, u, e₁) = then_done (pass_stations Γ (stations fn b) E) d in
      let (xs, v, e₂) = then_done (exits_of Γ fn (matched fn b) (targets fn b) r.0) e₁ in
      record { block = ltb-true b (nblocks fn) l; end = r.0; said = r.1; passed = u; leaves = cc; lines = cc })
      (λ l. clash (cc))

  -- it is left by the targets
  pub ran_listed : {b : ℕ} {E : Forest} {w : Work Forest At} → Ran b E w → map target w.exits ≡ targets fn b
  ran_listed {b} R = exits_listed (matched fn b) (targets fn b) R.end R.leaves

  -- so the exits are the listed targets, whatever the state
  pub frame_listed : (b : ℕ) (E : Forest) {w : Work Forest At} → (frame Γ fn).body b E ≡ done w → map target w.exits ≡ (frame Γ fn).targets b
  unfolding frame
  frame_listed b E e = ran_listed (body_ran {b = b} {E = E} e)

  -- THE LINES

  -- a place used at a point records there
  pub use_points : (P : ℕ → Type 0) (i : ℕ) (u : Option Spot) (E : Forest) {r : Forest × List (Line At)} → P i → use_at Γ i u E ≡ done r → Each (λ l. P l.point) r.1
  unfolding use_at
  use_points P i none E {r} p e = let z : (E, []) ≡ r = cc in rw (← z) each_none
  use_points P i (some q) E {r} p e =
      let (s, u, d) = then_done (projection Γ q E) e in
      let z : (s.0, mark i s.1) ≡ r = cc in
      rw (← z) (each_mark i s.1 (λ t. p))

  -- so do the stations
  pub pass_points : (P : ℕ → Type 0) {ss : List Station} → Each (λ s. P s.point) ss → (E : Forest) {r : Forest × List (Line At)}
      → pass_stations Γ ss E ≡ done r → Each (λ l. P l.point) r.1
  unfolding pass_stations
  pass_points P each_none E {r} e = let z : (E, []) ≡ r = cc in rw (← z) each_none
  pass_points P (each_more {a = s} {l = ss} p ps) E {r} e =
      let (a, u, d) = then_done (use_at Γ s.point s.used E) e in
      let (w, v, c) = then_done (pass_stations Γ ss a.0) d in
      let z : (w.0, a.1 ++ w.1) ≡ r = cc in
      rw (← z) (each_append (use_points P s.point s.used E p u) (pass_points P ps a.0 v))

-- a point of the block b that is no target item
pub record Rests (fn : List ℕ) (b i : ℕ) : Type 0 where
  pub holds : Holds fn b i
  pub code : op fn i ≢ 10

-- each station of a block is one
pub stations_rest : (fn : List ℕ) (b : ℕ) → b < nblocks fn → Each (λ s. Rests fn b s.point) (stations fn b)
unfolding stations station is_station
stations_rest fn b l = collect_each (is_station fn) (station fn) (stop fn b - start fn b) (start fn b) (λ i m n e.
    record { holds = record { block = l; low = m; high = omega arith }; code = λ q. clash (cc) })

module _ {fn : List ℕ} (A : FunctionFacts fn) (Γ : List ℕ) where
  -- what a block's run records stands at such points
  pub ran_rests : {b : ℕ} {E : Forest} {w : Work Forest At} → Ran Γ fn b E w → Each (λ l. Rests fn b l.point) w.lines
  unfolding ret_lines returns
  ran_rests {b} {E} {w} R = rw R.lines (each_append
      (pass_points Γ fn (Rests fn b) (stations_rest fn b R.block) E R.passed)
      (split (returns fn b)
      (λ e. rw (e, ret_lines) (each_mark (stop fn b - 1) _ (λ t. record { holds = last_holds A R.block; code = λ q. clash (cc) })))
      (λ e. rw (e, ret_lines) each_none)))
