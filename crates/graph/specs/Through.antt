-- The replay goes through a block as the block's own run did: by a script that has the run's statements at each point it comes to the
-- same state, each place used is quiet, and each unfold tells where the opening began. Behind the statements of a return it stands where those lead.
use Rattle.std.specs.Prelude.{◌≡◌, true, false, ℕ, ◌+◌, ◌-◌, ◌<◌}
use Rattle.std.proofs.Math.Path.{refl, sym, ap, subst, subst₂}
use Rattle.std.proofs.Common.{◌∙◌}
use mathlib.Core.List.{List, [], ◌∷◌, ◌++◌, map, append-nil}
use Rattle.std.proofs.Math.Option.{Option, none, some}
use native.Mathlib.Omega.{arith}
use Rattle.std.proofs.Math.Dec.{eqb}
use borrow.Author.Tests.{eqb-true, ne_eqb}
use Rattle.model.specs.Answer.{Answer, done}
use Rattle.model.specs.Words.{collect_from}
use Rattle.model.specs.Tree.{Forest}
use Rattle.model.specs.Place.{Spot, At, used_ok}
use Rattle.model.specs.Walk.{carries_at, projection}
use Rattle.model.specs.Collect.{folds_at_ret}
use Rattle.model.specs.Function.{nlocals, nargs, nblocks, start, stop, op}
use Rattle.model.specs.Block.{uses_place, places_ok, Station, is_station, station, stations, returns}
use Rattle.model.specs.Frame.{Line, mark, Work}
use Rattle.model.specs.Body.{use_at, pass_stations, ret_lines, frame}
use Rattle.model.specs.Replay.{at_point, look, stand, through, Quiet, Fine, fine_end, fine_on}
use Rattle.model.specs.Told.{Tells, TellsEach, tells_end, tells_on}
use Rattle.base.specs.Tests.{split, clash, eqb_sym}
use Rattle.base.specs.Answer.{split_answer, then_done}
use Rattle.base.specs.Each.{Each, each_none, each_more, each_same, each_both, each_front}
use Rattle.base.specs.Collected.{collect_each, collect_append, collect_map}
use Rattle.base.specs.Function.{FunctionFacts}
use Rattle.solver.specs.Lists.{each_apart, Once, once_head, once_tail, collect_once}
use Rattle.solver.specs.Lines.{at_first, at_second, at_mark, each_mark}
use Rattle.solver.specs.Laws.{Good}
use Rattle.graph.specs.Enders.{last_holds}
use Rattle.graph.specs.Points.{use_points, pass_points, Rests, stations_rest, Ran}
use Rattle.graph.specs.Used.{Allowed, stations_used}
use Rattle.graph.specs.Trees.{small_good, Projected, Trees}

-- an accepted pair, part by part
pub same_parts : {A B : Type 0} {a c : A} {b d : B} → ◌≡◌ {A = Answer (A × B)} (done (a, b)) (done (c, d)) → (a ≡ c) × (b ≡ d)
same_parts {A} {B} {a} {c} {b} {d} e = let x : ◌≡◌ {A = A × B} (a, b) (c, d) = cc in (ap (λ r. r.0) x, ap (λ r. r.1) x)

-- THROUGH THE STATIONS, to the state M
pub data Follow (Γ : List ℕ) (f : ℕ → List At) : List Station → Forest → Forest → Type 0 where
  follow_end : {E : Forest} → Follow Γ f [] E E
  follow_on : {s : Station} {ss : List Station} {E D M : Forest} → carries_at Γ (f s.point) E ≡ done D
      → ((q : Spot) → s.used ≡ some q → Quiet Γ q D × Tells Γ q E (f s.point)) → Follow Γ f ss D M → Follow Γ f (s ∷ ss) E M

module _ (Γ : List ℕ) (f : ℕ → List At) where
  -- to look at a place that is quiet changes nothing
  looks : (u : Option Spot) (D : Forest) → ((q : Spot) → u ≡ some q → Quiet Γ q D) → look Γ u D ≡ done D
  unfolding look
  looks none D h = refl
  looks (some q) D h = (h q refl).walks

  -- it is what the replay gives
  pub follow_through : {ss : List Station} {E M : Forest} → Follow Γ f ss E M → through Γ f ss E ≡ done M
  unfolding through stand
  follow_through follow_end = refl
  follow_through (follow_on {s} {ss} {E} {D} c h k) = cc (looks s.used D (λ q e. (h q e).0), follow_through k)

  -- and it is fine
  pub follow_fine : {ss : List Station} {E M : Forest} → Follow Γ f ss E M → Fine Γ f ss E
  follow_fine follow_end = fine_end
  follow_fine (follow_on c h k) = fine_on c (λ q e. (h q e).0) (follow_fine k)

  -- and each unfold tells where the opening began
  pub follow_tells : {ss : List Station} {E M : Forest} → Follow Γ f ss E M → TellsEach Γ f ss E
  follow_tells follow_end = tells_end
  follow_tells (follow_on c h k) = tells_on c (λ q e. (h q e).1) (follow_tells k)

  -- one list of stations after the other
  follow_append : {ss ts : List Station} {E M N : Forest} → Follow Γ f ss E M → Follow Γ f ts M N → Follow Γ f (ss ++ ts) E N
  follow_append follow_end j = j
  follow_append (follow_on c h k) j = follow_on c h (follow_append k j)

module _ (Γ fn : List ℕ) {Ok : Forest → Type 0} (T : Trees Γ fn Ok) where
  -- a state of the run
  abbrev Fair : Forest → Type 0
  Fair E = Good (frame Γ fn) Ok E

  -- one station
  record Stood (i : ℕ) (u : Option Spot) (E D : Forest) (ls : List (Line At)) : Type 0 where
    good : Fair D
    carried : carries_at Γ (at_point i ls) E ≡ done D
    quiet : (q : Spot) → u ≡ some q → Quiet Γ q D × Tells Γ q E (at_point i ls)

  -- a place used at a station
  project_stood : (i : ℕ) (q : Spot) {E D : Forest} {ts : List At} → Projected Γ Ok q E D ts → Stood i (some q) E D (mark i ts)
  project_stood i q {ts} P = record {
    good = small_good Γ fn P.ok P.small;
    carried = cc (at_mark i ts, P.carried);
    quiet = λ p c. let x : q ≡ p = cc in (rw x at P.quiet, rw (← x, at_mark i ts) P.tells);
  }

  -- any station
  use_stood : (i : ℕ) (u : Option Spot) → ((q : Spot) → u ≡ some q → used_ok (nlocals fn) q ≡ true) → (E : Forest) {D : Forest} {ls : List (Line At)}
      → Fair E → use_at Γ i u E ≡ done (D, ls) → Stood i u E D ls
  unfolding use_at at_point
  use_stood i none a E {D} {ls} o e =
      let (z, y) = same_parts e in
      record { good = rw z at o; carried = rw (← y) (cc); quiet = λ q d. clash (cc) }
  use_stood i (some q) a E {D} {ls} o e =
      let (r, u, d) = then_done (projection Γ q E) e in
      let (z, y) = same_parts d in
      subst₂ (Stood i (some q) E) z y (project_stood i q (T.projects q E (a q refl) o u))

  -- a place used keeps states good
  pub use_good : (i : ℕ) (u : Option Spot) → ((q : Spot) → u ≡ some q → used_ok (nlocals fn) q ≡ true) → (E : Forest) {D : Forest} {ls : List (Line At)}
      → Good (frame Γ fn) Ok E → use_at Γ i u E ≡ done (D, ls) → Good (frame Γ fn) Ok D
  use_good i u a E o e = (use_stood i u a E o e).good

  -- all of them
  pass_follows : (f : ℕ → List At) {ss : List Station} → Each (Allowed fn) ss → Once (map (λ s. s.point) ss) → (E : Forest) {M : Forest} {ls : List (Line At)}
      → Good (frame Γ fn) Ok E → pass_stations Γ ss E ≡ done (M, ls) → Each (λ s. f s.point ≡ at_point s.point ls) ss → Follow Γ f ss E M × Good (frame Γ fn) Ok M
  unfolding pass_stations
  pass_follows f each_none o E {M} {ls} k e each_none = let (z, y) = same_parts e in (rw (← z) follow_end, rw z at k)
  pass_follows f (each_more a as') o E {M} {ls} k e (each_more {a = s} {l = ss} h hs) =
      let p = s.point in
      let (r, u, d) = then_done (use_at Γ p s.used E) e in
      let (w, v, c) = then_done (pass_stations Γ ss r.0) d in
      let (z, y) = same_parts c in
      let S = use_stood p s.used a E k u in
      let away : Each (λ t. eqb t.point p ≡ false) ss = each_apart (λ (t : Station). t.point) p (once_head o) in
      let here : f p ≡ at_point p r.1 = h ∙ ap (at_point p) (sym y) ∙ at_first p r.1 (pass_points Γ fn (λ i. eqb i p ≡ false) away r.0 v) in
      let there : Each (λ t. f t.point ≡ at_point t.point w.1) ss = each_same (λ t j. j.0 ∙ ap (at_point t.point) (sym y)
      ∙ at_second t.point w.1 (use_points Γ fn (λ i. eqb i t.point ≡ false) p s.used E (eqb_sym p t.point ∙ j.1) u)) (each_both hs away) in
      let (F, n) = pass_follows f as' (once_tail o) r.0 S.good v there in
      subst (λ N. Follow Γ f (s ∷ ss) E N × Fair N) z (follow_on (ap (λ ts. carries_at Γ ts E) here ∙ S.carried) (λ q i. let Q = S.quiet q i in (Q.0, rw here Q.1)) F, n)

-- A BLOCK'S STATIONS

-- their points differ
stations_once : (fn : List ℕ) (n i : ℕ) → Once (map (λ s. s.point) (collect_from (is_station fn) (station fn) n i))
unfolding station
stations_once fn n i = rw (collect_map (is_station fn) (station fn) (λ s. s.point) n i) (collect_once (is_station fn) n i)

-- a station that uses no place changes nothing
pass_bare : (Γ : List ℕ) (s : Station) → s.used ≡ none → (ss : List Station) (E : Forest) → pass_stations Γ (ss ++ (s ∷ [])) E ≡ pass_stations Γ ss E
unfolding pass_stations use_at
pass_bare Γ s e [] E = cc
pass_bare Γ s e (t ∷ ss) E = split_answer (use_at Γ t.point t.used E) (λ r d. cc) (λ r d. cc (pass_bare Γ s e ss r.0))

-- the return's own
module _ {fn : List ℕ} (A : FunctionFacts fn) {b : ℕ} (l : b < nblocks fn) (e : returns fn b ≡ true) where
  -- it uses no place
  return_used : (station fn (stop fn b - 1)).used ≡ none
  unfolding station uses_place returns
  return_used = let q = eqb-true (op fn (stop fn b - 1)) 11 e in cc

  -- it is no target
  return_rests : Rests fn b (stop fn b - 1)
  unfolding returns
  return_rests = record { holds = last_holds A l; code = λ c. clash (cc (eqb-true (op fn (stop fn b - 1)) 11 e)) }

  -- the stations before it
  abbrev earlier : List Station
  earlier = collect_from (is_station fn) (station fn) (stop fn b - 1 - start fn b) (start fn b)

  -- their points are not the return's
  earlier_rest : Each (λ s. Rests fn b s.point × (eqb s.point (stop fn b - 1) ≡ false)) earlier
  unfolding station is_station
  earlier_rest = collect_each (is_station fn) (station fn) (stop fn b - 1 - start fn b) (start fn b) (λ i m n c. (
    record { holds = record { block = l; low = m; high = omega arith }; code = λ q. clash (cc) },
    ne_eqb i (stop fn b - 1) (λ q. omega arith),
  ))

  -- the return is the last station
  return_last : stations fn b ≡ earlier ++ (station fn (stop fn b - 1) ∷ [])
  unfolding stations collect_from is_station returns
  return_last =
      let m = A.starts _ l in
      let z = stop fn b - 1 in
      let q = eqb-true (op fn z) 11 e in
      let u : stop fn b - start fn b ≡ (z - start fn b) + 1 = omega arith in
      let v : start fn b + (z - start fn b) ≡ z = omega arith in
      let k = collect_append (is_station fn) (station fn) (z - start fn b) 1 (start fn b) in
      ap (λ n. collect_from (is_station fn) (station fn) n (start fn b)) u ∙ rw v at k ∙ ap (λ r. earlier ++ r) (cc)

-- how a block is gone through
pub record Gone (Γ fn : List ℕ) (Ok : Forest → Type 0) (f : ℕ → List At) (b : ℕ) (E M : Forest) : Type 0 where
  pub good : Good (frame Γ fn) Ok M
  pub end : Forest
  pub follow : Follow Γ f (stations fn b) E end
  pub plain : returns fn b ≡ false → end ≡ M

module _ {Γ fn : List ℕ} (A : FunctionFacts fn) (P : places_ok fn ≡ true) {Ok : Forest → Type 0} (T : Trees Γ fn Ok) (f : ℕ → List At)
    {b : ℕ} {E : Forest} {w : Work Forest At} (R : Ran Γ fn b E w) (h : (i : ℕ) → Rests fn b i → f i ≡ at_point i w.lines) (o : Good (frame Γ fn) Ok E) where
  -- a block that does not return
  gone_plain : returns fn b ≡ false → Gone Γ fn Ok f b E R.end
  unfolding ret_lines stations
  gone_plain e =
      let q : w.lines ≡ R.said = rw (e, ret_lines, append-nil R.said) at R.lines in
      let (F, k) = pass_follows Γ fn T f (stations_used A P R.block) (stations_once fn (stop fn b - start fn b) (start fn b)) E o R.passed
      (each_same (λ s r. h s.point r ∙ ap (at_point s.point) q) (stations_rest fn b R.block)) in
      record { good = k; end = R.end; follow = F; plain = λ d. refl }

  -- one that does: what a return folds is carried out too
  gone_return : returns fn b ≡ true → Gone Γ fn Ok f b E R.end
  unfolding ret_lines station
  gone_return e =
      let l = R.block in
      let z = stop fn b - 1 in
      let ts = folds_at_ret Γ (nargs fn) R.end in
      let last = return_last A l e in
      let rests = earlier_rest A l e in
      let q : w.lines ≡ R.said ++ mark z ts = rw (e, ret_lines) at R.lines in
      let p : pass_stations Γ (earlier A l e) E ≡ done (R.end, R.said) =
      sym (pass_bare Γ (station fn z) (return_used A l e) (earlier A l e) E) ∙ ap (λ us. pass_stations Γ us E) (sym last) ∙ R.passed in
      let (F, k) = pass_follows Γ fn T f (each_front (earlier A l e) (station fn z ∷ []) (rw last at (stations_used A P l))) (stations_once fn (z - start fn b) (start fn b)) E o p
      (each_same (λ s r. h s.point r.0 ∙ ap (at_point s.point) q ∙ at_first s.point R.said (each_mark z ts (λ t. eqb_sym z s.point ∙ r.1))) rests) in
      let own : f z ≡ ts = h z (return_rests A l e) ∙ ap (at_point z) q
      ∙ at_second z (mark z ts) (pass_points Γ fn (λ i. eqb i z ≡ false) (each_same (λ s r. r.1) rests) E p) ∙ at_mark z ts in
      let (D, c) = T.returns k.ok in
      record {
        good = k;
        end = D;
        follow = subst (λ us. Follow Γ f us E D) (sym last) (follow_append Γ f F
            (follow_on {s = station fn z} (ap (λ us. carries_at Γ us R.end) own ∙ c) (λ q d. clash (cc (return_used A l e))) follow_end));
        plain = λ d. clash (cc);
      }

  -- any block
  pub ran_gone : Gone Γ fn Ok f b E R.end
  ran_gone = split (returns fn b) gone_return gone_plain
