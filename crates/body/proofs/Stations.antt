-- A block's stations, and the entry's uses, pass as the runs of their items.
use mathlib.Core.Path.{◌≡◌, refl, sym, ap, ◌∙◌}
use mathlib.Core.Bool.{true, false, ◌&&◌}
use mathlib.Core.List.{List, ◌∷◌, ◌++◌}
use Prim.Native.Nat.{ℕ, zero, suc, ◌-◌}
use lib.Dec.{eqb, leb}
use Rattle.model.specs.Answer.{Answer, refused, done, ◌>>=◌}
use Rattle.model.specs.Words.{collect_from}
use Rattle.model.specs.Tree.{Forest}
use Rattle.model.specs.Place.{At}
use Rattle.model.specs.Walk.{projection}
use Rattle.model.specs.Function.{start, stop, op}
use Rattle.model.specs.Block.{spot_before, uses_place, Station, is_station, station, stations, entry_uses, entry_point}
use Rattle.model.specs.Frame.{Line, mark}
use Rattle.model.specs.Body.{enter_uses, use_at, pass_stations}
use Rattle.base.specs.Tests.{split, or_left}
use Rattle.base.specs.Answer.{bind_same, bind_bind}
use Rattle.base.specs.Collected.{collect_pass, collect_fail}
use Rattle.records.specs.Recorded.{mark_append}
use Rattle.statements.specs.Points.{point}
use Rattle.body.specs.Uses.{uses}
use Rattle.body.proofs.Runs.{Run, behind, behind_none, uses_pass, uses_fail, uses_none}

-- an item that is no station uses no place
plain_unused : (fn : List ℕ) (i : ℕ) → is_station fn i ≡ false → uses_place fn i ≡ false
unfolding is_station uses_place
plain_unused fn i e = cc (or_left (leb 5 (op fn i) && leb (op fn i) 8) (eqb (op fn i) 11) e)

module _ (Γ fn : List ℕ) where
  -- A BLOCK'S STATIONS

  -- a station that uses a place
  station_used : (i : ℕ) → uses_place fn i ≡ true → (ss : List Station) (E : Forest)
      → pass_stations Γ (station fn i ∷ ss) E ≡ projection Γ (spot_before fn i) E >>= λ r. behind (mark i r.1) (pass_stations Γ ss r.0)
  unfolding pass_stations station use_at
  station_used i u ss E = rw (u, station) (bind_bind (projection Γ (spot_before fn i) E) _ _)

  -- a station that uses none
  station_plain : (i : ℕ) → uses_place fn i ≡ false → (ss : List Station) (E : Forest) → pass_stations Γ (station fn i ∷ ss) E ≡ pass_stations Γ ss E
  unfolding pass_stations station use_at
  station_plain i u ss E = rw (u, station) (behind_none (pass_stations Γ ss E))

  -- the stations among n items
  pass_uses : (n i : ℕ) (E : Forest) → pass_stations Γ (collect_from (is_station fn) (station fn) n i) E ≡ uses Γ fn false n i E
  unfolding pass_stations collect_from point
  pass_uses zero i E = sym (uses_none Γ fn false i E)
  pass_uses (suc n) i E =
      let ss = collect_from (is_station fn) (station fn) n (suc i) in
      split (is_station fn i)
      (λ s. rw (collect_pass (is_station fn) (station fn) n i s) (split (uses_place fn i)
      (λ u. station_used i u ss E
      ∙ bind_same (projection Γ (spot_before fn i) E) (λ r. ap (behind (mark i r.1)) (pass_uses n (suc i) r.0))
      ∙ sym (uses_pass Γ fn false i u n E))
      (λ u. station_plain i u ss E ∙ pass_uses n (suc i) E ∙ sym (uses_fail Γ fn false i u n E))))
      (λ s. rw (collect_fail (is_station fn) (station fn) n i s) (pass_uses n (suc i) E ∙ sym (uses_fail Γ fn false i (plain_unused fn i s) n E)))

  -- a block's stations pass as its items
  pub stations_uses : (b : ℕ) (E : Forest) → pass_stations Γ (stations fn b) E ≡ uses Γ fn false (stop fn b - start fn b) (start fn b) E
  unfolding stations
  stations_uses b E = pass_uses (stop fn b - start fn b) (start fn b) E

  -- THE ENTRY'S USES

  -- statements, at the entry
  abbrev at_entry : Answer (Forest × List At) → Answer Run
  at_entry a = a >>= λ r. done (r.0, mark (entry_point fn) r.1)

  -- statements in front
  entry_behind : (ts : List At) (a : Answer (Forest × List At))
      → at_entry (a >>= λ w. done (w.0, ts ++ w.1)) ≡ behind (mark (entry_point fn) ts) (at_entry a)
  entry_behind ts (refused k) = refl
  entry_behind ts (done w) = ap (λ (l : List (Line At)). done (w.0, l)) (mark_append (entry_point fn) ts w.1)

  -- the places used by n items, all at the entry
  enter_run : (n i : ℕ) (E : Forest) → at_entry (enter_uses Γ (collect_from (uses_place fn) (spot_before fn) n i) E) ≡ uses Γ fn true n i E
  unfolding enter_uses collect_from point mark
  enter_run zero i E = sym (uses_none Γ fn true i E)
  enter_run (suc n) i E = split (uses_place fn i)
      (λ u. rw (collect_pass (uses_place fn) (spot_before fn) n i u)
      (bind_bind (projection Γ (spot_before fn i) E) _ _
      ∙ bind_same (projection Γ (spot_before fn i) E) (λ r. entry_behind r.1 (enter_uses Γ (collect_from (uses_place fn) (spot_before fn) n (suc i)) r.0) ∙ ap (behind (mark (entry_point fn) r.1)) (enter_run n (suc i) r.0))
      ∙ sym (uses_pass Γ fn true i u n E)))
      (λ u. rw (collect_fail (uses_place fn) (spot_before fn) n i u) (enter_run n (suc i) E ∙ sym (uses_fail Γ fn true i u n E)))

  -- the entry's uses are those of the items before the start block
  pub entry_uses_uses : (E : Forest)
      → enter_uses Γ (entry_uses fn) E >>= (λ r. done (r.0, mark (entry_point fn) r.1)) ≡ uses Γ fn true (start fn 0) 0 E
  unfolding entry_uses
  entry_uses_uses E = enter_run (start fn 0) 0 E
