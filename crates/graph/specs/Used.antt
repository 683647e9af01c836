-- Every place used has passed refusal 4: those of a block's stations, of its match, and of the entry.
use Rattle.std.specs.Prelude.{◌≡◌, ◌&&◌, ℕ, zero, suc, ◌+◌, ◌-◌, ◌≤◌, ◌<◌}
use Rattle.std.proofs.Math.Bool.{true}
use mathlib.Core.List.{List}
use Rattle.std.proofs.Math.Option.{some}
use native.Mathlib.Omega.{arith}
use Rattle.std.proofs.Math.Dec.{eqb}
use Rattle.std.proofs.Common.{eqb-true}
use Rattle.model.specs.Place.{Spot, used_ok, same_spot}
use Rattle.model.specs.Function.{nlocals, nblocks, nitems, start, stop, op}
use Rattle.model.specs.Block.{spot_before, uses_place, place_ok, places_ok, Station, is_station, station, stations, entry_uses, latest_note}
use Rattle.base.specs.Tests.{split, clash, and_left, and_right}
use Rattle.base.specs.Each.{Each}
use Rattle.base.specs.Below.{all_at}
use Rattle.base.specs.Collected.{collect_each}
use Rattle.base.specs.Function.{stop_inside, FunctionFacts}

-- a station's place, if it has one, has passed
abbrev pub Allowed : List ℕ → Station → Type 0
Allowed fn s = (q : Spot) → s.used ≡ some q → used_ok (nlocals fn) q ≡ true

-- THE LATEST NOTE

-- the note j of the place q, among the n items from i on
pub record Noted (fn : List ℕ) (q : Spot) (i n j : ℕ) : Type 0 where
  pub low : i ≤ j
  pub high : j < i + n
  pub code : op fn j ≡ 7
  pub same : same_spot (spot_before fn j) q ≡ true

-- what it is
pub latest_noted : (fn : List ℕ) (q : Spot) (i n : ℕ) {j : ℕ} → latest_note fn q i n ≡ some j → Noted fn q i n j
unfolding latest_note
latest_noted fn q i zero e = clash (cc)
latest_noted fn q i (suc n) {j} e = split (eqb (op fn (i + n)) 7 && same_spot (spot_before fn (i + n)) q)
    (λ c.
    let z : i + n ≡ j = cc in
    rw (← z) (record { low = omega arith; high = omega arith; code = eqb-true (op fn (i + n)) 7 (search and_left); same = search and_right }))
    (λ c. let k = latest_noted fn q i n {j = j} (cc) in record { low = k.low; high = omega (arith, k.high); code = k.code; same = k.same })

module _ {fn : List ℕ} (A : FunctionFacts fn) (P : places_ok fn ≡ true) where
  -- of each item that uses a place
  pub place_used : {i : ℕ} → i < nitems fn → uses_place fn i ≡ true → used_ok (nlocals fn) (spot_before fn i) ≡ true
  unfolding places_ok place_ok
  place_used {i} l e = rw (e, place_ok) at (all_at (place_ok fn) (nitems fn) P i l)

  -- of a block's stations
  pub stations_used : {b : ℕ} → b < nblocks fn → Each (Allowed fn) (stations fn b)
  unfolding stations station
  stations_used {b} l = collect_each (is_station fn) (station fn) (stop fn b - start fn b) (start fn b) (λ i m n c q e.
      split (uses_place fn i)
      (λ u. let z : spot_before fn i ≡ q = cc in rw z at (place_used (omega (arith, stop_inside A b)) u))
      (λ u. clash (cc)))

  -- of the entry's uses
  pub entry_used : Each (λ q. used_ok (nlocals fn) q ≡ true) (entry_uses fn)
  unfolding entry_uses
  entry_used = collect_each (uses_place fn) (spot_before fn) (start fn 0) 0 (λ i l m e. place_used (omega (arith, A.starts_inside 0 A.some_blocks)) e)
