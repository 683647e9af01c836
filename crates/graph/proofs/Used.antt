-- Used, continued from specs/Used: theorems that rest on others.
use Rattle.std.specs.Prelude.{◌≡◌, ℕ, ◌-◌, ◌<◌}
use Rattle.std.proofs.Math.Path.{refl}
use Rattle.std.proofs.Math.Bool.{true}
use mathlib.Core.List.{List, [], ◌∷◌}
use Rattle.std.proofs.Math.Option.{some}
use native.Mathlib.Omega.{arith}
use Rattle.std.proofs.Math.Dec.{eqb}
use Rattle.model.specs.Words.{collect_from}
use Rattle.model.specs.Place.{Spot, used_ok}
use Rattle.model.specs.Function.{nlocals, nblocks, nitems, start, stop, op}
use Rattle.model.specs.Block.{root_before, spot_before, uses_place, places_ok, latest_note, place_read, match_at, matched}
use Rattle.base.specs.Tests.{split, split_option, clash}
use Rattle.base.specs.Each.{Each, each_more}
use Rattle.base.specs.Collected.{collect_each}
use Rattle.base.specs.Function.{stop_inside, FunctionFacts}
use Rattle.graph.specs.Ranges.{Holds}
use Rattle.graph.proofs.Places.{action_uses, note_reads}
use Rattle.graph.specs.Used.{latest_noted, place_used}

module _ {fn : List ℕ} (A : FunctionFacts fn) (P : places_ok fn ≡ true) where
  -- the place that a match walks is one that was read
  match_used : {b s : ℕ} {q : Spot} → Holds fn b s → match_at fn b s ≡ some q → used_ok (nlocals fn) q ≡ true
  unfolding match_at place_read
  match_used {b} {s} {q} h e = split (uses_place fn s)
      (λ u. split_option (latest_note fn (spot_before fn s) (start fn b) (s - start fn b))
      (λ d. clash (cc))
      (λ j d.
      let n = latest_noted fn (spot_before fn s) (start fn b) (s - start fn b) d in
      let k : Holds fn b j = record { block = h.block; low = n.low; high = omega (arith, n.high, h.low, h.high) } in
      let R = note_reads A k n.code in
      let z : spot_before fn (root_before fn j - 1) ≡ q = cc in
      let l : root_before fn j - 1 < nitems fn = omega (arith, R.holds.high, stop_inside A b) in
      rw z at (place_used A P l (action_uses A R.holds (omega (arith, R.code)) (omega (arith, R.code))))))
      (λ u. clash (cc))

  -- of a block's match
  pub matched_used : {b : ℕ} {q : Spot} → b < nblocks fn → matched fn b ≡ some q → used_ok (nlocals fn) q ≡ true
  unfolding matched
  matched_used {b} {q} l e = go (collect_from (λ i. eqb (op fn i) 8) (λ i. i) (stop fn b - start fn b) (start fn b)) refl
      (collect_each (λ i. eqb (op fn i) 8) (λ i. i) (stop fn b - start fn b) (start fn b) (λ i m n c. record { block = l; low = m; high = omega arith }))
    where
      go : (ss : List ℕ) → collect_from (λ i. eqb (op fn i) 8) (λ i. i) (stop fn b - start fn b) (start fn b) ≡ ss → Each (Holds fn b) ss → used_ok (nlocals fn) q ≡ true
      go [] d hs = clash (cc)
      go (s ∷ ss) d (each_more h hs) = match_used h (cc)
