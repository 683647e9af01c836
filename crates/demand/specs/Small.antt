-- The numbers beside a statement record are small (document 02, F-4): each is at most 127, or the dash.
use Rattle.std.specs.Prelude.{◌≡◌, true, List, ℕ, zero, suc, ◌-◌, ◌≤◌, ◌<◌, replicate}
use Rattle.std.proofs.Math.Path.{refl}
use Rattle.std.proofs.Math.Option.{Option, none, some}
use Rattle.std.proofs.Common.{arith, lt-ltb}
use Rattle.std.proofs.Math.ListN.{length}
use Rattle.model.specs.Words.{word}
use Rattle.model.specs.Answer.{Answer, refused, done}
use Rattle.model.specs.Tree.{Forest, leaves}
use Rattle.model.specs.Place.{Place, Spot, At, walked, no_index, used_ok}
use Rattle.model.specs.Function.{nlocals, nargs, nblocks, stop, local_types}
use Rattle.model.specs.Block.{Station, entry_uses, returns, targets, matched}
use Rattle.model.specs.Frame.{Line, mark, Work}
use Rattle.model.specs.Passes.{Found}
use Rattle.model.specs.Body.{enter_uses, use_at, pass_stations, exits_of, ret_lines, body, frame}
use Rattle.model.specs.Record.{lent, numbers}
use Rattle.model.specs.Whole.{passes, found, found_told, told_of, whole_told}
use Rattle.model.specs.Told.{number_ok, Tells, tells_nothing, tells_fold, tells_unfold}
use Rattle.base.specs.Tests.{split}
use Rattle.base.specs.Answer.{Good, good_bind, good_done, good_self, good_at, then_done}
use Rattle.base.specs.Each.{Each, each_none, each_more, each_append, each_map}
use Rattle.laws.specs.Places.{walked_all, walked_less, used_limits}
use Rattle.laws.specs.Passed.{projection_tells}
use Rattle.laws.specs.Lifted.{Dashed, collects_dashed, folds_at_ret_dashed}
use Rattle.records.specs.Recorded.{mark_append}
use Rattle.solver.specs.Lines.{each_marked}
use Rattle.solver.proofs.Whole as W
use Rattle.graph.specs.Ranges.{owner}
use Rattle.graph.specs.Used.{Allowed, stations_used, entry_used}
use Rattle.graph.specs.Bridge.{player}
use Rattle.demand.specs.States.{Ok}
use Rattle.demand.specs.Whole.{Passed, facts, lawful, entered, found_passed}
use Rattle.demand.specs.Told.{told_found}

-- a line's number is small
abbrev pub Small : Line At → Type 0
Small l = number_ok l.stmt.what.told ≡ true

-- what is walked is no longer than the place
walked_short : (p : Place) → length (walked p) ≤ length p
walked_short p = split (no_index p) (λ e. omega (arith, walked_all p e)) (λ e. omega (arith, walked_less p e))

-- a number below 128 is small
below_small : (n : ℕ) → n < 128 → number_ok n ≡ true
below_small n l = rw (lt-ltb n 128 l) refl

-- what is collected
dashed_small : (i : ℕ) {ts : List At} → Each Dashed ts → Each Small (mark i ts)
dashed_small i h = each_marked i (λ t e. rw e refl) h

module _ (Γ fn : List ℕ) where
  -- what a place used records
  tells_small : (q : Spot) (E : Forest) {ts : List At} → used_ok (nlocals fn) q ≡ true → Tells Γ q E ts → (i : ℕ) → Each Small (mark i ts)
  unfolding mark
  tells_small q E u tells_nothing i = each_none
  tells_small q E u tells_fold i = each_more refl each_none
  tells_small q E u (tells_unfold {n} B) i =
      each_more (below_small n (omega (arith, B.short, walked_short q.place, (used_limits (nlocals fn) q u).short))) each_none

  -- at a station
  use_small : (i : ℕ) (u : Option Spot) → ((q : Spot) → u ≡ some q → used_ok (nlocals fn) q ≡ true) → (E : Forest) → Good (λ r. Each Small r.1) (use_at Γ i u E)
  unfolding use_at
  use_small i none a E = good_done each_none
  use_small i (some q) a E = good_bind (projection_tells Γ q E) (λ r t. good_done (tells_small q E (a q refl) t i))

  -- at all of a block's
  pass_small : {ss : List Station} → Each (Allowed fn) ss → (E : Forest) → Good (λ r. Each Small r.1) (pass_stations Γ ss E)
  unfolding pass_stations
  pass_small each_none E = good_done each_none
  pass_small (each_more {a = s} {l = ss} a as') E = good_bind (use_small s.point s.used a E)
      (λ r h. good_bind (pass_small as' r.0) (λ w k. good_done (each_append h k)))

  -- at its return
  ret_small : (b : ℕ) (E : Forest) → Each Small (ret_lines Γ fn b E)
  unfolding ret_lines
  ret_small b E = split (returns fn b)
      (λ e. rw (e, ret_lines) (dashed_small (stop fn b - 1) (folds_at_ret_dashed Γ (nargs fn) E)))
      (λ e. rw (e, ret_lines) each_none)

  -- at the entry
  entry_small : {qs : List Spot} → Each (λ q. used_ok (nlocals fn) q ≡ true) qs → (i : ℕ) (E : Forest) → Good (λ r. Each Small (mark i r.1)) (enter_uses Γ qs E)
  unfolding enter_uses mark
  entry_small each_none i E = good_done each_none
  entry_small (each_more {a = q} {l = qs} u us) i E = good_bind (projection_tells Γ q E)
      (λ r t. good_bind (entry_small us i r.0) (λ w k. good_done (rw (mark_append i r.1 w.1) (each_append (tells_small q E u t i) k))))

-- THE LINES OF A FUNCTION
module _ {Γ fn : List ℕ} (H : Passed Γ fn) where
  -- one block's
  body_small : (b : ℕ) (E : Forest) (w : Work Forest At) → b < nblocks fn → (frame Γ fn).body b E ≡ done w → Each Small w.lines
  unfolding frame body
  body_small b E w l e =
      let d : body Γ fn b E ≡ done w = cc (lt-ltb b (nblocks fn) l) in
      good_at {P = λ v. Each Small v.lines} (good_bind (pass_small Γ fn (stations_used (facts H) H.places l) E)
      (λ r h. good_bind (good_self (exits_of Γ fn (matched fn b) (targets fn b) r.0)) (λ xs x. good_done (each_append h (ret_small Γ fn b r.0))))) d

  -- all
  pub passes_small : {r : Found Forest At} → passes Γ fn ≡ done r → Each Small r.lines
  unfolding passes frame
  passes_small {r} e =
      let (s, u, a) = then_done (enter_uses Γ (entry_uses fn) (leaves (local_types fn))) e in
      W.lines_each (frame Γ fn) (Ok Γ fn) (owner fn) (player Γ fn) (lawful H) s.1 s.0 (entered H u).1 Small body_small
      (λ i E S us c. dashed_small i (good_at (collects_dashed Γ E S) c))
      (good_at (entry_small Γ fn (entry_used (facts H) H.places) _ (leaves (local_types fn))) u) a

-- THE ARRAY

-- a word of a list whose words are small, or none
word_small : {ns : List ℕ} → Each (λ n. number_ok n ≡ true) ns → (i : ℕ) → number_ok (word ns i) ≡ true
word_small each_none i = refl
word_small (each_more e es) zero = e
word_small (each_more e es) (suc i) = word_small es i

zeros_small : (n : ℕ) → Each (λ k. number_ok k ≡ true) (replicate n 0)
zeros_small zero = each_none
zeros_small (suc n) = each_more refl (zeros_small n)

module _ (Γ fn : List ℕ) (nforms nwhats nout : ℕ) where
  -- of an accepted call
  pub found_small : {r : Found Forest At} → found Γ fn nforms nwhats nout ≡ done r → Each Small r.lines
  found_small p = let (H, q, w) = found_passed Γ fn nforms nwhats nout p in passes_small H q

  module _ (ntold : ℕ) where
    told_small : (a : Answer (Found Forest At)) → found_told Γ fn nforms nwhats nout ntold ≡ a → Each (λ n. number_ok n ≡ true) (told_of Γ fn nforms nwhats nout ntold a)
    unfolding told_of lent numbers
    told_small (refused n) e = zeros_small ntold
    told_small (done f) e = each_append (each_map (λ (l : Line At). l.stmt.what.told) (λ l h. h) (found_small (told_found Γ fn nforms nwhats nout ntold e).0))
        (zeros_small (ntold - length (numbers f.lines)))

    -- and of any
    pub numbers_small : (i : ℕ) → number_ok (word (whole_told Γ fn nforms nwhats nout ntold).told i) ≡ true
    unfolding whole_told
    numbers_small i = word_small (told_small (found_told Γ fn nforms nwhats nout ntold) refl) i
