-- Demand 2 of the call `projection`: the same call once more records nothing and changes nothing, and what is recorded, carried out on the
-- state before, gives the state after.
use Rattle.std.specs.Prelude.{◌≡◌, true, false, List, [], map}
use Rattle.std.proofs.Common.{◌∙◌}
use Rattle.std.proofs.Math.Path.{ap}
use Rattle.std.proofs.Math.Option.{some}
use Prim.Native.Nat.{ℕ}
use Rattle.std.proofs.Math.ListN.{length}
use borrow.Author.Tests.{le-leb}
use Rattle.model.specs.Answer.{done, ◌>>=◌}
use Rattle.model.specs.Tree.{Tree, Forest, sizes, unfolded}
use Rattle.model.specs.State.{State, most, encode, decode}
use Rattle.model.specs.Place.{Place, Spot, Verb, At, used_ok}
use Rattle.model.specs.Walk.{carries_at, walk, pick, changed, reached, project, carry_at, fitting, projection}
use Rattle.model.specs.Record.{forget}
use Rattle.model.specs.Calls.{typed, taken, placed, spot_of, Recorded, statement_ok, statement_at, call_carry}
use Rattle.model.specs.Promised.{UsePromise}
use Rattle.base.specs.Answer.{good_at, then_done}
use Rattle.base.specs.Forgotten.{carries_forget}
use Rattle.laws.specs.Places.{used_limits}
use Rattle.laws.specs.Projection.{projection_carry}
use Rattle.laws.specs.Recorded.{numbered, recording, projection_recording}
use Rattle.laws.specs.Valid.{Valid}
use Rattle.laws.proofs.Valid.{projection_valid}
use Rattle.calls.specs.Tested.{Passing, decode_valid}

-- A QUIET PLACE

module _ (Γ : List ℕ) where
  -- a place that walks without change to a folded node is used, and nothing is recorded: of one tree
  pub project_rests : (p : Place) (s : Tree) → walk Γ done p s ≡ done s → changed Γ p s ≡ false → unfolded (reached Γ p s) ≡ false
      → project Γ p s ≡ done (s, [])
  unfolding project
  project_rests p s w c f = cc

  -- one statement, carried out as a list of one
  pub carry_one : (a : At) (E D : Forest) → carry_at Γ a E >>= done ≡ done D → carry_at Γ a E ≡ done D
  carry_one a E D e = let (x, b, c) = then_done (carry_at Γ a E) e in cc

-- THE CALL

module _ (Γ locals : List ℕ) (p : Passing Γ locals) (s : State) (ops args : List ℕ) {E : Forest} {q : Spot} {r : Forest × List At}
    (sd : decode Γ locals s ≡ some E) (qd : spot_of ops args ≡ some q) (ok : used_ok (length locals) q ≡ true) (e : projection Γ q E ≡ done r) where
  -- the state after is one of a run
  pub after : Valid Γ locals r.0
  after = let u = used_limits (length locals) q ok in good_at (projection_valid q (decode_valid Γ locals s sd) u.plain u.near) e

  -- the statements recorded lead to it
  pub led : carries_at Γ r.1 E ≡ done r.0
  led = good_at (projection_carry Γ q E (used_limits (length locals) q ok).plain) e

  -- what they are
  pub are : r.1 ≡ map (numbered q.local) (recording Γ q.place (pick q.local E))
  are = good_at (projection_recording Γ q E) e

  -- and what a record keeps of them leads there too
  pub kept : map forget r.1 ≡ map forget (map (numbered q.local) (recording Γ q.place (pick q.local E)))
  kept = ap (map forget) are

  pub led_kept : carries_at Γ (map forget r.1) E ≡ done r.0
  led_kept = carries_forget Γ r.1 E ∙ led

  -- a statement of the place's first elements, carried out by the call
  pub carried : (w : Verb) (os as' : List ℕ) (t : Spot) → spot_of os as' ≡ some t → statement_ok Γ locals w t ≡ true
      → carry_at Γ (statement_at Γ locals w t) E ≡ done r.0 → call_carry Γ locals w s os as' ≡ done (encode Γ r.0)
  unfolding call_carry typed taken placed fitting
  carried w os as' t td k c = cc (p.types, p.typed, sd, td, k, c, le-leb (sizes r.0) most after.small)

module _ (Γ locals : List ℕ) (s : State) (ops args : List ℕ) where
  -- of what is recorded, a number and a state
  abbrev pub Promise : Recorded × ℕ × State → Type 0
  Promise r = UsePromise Γ locals s ops args r.0 r.1 r.2
