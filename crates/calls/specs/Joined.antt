-- Demand 2 of the call `join`: what holds of the state and the flag that it gives.
use Rattle.std.specs.Prelude.{◌≡◌, ◌↔◌, ◌≢◌, Bool, true, List, ℕ, ◌≤◌}
use Rattle.std.proofs.Math.Bool.{false}
use Rattle.std.proofs.Math.Option.{some}
use borrow.Author.Tests.{le-leb}
use Rattle.model.specs.Answer.{done}
use Rattle.model.specs.Tree.{Forest, sizes, joins, flagss}
use Rattle.model.specs.State.{State, most, encode, decode}
use Rattle.model.specs.Walk.{fitting}
use Rattle.model.specs.Calls.{typed, taken, call_join}
use Rattle.model.specs.Promised.{JoinPromise}
use Rattle.base.specs.Order.{above_second}
use Rattle.laws.specs.Order.{states}
use Rattle.laws.specs.Flags.{flags1_changed, flags1_again}
use Rattle.laws.specs.Valid.{Valid, joins_valid}
use Rattle.records.specs.Encode.{encode_decode}
use Rattle.calls.specs.Tested.{Passing, decode_valid, valid_decode}

module _ (Γ locals : List ℕ) (p : Passing Γ locals) (s e : State) {S E : Forest} (sd : decode Γ locals s ≡ some S) (ed : decode Γ locals e ≡ some E)
    (room : sizes (joins Γ false S E) ≤ most) where
  -- what is given
  abbrev pub J : Forest
  J = joins Γ false S E

  -- it is a state of a run
  pub given : Valid Γ locals J
  given = joins_valid (decode_valid Γ locals s sd) (decode_valid Γ locals e ed) room

  -- and is read back
  pub given_is : decode Γ locals (encode Γ J) ≡ some J
  given_is = valid_decode Γ locals p.types given

  -- with the second once more
  pub given_again : call_join Γ locals (encode Γ J) e ≡ done (false, encode Γ J)
  unfolding call_join typed taken fitting
  given_again =
      let f = (decode_valid Γ locals s sd).fits in
      let g = (decode_valid Γ locals e ed).fits in
      cc (p.types, p.typed, given_is, ed, above_second (states Γ false locals) f g, flags1_again false f g, le-leb (sizes J) most room)

  -- the flag
  pub given_exact : ((flagss Γ false S E).0 ≡ true) ↔ (encode Γ J ≢ s)
  given_exact =
      let c = flags1_changed false (decode_valid Γ locals s sd).fits (decode_valid Γ locals e ed).fits in (
        λ t d. c.0 t (let z : decode Γ locals (encode Γ J) ≡ some S = rw d sd in cc (given_is)),
        λ d. c.1 (λ j. d (rw j (encode_decode Γ locals s S sd))),
      )

module _ (Γ locals : List ℕ) (s e : State) where
  -- of a flag and a state
  abbrev pub Promise : Bool × State → Type 0
  Promise r = JoinPromise Γ locals s e r.0 r.1
