-- Joined, continued from specs/Joined: theorems that rest on others.
use Rattle.std.specs.Prelude.{◌≡◌, List, ℕ, ◌≤◌}
use Rattle.std.proofs.Common.{◌∙◌}
use Rattle.std.proofs.Math.Bool.{false}
use Rattle.std.proofs.Math.Option.{some}
use Rattle.model.specs.Tree.{Forest, sizes, joins, flagss}
use Rattle.model.specs.State.{State, most, encode, decode}
use Rattle.model.specs.Calls.{call_join}
use Rattle.model.specs.Promised.{JoinPromise}
use Rattle.base.specs.Answer.{Good, good_done, good_bind}
use Rattle.base.specs.Order.{above_first, above_second}
use Rattle.laws.specs.Join.{joins_self}
use Rattle.laws.specs.Order.{states}
use Rattle.laws.specs.Flags.{flags1_changed, flags2_changed, flagss_still}
use Rattle.laws.specs.Source.{firsts_joins, seconds_joins, modifieds_flagss}
use Rattle.laws.specs.Projection.{fitting_law}
use Rattle.calls.specs.Tested.{Passing, good_typed, good_taken, decode_valid}
use Rattle.calls.specs.Joined.{J, Promise, given, given_again, given_exact, given_is}

module _ (Γ locals : List ℕ) (p : Passing Γ locals) (s e : State) {S E : Forest} (sd : decode Γ locals s ≡ some S) (ed : decode Γ locals e ≡ some E)
    (room : sizes (joins Γ false S E) ≤ most) where
  -- all of it
  pub joined : JoinPromise Γ locals s e (flagss Γ false S E).0 (encode Γ (J Γ locals p s e sd ed room))
  joined =
      let f = (decode_valid Γ locals s sd).fits in
      let g = (decode_valid Γ locals e ed).fits in
      let h = (given Γ locals p s e sd ed room).fits in
      let one : _ = firsts_joins false f g in
      let two : _ = seconds_joins false f g in
      let m : _ = modifieds_flagss false f g in
      record {
        first = S;
        second = E;
        one = J Γ locals p s e sd ed room;
        first_is = sd;
        second_is = ed;
        one_is = given_is Γ locals p s e sd ed room;
        above_first = above_first (states Γ false locals) f g;
        above_second = above_second (states Γ false locals) f g;
        again = given_again Γ locals p s e sd ed room;
        exact = given_exact Γ locals p s e sd ed room;
        first_ends = one;
        second_ends = two;
        first_flag = rw (m, one) (flags1_changed false f g);
        second_flag = rw (m, two) (flags2_changed false f g);
        flag_is = cc (m);
        still_first = firsts_joins false h h ∙ joins_self Γ false (J Γ locals p s e sd ed room);
        still_second = seconds_joins false h h ∙ joins_self Γ false (J Γ locals p s e sd ed room);
        still_flags = modifieds_flagss false h h ∙ flagss_still false f g;
      }

module _ (Γ locals : List ℕ) (s e : State) where
  -- what the call `join` promises of the flag and the state that it gives
  pub call_joined : Good (Promise Γ locals s e) (call_join Γ locals s e)
  unfolding call_join
  call_joined =
      good_typed (Promise Γ locals s e) Γ locals _ (λ p. good_taken (Promise Γ locals s e) Γ locals s _ (λ S sd. good_taken (Promise Γ locals s e) Γ locals e _ (λ E ed.
      good_bind (fitting_law Γ (joins Γ false S E)) (λ D k. good_done (rw k.0 (joined Γ locals p s e sd ed (rw k.0 at k.1)))))))
