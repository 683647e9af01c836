-- What a run leaves in the two store arrays: the shares of all join points in block order, and zeros behind them.
use mathlib.Core.Path.{◌≡◌, refl, sym, ap, ◌∙◌}
use mathlib.Core.Bool.{true}
use mathlib.Core.List.{List, [], ◌∷◌, ◌++◌, append_assoc, append-nil}
use mathlib.Core.Option.{Option, none, some}
use Prim.Native.Nat.{ℕ, zero, suc, ◌+◌, ◌*◌, ◌-◌, ◌≤◌, ◌<◌}
use native.Mathlib.Nat.{zero-add}
use native.Mathlib.Omega.{arith}
use lib.ListN.{length, take, drop, replicate, take-append-drop}
use lib.Seq.{length-take-le, take-add}
use Rattle.model.specs.Words.{word, count_below, collect_from}
use Rattle.model.specs.Tree.{Forest}
use Rattle.model.specs.State.{most}
use Rattle.model.specs.Function.{nblocks, local_types}
use Rattle.model.specs.Block.{is_join_point, join_points}
use Rattle.model.specs.Record.{lent}
use Rattle.model.specs.Whole.{share, joined, shares}
use Rattle.base.specs.Tests.{split}
use Rattle.base.specs.Below.{count_zero, count_pass, count_fail}
use Rattle.base.specs.Collected.{collect_zero, collect_back_pass, collect_back_fail}
use Rattle.blocks.specs.Points.{share_number}
use Rattle.arrival.specs.Memory.{Memory}
use Rattle.arrival.specs.Shares.{Arrays, Saved, Remembers, share_of}

-- joined lists of lists, one behind the other
joined_append : (a b : List (List ℕ)) → joined (a ++ b) ≡ joined a ++ joined b
unfolding joined
joined_append [] b = refl
joined_append (l ∷ a) b = rw (joined_append a b, append_assoc)

-- one list
joined_one : (l : List ℕ) → joined (l ∷ []) ≡ l
unfolding joined
joined_one l = append-nil l

-- what stands in front of a list, with zeros behind it
front_lent : (k : ℕ) (l s : List ℕ) → s ≡ take k l → k ≤ length l → drop k l ≡ replicate (length l - k) 0 → l ≡ lent (length l) s
unfolding lent
front_lent k l s e h z =
    sym (take-append-drop k l) ∙ ap (λ (r : List ℕ). take k l ++ r) z ∙ rw (e, length-take-le k l)

module _ (fn : List ℕ) (l : List ℕ) where
  -- the share of a join point stands behind those of the join points before it
  share_next : (n : ℕ) → is_join_point fn n ≡ true → share_of l (share_number fn n) ≡ take most (drop (most * count_below (is_join_point fn) n) l)
  unfolding share_of share_number
  share_next n e =
      let d : suc (count_below (is_join_point fn) n) - 1 ≡ count_below (is_join_point fn) n = omega arith in
      rw (e, d)

  module _ (f : ℕ → List ℕ) (at : (b : ℕ) → b < nblocks fn → is_join_point fn b ≡ true → share_of l (share_number fn b) ≡ f b) where
    -- the shares of the join points below n, in block order, stand in front
    joined_front : (n : ℕ) → n ≤ nblocks fn → joined (collect_from (is_join_point fn) f n 0) ≡ take (most * count_below (is_join_point fn) n) l
    unfolding joined
    joined_front zero h = rw (collect_zero, count_zero)
    joined_front (suc n) h =
        let p = is_join_point fn in
        let k = count_below (is_join_point fn) n in
        let z : 0 + n ≡ n = zero-add n in
        let ih = joined_front n (omega arith) in
        split (is_join_point fn n)
        (λ e. let w : most * count_below p (suc n) ≡ most * k + most = omega (arith, count_pass p n e) in
        let s : f (0 + n) ≡ take most (drop (most * k) l) = ap f z ∙ sym (at n h e) ∙ share_next n e in
        rw (collect_back_pass p f n 0 (ap p z ∙ e), joined_append, ih, joined_one, s, w, take-add))
        (λ e. rw (collect_back_fail p f n 0 (ap p z ∙ e), count_fail p n e) ih)

module _ (Γ locals fs ws : List ℕ) (k : ℕ) where
  -- the forms of a share
  saved_forms : (o : Option Forest) → Saved Γ locals fs ws k o → fs ≡ share Γ (λ s. s.forms) o
  unfolding share
  saved_forms none S = S.forms
  saved_forms (some E) S = S.forms

  -- its variants
  saved_whats : (o : Option Forest) → Saved Γ locals fs ws k o → ws ≡ share Γ (λ s. s.whats) o
  unfolding share
  saved_whats none S = S.whats
  saved_whats (some E) S = S.whats

module _ {Γ fn : List ℕ} {m : Memory} {a : Arrays} (R : Remembers Γ fn m a) where
  -- the forms
  pub stocked_forms : a.forms ≡ lent (length a.forms) (shares Γ fn (λ s. s.forms) m.kept)
  unfolding shares join_points
  stocked_forms = front_lent (most * join_points fn) a.forms _
      (joined_front fn a.forms (λ b. share Γ (λ s. s.forms) (m.kept b)) (λ b l e. saved_forms Γ (local_types fn) _ _ (word a.kept b) (m.kept b) (R.saved b l e)) (nblocks fn) (omega arith))
      R.long.forms R.forms_rest

  -- the variants
  pub stocked_whats : a.whats ≡ lent (length a.whats) (shares Γ fn (λ s. s.whats) m.kept)
  unfolding shares join_points
  stocked_whats = front_lent (most * join_points fn) a.whats _
      (joined_front fn a.whats (λ b. share Γ (λ s. s.whats) (m.kept b)) (λ b l e. saved_whats Γ (local_types fn) _ _ (word a.kept b) (m.kept b) (R.saved b l e)) (nblocks fn) (omega arith))
      R.long.whats R.whats_rest
