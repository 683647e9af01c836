-- What the functions answer that try an arm, or the otherwise target, or leave by one, from what their calls ensure.
use mathlib.Core.Path.{◌≡◌, refl, sym, ap, ◌∙◌}
use mathlib.Core.Logic.{◌≢◌}
use mathlib.Core.List.{List}
use mathlib.Core.Option.{none, some}
use Rattle.std.specs.Prelude.{Some, Result, Ok, Err}
use Prim.Native.Nat.{ℕ, ◌-◌, ◌<◌}
use native.Mathlib.Omega.{arith}
use borrow.Author.Tests.{ne_eqb}
use lib.Dec.{eqb}
use lib.ListN.{length, set}
use Rattle.model.specs.Words.{word}
use Rattle.model.specs.Answer.{refused, done}
use Rattle.model.specs.Types.{ntypes}
use Rattle.model.specs.Tree.{Forest}
use Rattle.model.specs.Walk.{downcasting}
use Rattle.model.specs.Function.{arg}
use Rattle.model.specs.Block.{spot_before, is_arm, arm_value}
use Rattle.model.specs.Body.{variants, variant_of, open_variant}
use Rattle.base.specs.Answer.{then_done}
use Rattle.base.specs.Tests.{split, clash}
use Rattle.base.specs.Typed.{Typed}
use Rattle.env.specs.Answers.{granted}
use Rattle.refusal.specs.Refusal.{number, answered}
use Rattle.refusal.specs.declared.Refusal.{Refusal}
use Rattle.refusal.specs.declared.Refusal.TheVariants.{NoSuchValue}
use Rattle.body.specs.declared.arms.Subject.{Subject}
use Rattle.body.specs.declared.arms.Rest.{Rest}
use Rattle.body.specs.declared.arms.Match.{Match}
use Rattle.body.specs.Arms.{rest, opens, leaves_by}
use Rattle.body.specs.Tries.{free, Rested, arm, Tried, Ended}
use Rattle.body.proofs.Answered.{same_refused}
use Rattle.body.proofs.Variants.{variant_below, free_kept, free_without, count_few}

-- AN ARM

-- its value, as the code reads it
pub value_is : (fn : List ℕ) (i : ℕ) {x : ℕ} → x ≡ arg fn (i - 1) → x ≡ arm_value fn i
unfolding arm_value
value_is fn i z = z

module _ {Γ fn : List ℕ} {m : Subject} {i : ℕ} {E : Forest} {taken : List ℕ} where
  -- its variant is not left
  pub tried_lost : (taken' : List ℕ) → variant_of (arm_value fn i) (free Γ m.typ taken) ≡ none → Tried Γ fn m i E taken taken' (Err NoSuchValue)
  unfolding arm
  tried_lost taken' e = record { denied = λ f d. let z : NoSuchValue ≡ f = cc in rw (← z) (cc); fine = λ d. clash (cc) }

  -- its variant is left, and tried
  pub tried_left : {v : ℕ} → v < length taken → variant_of (arm_value fn i) (variants Γ m.typ) ≡ some v → word taken v ≡ 0
      → (r : Result (Unit {0}) Refusal) → answered r ≡ granted (downcasting Γ (spot_before fn m.read) v E) → Tried Γ fn m i E taken (set taken v 1) r
  unfolding arm
  tried_left {v} l k z r e =
      let f = free_kept Γ m.typ taken (arm_value fn i) k z in
      record {
        denied = λ n d. let y = same_refused (downcasting Γ (spot_before fn m.read) v E) _ {n = number n} (sym (ap answered d) ∙ e) in cc;
        fine = λ d.
            let (D, y, _) = then_done (downcasting Γ (spot_before fn m.read) v E) (sym e ∙ ap answered d) in
            record { variant = v; known = k; left = f; state = D; opens = y; remain = free_without Γ m.typ taken (arm_value fn i) k l z };
      }

-- THE OTHERWISE TARGET

-- one variant is left
rest_one : (w : Rest) → w.left ≡ 1 → rest w ≡ some w.other
unfolding rest
rest_one w e = cc

-- none, or several
rest_none : (w : Rest) → w.left ≢ 1 → rest w ≡ none
unfolding rest
rest_none w d = cc (ne_eqb w.left 1 d)

module _ {Γ fn : List ℕ} {m : Subject} {E : Forest} {taken : List ℕ} {w : Rest} (R : Rested Γ m.typ taken w) where
  -- it opens none
  pub ended_none : w.left ≢ 1 → Ended Γ fn m E taken (Ok w)
  unfolding open_variant
  ended_none d = let z = rest_none w d in record { denied = λ n f. clash (cc (R.is)); fine = λ D f. (w, refl, R.is) }

  module _ (z : w.left ≡ 1) where
    -- it opens the one that is left
    pub ended_fine : done tt ≡ granted (downcasting Γ (spot_before fn m.read) w.other E) → Ended Γ fn m E taken (Ok w)
    unfolding open_variant
    ended_fine d =
        let y = rest_one w z in
        let (D, v, _) = then_done (downcasting Γ (spot_before fn m.read) w.other E) (sym d) in
        record { denied = λ n f. clash (cc (R.is)); fine = λ D f. (w, refl, R.is) }

    -- which is refused
    pub ended_denied : {e : Refusal} → refused (number e) ≡ granted (downcasting Γ (spot_before fn m.read) w.other E) → Ended Γ fn m E taken (Err e)
    unfolding open_variant
    ended_denied {e} d =
        let y = rest_one w z in
        let v = same_refused (downcasting Γ (spot_before fn m.read) w.other E) _ {n = number e} d in
        record { denied = λ k f. cc (R.is); fine = λ D f. clash (cc (R.is)) }

-- LEAVING BY A TARGET

module _ (Γ fn : List ℕ) (t : ℕ) (w : Rest) (i : ℕ) where
  -- the variant that a target opens has a small number
  pub opens_small : Typed Γ → t < ntypes Γ → w.other < 4294967296 → {v : ℕ} → opens Γ fn t w i ≡ some v → v < 4294967296
  unfolding opens rest
  opens_small T k s {v} e =
      split (is_arm fn i)
      (λ a. omega (arith, variant_below Γ t (arm_value fn i) {v = v} (cc), count_few T k))
      (λ a. split (eqb w.left 1) (λ d. let q : w.other ≡ v = cc in omega arith) (λ d. clash (cc)))

module _ (Γ fn : List ℕ) (m : Match) (i : ℕ) (E D : Forest) (e : leaves_by Γ fn (Some m) i E ≡ done D) where
  -- a target that opens none leaves the state as it is
  pub leaves_same : opens Γ fn m.on.typ m.rest i ≡ none → E ≡ D
  unfolding open_variant
  leaves_same k = cc

  -- the others open their variant
  pub leaves_open : {v : ℕ} → opens Γ fn m.on.typ m.rest i ≡ some v → downcasting Γ (spot_before fn m.on.read) v E ≡ done D
  unfolding open_variant
  leaves_open k = cc
