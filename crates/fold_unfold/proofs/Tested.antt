-- What the tests before the passes say to the call that model defines: it goes on, or is refused.
use mathlib.Core.Path.{◌≡◌}
use mathlib.Core.Bool.{true, false, cond}
use mathlib.Core.List.{List}
use Prim.Native.Nat.{ℕ, ◌*◌, ◌≤◌, ◌<◌}
use Rattle.std.specs.Prelude.{Ok, Err}
use native.Mathlib.Omega.{arith}
use lib.Dec.{leb}
use borrow.Author.Tests.{leb-true, leb-false, le-leb, lt-leb}
use Rattle.model.specs.Types.{types_ok}
use Rattle.model.specs.State.{most}
use Rattle.model.specs.Function.{nblocks, function_ok}
use Rattle.model.specs.Block.{places_ok, is_join_point, join_points}
use Rattle.model.specs.Answer.{refused}
use Rattle.model.specs.Whole.{ghost_statements}
use Rattle.base.specs.Tests.{clash, cond_split, and_left, and_right}
use Rattle.base.specs.Below.{count_most}
use Rattle.refusal.specs.Refusal.{number}
use Rattle.refusal.specs.declared.Refusal.{Refusal}
use Rattle.refusal.specs.declared.Refusal.TheVariants.{BadFunction, BadPlace, ShortStore}
use Rattle.mir.specs.Sizes.{Laid, Formed}
use Rattle.mir.proofs.Sizes.{sizes_laid}
use Rattle.arrival.specs.Shares.{Shared}
use Rattle.fold_unfold.specs.Answers.{Checked}

-- a function record that passes refusal 2 is formed
pub function_formed : (Γ fn : List ℕ) → function_ok Γ fn ≡ true → Formed fn
unfolding function_ok
function_formed Γ fn e = record {
  laid = sizes_laid fn (search (and_left, and_right));
  starts = search (and_left, and_right);
  ranks = search (and_left, and_right);
  items = search (and_left, and_right);
}

-- there are at most 256 join points
pub few_joins : {fn : List ℕ} → Laid fn → join_points fn ≤ 256
unfolding join_points
few_joins {fn} L = omega (arith, count_most (is_join_point fn) (nblocks fn), L.most_blocks)

-- THE SHORTER OF TWO LENGTHS

-- it is long enough where both are
both_shorter : (k m n : ℕ) → k ≤ m → k ≤ n → leb k (cond (leb m n) m n) ≡ true
both_shorter k m n h l = cond_split (λ s. leb k s ≡ true) (leb m n) (λ e. le-leb k m h) (λ e. le-leb k n l)

-- and too short where the first is
first_shorter : (k m n : ℕ) → m < k → leb k (cond (leb m n) m n) ≡ false
first_shorter k m n h =
    cond_split (λ s. leb k s ≡ false) (leb m n) (λ e. lt-leb k m h) (λ e. lt-leb k n (omega (arith, leb-false m n e)))

-- or the second is
second_shorter : (k m n : ℕ) → n < k → leb k (cond (leb m n) m n) ≡ false
second_shorter k m n h =
    cond_split (λ s. leb k s ≡ false) (leb m n) (λ e. lt-leb k m (omega (arith, leb-true m n e))) (λ e. lt-leb k n h)

-- THE TESTS IN ORDER

module _ {Γ fn : List ℕ} {nforms nwhats : ℕ} {points : List ℕ} where
  -- one of them refuses
  denied_by : {k : Refusal} → ghost_statements Γ fn (cond (leb nforms nwhats) nforms nwhats) ≡ refused (number k) → Checked Γ fn nforms nwhats points (Err k)
  denied_by {k} g = record {
    denied = λ e q. let z : k ≡ e = cc in rw z at g;
    passed = λ z. clash (cc);
    clear = λ z. clash (cc);
  }

  -- the function record does not pass
  pub denied_function : types_ok Γ ≡ true → function_ok Γ fn ≡ false → Checked Γ fn nforms nwhats points (Err BadFunction)
  unfolding ghost_statements
  denied_function t e = denied_by (cc)

  -- a place does not
  pub denied_places : types_ok Γ ≡ true → function_ok Γ fn ≡ true → places_ok fn ≡ false → Checked Γ fn nforms nwhats points (Err BadPlace)
  unfolding ghost_statements
  denied_places t f e = denied_by (cc)

  module _ (t : types_ok Γ ≡ true) (f : function_ok Γ fn ≡ true) (p : places_ok fn ≡ true) where
    -- the store is too short
    denied_store : leb (most * join_points fn) (cond (leb nforms nwhats) nforms nwhats) ≡ false → Checked Γ fn nforms nwhats points (Err ShortStore)
    unfolding ghost_statements
    denied_store e = denied_by (cc)

    -- its first array is
    pub denied_forms : nforms < most * join_points fn → Checked Γ fn nforms nwhats points (Err ShortStore)
    denied_forms h = denied_store (first_shorter (most * join_points fn) nforms nwhats h)

    -- its second array is
    pub denied_whats : nwhats < most * join_points fn → Checked Γ fn nforms nwhats points (Err ShortStore)
    denied_whats h = denied_store (second_shorter (most * join_points fn) nforms nwhats h)

    -- all pass
    pub all_pass : Formed fn → Shared fn points → most * join_points fn ≤ nforms → most * join_points fn ≤ nwhats → Checked Γ fn nforms nwhats points (Ok tt)
    unfolding ghost_statements
    all_pass L S h k =
        let e : leb (most * join_points fn) (cond (leb nforms nwhats) nforms nwhats) ≡ true =
        both_shorter (most * join_points fn) nforms nwhats h k in
        record {
          denied = λ e q. clash (cc);
          passed = λ z. cc;
          clear = λ z offs R. record { accepted = record { ready = R; function = f; formed = L; places = p }; shared = S; forms = h; whats = k };
        }
