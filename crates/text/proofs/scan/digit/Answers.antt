-- `text::scan::digit` meets its contract. Assumes nothing.
use borrow.Author.Tests.{lt-ltb, le-ltb}
use mathlib.Core.Path.{◌≡◌, refl}
use mathlib.Core.Bool.{true}
use Prim.Native.Nat.{ℕ, ◌+◌, ◌*◌, ◌^◌, ◌≤◌, ◌<◌}
use native.Mathlib.Omega.{arith}
use Rattle.std.specs.Prelude.{Option, None, Some}
use Rattle.std.specs.Option.{unwrap_or}
use Rattle.model.specs.Ghosts as Model
use Rattle.model.specs.Ghosts.{digit}
use Rattle.text.specs.declared.scan.Scan.{Scan}
use Rattle.text.specs.Reading.{Held, StepsAside}
use Rattle.text.proofs.Stepped.{spoils, steps_as}
use Rattle.text.proofs.scan.digit.Goals as goal

module _ (d : ℕ) (m : Model.Scan) where
  -- a number from 2^32 on
  digit_much : 2 ^ 32 ≤ 10 * m.value + d → digit d m ≡ Model.spoilt
  unfolding digit
  digit_much h = rw (le-ltb (10 * m.value + d) (2 ^ 32) h, digit)

  -- one below
  digit_more : 10 * m.value + d < 2 ^ 32
      → digit d m ≡ record { words = m.words; total = m.total; inside = true; value = 10 * m.value + d; fine = m.fine }
  unfolding digit
  digit_more h = rw (lt-ltb (10 * m.value + d) (2 ^ 32) h, digit)

-- the value so far, 0 between words
so_far : (m : Model.Scan) (o : Option ℕ) {r : ℕ} → r ≡ unwrap_or o 0 → Held m o → m.value ≡ r
so_far m None e h = cc
so_far m (Some v) e h = cc

module _ (s : Scan) (d r : ℕ) (e : r ≡ unwrap_or s.value 0) where
  much : 2 ^ 32 ≤ 10 * r + d → StepsAside (digit d) (Some s) None
  much l words n = steps_as (λ m h. digit_much d m (omega (arith, so_far m s.value e h.at.value))) (spoils words n)

  more : (v : ℕ) → v ≡ 10 * r + d → v < 2 ^ 32 → StepsAside (digit d) (Some s) (Some (record { total = s.total; value = Some v }))
  more v f l words n =
      record {
        room = n;
        reads = λ m h.
            let g : m.value ≡ r = so_far m s.value e h.at.value in
            rw (digit_more d m (omega arith)) (record { room = n; at = record { total = h.at.total; value = (refl, omega arith); fine = h.at.fine; front = h.at.front } });
      }

pub returns-in_err-checked_mul : goal.returns-in_err-checked_mul
returns-in_err-checked_mul c = rw c.from_residual.ensures (much _ _ _ c.unwrap_or.ensures (omega (arith, c.in_err-checked_mul.ensures)))

pub returns-in_err-v : goal.returns-in_err-v
returns-in_err-v c = rw c.from_residual-in_err-v.ensures (much _ _ _ c.unwrap_or.ensures (omega (arith, c.in_ok-checked_mul.ensures, c.in_err-v.ensures)))

pub returns : goal.returns
returns c =
    let h = c.in_ok-v.ensures in
    more _ _ _ c.unwrap_or.ensures _ (omega (arith, c.in_ok-checked_mul.ensures, h)) (omega (arith, h))
