-- `text::split::function_start` meets its contract. Assumes nothing.
use mathlib.Core.Path.{◌≡◌, sym, ap, ◌∙◌}
use mathlib.Core.List.{List}
use Prim.Native.Nat.{ℕ, ◌≤◌, ◌<◌}
use native.Mathlib.Omega.{arith}
use Prim.Native.Nat.{min}
use lib.Dec.{ltb}
use lib.ListN.{length, take, drop, drop_of_length-le}
use lib.Seq.{take-length, take_all, drop-length}
use borrow.Author.Tests.{ltb-true, ltb-false}
use Rattle.base.specs.Tests.{split}
use Rattle.model.specs.Types.{types_length}
use Rattle.model.specs.Ghosts.{function_words}
use Rattle.text.specs.Parted.{Parted}
use Rattle.text.proofs.split.function_start.Goals as goal

-- the type record ends before the words do
parted : (ws : List ℕ) (r : ℕ) → r ≡ types_length ws → r < length ws → Parted ws r
unfolding function_words
parted ws r e l =
    record { within = omega arith; types = ap (λ (n : ℕ). take n ws) e; function = ap (λ (n : ℕ). drop n ws) e }

-- the words end before the type record does
whole : (ws : List ℕ) → length ws ≤ types_length ws → Parted ws (length ws)
unfolding function_words
whole ws l =
    record {
      within = omega arith;
      types = take-length ws ∙ sym (take_all (types_length ws) ws l);
      function = drop-length ws ∙ sym (drop_of_length-le ws l);
    }

start : (ws : List ℕ) (t : ℕ) → t ≡ types_length ws → Parted ws (min t (length ws))
start ws t e =
    split (ltb t (length ws))
    (λ b. let l = ltb-true t (length ws) b in let m : min t (length ws) ≡ t = omega arith in rw m (parted ws t e l))
    (λ b. let l = ltb-false t (length ws) b in let m : min t (length ws) ≡ length ws = omega arith in rw m (whole ws (omega arith)))

pub returns : goal.returns
returns c = rw c.min.ensures (start _ _ c.types_length.ensures)
