-- `mir::check_function::starts_ok` meets its contract. The loop has tested every block below b. Assumes nothing.
use mathlib.Core.Path.{◌≡◌}
use mathlib.Core.Bool.{Bool, true, ◌&&◌}
use mathlib.Core.List.{List}
use Prim.Native.Nat.{ℕ}
use lib.Dec.{ltb}
use Rattle.model.specs.Words.{all}
use Rattle.model.specs.Function.{nitems, start, stop}
use Rattle.mir.proofs.check_function.starts_ok.Given as goal

-- a block's items begin before they end, and inside the record
abbrev pub placed : List ℕ → ℕ → Bool
placed fn b = ltb (start fn b) (stop fn b) && ltb (start fn b) (nitems fn)

abbrev pub invariant-loop-b : goal.invariant-loop-b
invariant-loop-b l = all (placed l.fun.words.now) l.b ≡ true
