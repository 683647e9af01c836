-- `statements::put_items` meets its contract. The loop's invariant: the first j items are put. Assumes nothing.
use mathlib.Core.Path.{◌≡◌, refl, ap}
use mathlib.Core.List.{List, [], ◌∷◌, ◌++◌}
use Prim.Native.Nat.{ℕ, zero, suc, ◌+◌, ◌<◌}
use native.Mathlib.Omega.{arith}
use native.Mathlib.Numerals.{add-one}
use lib.ListN.{length, get_or, take}
use Rattle.model.specs.State.{pairs}
use Rattle.model.specs.Record.{Entry}
use Rattle.statements.proofs.Puts.{puts_none, puts_then}
use Rattle.statements.proofs.put_items.Goals as goal

-- the first j pairs, and one more
pairs_suc : (j : ℕ) (a b : List ℕ) → j < length a → j < length b
    → pairs (take j a) (take j b) ++ ((get_or a j 0, get_or b j 0) ∷ []) ≡ pairs (take (suc j) a) (take (suc j) b)
unfolding pairs
pairs_suc j [] b h l = absurd (omega arith)
pairs_suc j (x ∷ a) [] h l = absurd (omega arith)
pairs_suc zero (x ∷ a) (y ∷ b) h l = refl
pairs_suc (suc j) (x ∷ a) (y ∷ b) h l = ap (λ (t : List Entry). (x, y) ∷ t) (pairs_suc j a b (omega arith) (omega arith))

pub loop-j-init : goal.loop-j-init
unfolding pairs
loop-j-init c = puts_none c.requires.counted

pub loop-j-preserved : goal.loop-j-preserved
loop-j-preserved c =
    let L = c.loop-j in
    let a = c.args in
    let more : pairs (take L.j a.ops.now) (take L.j a.args.now) ++ ((get_or a.ops.now L.j 0, get_or a.args.now L.j 0) ∷ [])
    ≡ pairs (take (L.j + 1) a.ops.now) (take (L.j + 1) a.args.now) =
    rw add-one (pairs_suc L.j a.ops.now a.args.now (omega arith) (omega arith)) in
    rw more at (puts_then L.invariant c.put-p.ensures)
