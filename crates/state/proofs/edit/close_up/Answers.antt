-- `state::edit::close_up` meets its contract: what its two calls and the last store leave is the splice. Assumes nothing.
use mathlib.Core.Path.{◌∙◌, ap}
use mathlib.Core.List.{List}
use Prim.Native.Nat.{ℕ, ◌+◌, ◌-◌}
use native.Mathlib.Omega.{arith}
use lib.ListN.{set}
use Rattle.state.specs.Spliced.{cleared}
use Rattle.state.proofs.Moves.{closed_up}
use Rattle.state.proofs.edit.close_up.Goals as goal

pub returns : goal.returns
returns c =
    let s = c.args in
    let pre = c.requires in
    ap (λ (l : List ℕ). set l s.i 0)
    (c.clear.ensures
    ∙ ap (λ (l : List ℕ). cleared l (s.i + 1 + (s.n - s.j)) s.n) c.copy_within.ensures.after)
    ∙ closed_up s.a.now s.n s.i s.j (omega arith) (omega arith) (omega arith) pre.padded.0 pre.padded.1
