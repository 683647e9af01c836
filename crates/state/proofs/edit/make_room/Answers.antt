-- `state::edit::make_room` meets its contract: what its two calls leave is the splice. Assumes nothing.
use mathlib.Core.Path.{◌∙◌, ap}
use mathlib.Core.List.{List}
use Prim.Native.Nat.{ℕ, ◌+◌}
use native.Mathlib.Omega.{arith}
use Rattle.state.specs.Spliced.{cleared}
use Rattle.state.proofs.Moves.{room_made}
use Rattle.state.proofs.edit.make_room.Goals as goal

pub returns : goal.returns
returns c =
    let s = c.args in
    let pre = c.requires in
    c.clear.ensures
    ∙ ap (λ (l : List ℕ). cleared l s.i (s.i + s.gap)) c.copy_within.ensures.after
    ∙ room_made s.a.now s.n s.i s.gap (omega arith) (omega arith) (omega arith) pre.padded.0 pre.padded.1
