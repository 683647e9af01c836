-- Statements that a collector records at one point are model's lines there, which bear no mark. Assumes nothing.
use mathlib.Core.Path.{◌≡◌, sym, ap, ◌∙◌}
use mathlib.Core.List.{List}
use Prim.Native.Nat.{ℕ}
use Rattle.model.specs.Place.{At}
use Rattle.model.specs.Frame.{mark}
use Rattle.model.specs.Record.{Entry, point_entry}
use Rattle.base.specs.Each.{Each}
use Rattle.laws.specs.Lifted.{Dashed}
use Rattle.solver.specs.Lines.{each_marked}
use Rattle.statements.specs.Marked.{marked}
use Rattle.statements.proofs.Marks.{marked_dashed}
use Rattle.collectors.specs.Trail.{lines_of, root}
use Rattle.collectors.proofs.Lines.{lines_mark}

-- what is recorded by the entry of that point
pub lines_at : {x : Entry} (entry p : ℕ) → x ≡ point_entry entry p → {ts : List At} → Each Dashed ts → lines_of x (root 0) ts ≡ marked entry (mark p ts)
lines_at entry p e {ts} h = ap (λ (y : Entry). lines_of y (root 0) ts) e ∙ sym (lines_mark entry p ts) ∙ sym (marked_dashed entry (each_marked p (λ t d. d) h))
