-- The point of an item or of the entry, and lines recorded at their points.
use Rattle.std.specs.Prelude.{◌≡◌, Bool, true, false, cond, List, ℕ, ◌≤◌, ◌<◌, length}
use Rattle.model.specs.Place.{At}
use Rattle.model.specs.Function.{nitems}
use Rattle.model.specs.Block.{entry_point}
use Rattle.model.specs.Frame.{Line}
use Rattle.model.specs.Record.{Entry, point_entry}
use Rattle.statements.specs.Kept.{Alike, Puts}
use Rattle.statements.specs.Marked.{marked}
use Rattle.statements.specs.declared.Out.{Out}
use Rattle.statements.specs.declared.Point.{Point}

-- POINTS

-- the point of item i, or the entry's
unfoldable pub point : List ℕ → Bool → ℕ → ℕ
point fn entry i = cond entry (entry_point fn) i

-- p is that point, in every function that has the item
abbrev pub Points : ℕ → Bool → Point → Type 0
Points i entry p = (fn : List ℕ) → nitems fn ≤ 16384 → i < nitems fn → (p.op, p.arg) ≡ point_entry (entry_point fn) (point fn entry i)

-- WHAT IS RECORDED

-- a statement of these entries is recorded behind what was, if the pass records; else nothing is
pub record Says (out : List ℕ) (o : Out) (out' : List ℕ) (o' : Out) (es : List Entry) : Type 0 where
  pub told : o.recording ≡ true → Puts 1 out o out' o' es
  pub silent : o.recording ≡ false → (out' ≡ out) × Alike o o'

-- lines are, with their marks; the point may be another then
pub record Tells (fn : List ℕ) (out : List ℕ) (o : Out) (out' : List ℕ) (o' : Out) (ls : List (Line At)) : Type 0 where
  pub told : o.recording ≡ true → Puts (length ls) out o out' o' (marked (entry_point fn) ls)
  pub silent : o.recording ≡ false → (out' ≡ out) × Alike o o'
