-- A buffer whose words move or are cleared when its record is finished.
use Rattle.std.specs.Prelude.{List, ◌++◌, ℕ, ◌+◌, ◌-◌, ◌≤◌, length, take, drop, replicate}
use Rattle.std.proofs.Math.Seq.{paste}

-- e args stand behind r ops, and there are no more than ops
abbrev pub Closable : List ℕ → ℕ → ℕ → Type 0
Closable out r e = (e ≤ r) × (2 + r + e ≤ length out)

-- e args from the middle, behind r ops, stand behind the first e ops
unfoldable pub closed : List ℕ → ℕ → ℕ → List ℕ
closed out r e = paste out (2 + e) (drop (2 + r) out) e

-- zeros from a word on
unfoldable pub cleared : List ℕ → ℕ → List ℕ
cleared out from = take from out ++ replicate (length out - from) 0
