-- A list of statements by the words in which it stands: what an operand, operands, a statement are that begin at a word, and where
-- they end. Past the end of the list words are 0, so these need not lie inside it.
use Rattle.std.specs.Prelude.{◌≡◌, List, [], ◌∷◌, ℕ, zero, suc, ◌+◌, ◌*◌, ◌≤◌, length}
use Rattle.model.specs.Words.{word}
use Rattle.model.specs.Assign.{Operand, Assign}

-- n items, as op, arg pairs
unfoldable pub items_at : List ℕ → ℕ → ℕ → Operand
items_at ws at zero = []
items_at ws at (suc n) = (word ws at, word ws (suc at)) ∷ items_at ws (suc (suc at)) n

-- an operand: its number of items, and those
abbrev pub operand_at : List ℕ → ℕ → Operand
operand_at ws at = items_at ws (suc at) (word ws at)

abbrev pub operand_end : List ℕ → ℕ → ℕ
operand_end ws at = suc at + 2 * word ws at

-- k operands
unfoldable pub operands_at : List ℕ → ℕ → ℕ → List Operand
operands_at ws zero at = []
operands_at ws (suc k) at = operand_at ws at ∷ operands_at ws k (operand_end ws at)

unfoldable pub operands_end : List ℕ → ℕ → ℕ → ℕ
operands_end ws zero at = at
operands_end ws (suc k) at = operands_end ws k (operand_end ws at)

-- a statement: kind, flag, operand count, the operands, the destination
abbrev pub destination_at : List ℕ → ℕ → ℕ
destination_at ws at = operands_end ws (word ws (suc (suc at))) (suc (suc (suc at)))

abbrev pub assign_at : List ℕ → ℕ → Assign
assign_at ws at = record {
  kind = word ws at;
  flag = word ws (suc at);
  operands = operands_at ws (word ws (suc (suc at))) (suc (suc (suc at)));
  destination = operand_at ws (destination_at ws at);
}

abbrev pub assign_end : List ℕ → ℕ → ℕ
assign_end ws at = operand_end ws (destination_at ws at)

-- these statements stand from a word on, and end with the list
pub data Ahead (ws : List ℕ) : ℕ → List Assign → Type 0 where
  ahead_none : {at : ℕ} → at ≡ length ws → Ahead ws at []
  ahead_more : {at : ℕ} {ss : List Assign} → assign_end ws at ≤ length ws → Ahead ws (assign_end ws at) ss → Ahead ws at (assign_at ws at ∷ ss)
