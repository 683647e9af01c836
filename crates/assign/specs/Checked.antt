-- The tests of a list, as the code makes them one by one.
use Rattle.std.specs.Prelude.{Bool, true, false, cond, not, ◌&&◌, List, ℕ, zero, suc, Option, Some, None, length, eqb, ltb, leb}
use Rattle.model.specs.Answer.{Answer, refused, done}
use Rattle.model.specs.Assign.{Assign, operand_ok, flag_ok, count_ok, wants_place, all_known, statements_of}
use Rattle.assign.specs.Words.{operand_at, operand_end}

-- the end of an operand that is a constant or a place; none where it is cut off, or neither
unfoldable pub place_end : List ℕ → ℕ → Option ℕ
place_end ws at = cond (leb (operand_end ws at) (length ws) && operand_ok (operand_at ws at)) (Some (operand_end ws at)) None

-- of k operands
unfoldable pub places_end : List ℕ → ℕ → ℕ → Option ℕ
places_end ws zero at = Some at
places_end ws (suc k) at = elim (ltb at (length ws)) [
  | true ↦ elim (place_end ws at) [ None ↦ None | Some e ↦ places_end ws k e ]
  | false ↦ None
]

-- model's answer
abbrev pub is_read : Answer (List Assign) → Bool
is_read (refused r) = false
is_read (done ss) = true

-- the list passes 2
abbrev pub list_ok : List ℕ → Bool
list_ok ws = is_read (statements_of ws)

-- a statement by its kind, its flag and its operand count, and how many items the first operand and the destination have
unfoldable pub words_known : ℕ → ℕ → ℕ → ℕ → ℕ → Bool
words_known k f n first last = leb k 8 && flag_ok k f && count_ok k n && not (wants_place k && eqb first 0) && not (eqb last 0)

-- and 11
abbrev pub known_in : Answer (List Assign) → Bool
known_in (refused r) = false
known_in (done ss) = all_known ss
