-- With which numbers a list of statements is refused: to read it, with 2 alone.
use mathlib.Core.Path.{refl}
use mathlib.Core.Bool.{◌&&◌}
use mathlib.Core.List.{List, [], ◌∷◌}
use Prim.Native.Nat.{ℕ, zero, suc, ◌+◌, ◌*◌}
use lib.ListN.{length}
use lib.Dec.{leb}
use Rattle.model.specs.Answer.{done}
use Rattle.model.specs.Rounds.{elem}
use Rattle.model.specs.Promised.{statement_numbers}
use Rattle.model.specs.Assign.{read_items, read_operand, read_operands, read_assign, read_list, places, items_in, operands_ok, all_known, given, statements_of, statement_items}
use Rattle.base.specs.Only.{Only, only_refused, only_done, only_bind, only_require, only_more}

abbrev two : List ℕ
two = 2 ∷ []

items_refusals : (n : ℕ) (ws : List ℕ) → Only two (read_items n ws)
unfolding read_items elem
items_refusals zero ws = only_done
items_refusals (suc n) [] = only_refused refl
items_refusals (suc n) (o ∷ []) = only_refused refl
items_refusals (suc n) (o ∷ a ∷ ws) = only_bind (items_refusals n ws) (λ r. only_done)

operand_refusals : (ws : List ℕ) → Only two (read_operand ws)
unfolding read_operand elem
operand_refusals [] = only_refused refl
operand_refusals (n ∷ ws) = items_refusals n ws

operands_refusals : (k : ℕ) (ws : List ℕ) → Only two (read_operands k ws)
unfolding read_operands
operands_refusals zero ws = only_done
operands_refusals (suc k) ws = only_bind (operand_refusals ws) (λ p. only_bind (operands_refusals k p.1) (λ r. only_done))

assign_refusals : (ws : List ℕ) → Only two (read_assign ws)
unfolding read_assign elem
assign_refusals [] = only_refused refl
assign_refusals (k ∷ []) = only_refused refl
assign_refusals (k ∷ f ∷ []) = only_refused refl
assign_refusals (k ∷ f ∷ n ∷ ws) = only_bind (operands_refusals n ws) (λ r. only_bind (operand_refusals r.1) (λ d. only_done))

list_refusals : (n : ℕ) (ws : List ℕ) → Only two (read_list n ws)
unfolding read_list elem
list_refusals zero [] = only_done
list_refusals zero (w ∷ ws) = only_refused refl
list_refusals (suc n) [] = only_done
list_refusals (suc n) (w ∷ ws) = only_bind (assign_refusals (w ∷ ws)) (λ r. only_bind (list_refusals n r.1) (λ ss. only_done))

pub reading_refusals : (ws : List ℕ) → Only two (statements_of ws)
unfolding statements_of elem
reading_refusals ws = only_bind (list_refusals (length ws) ws) (λ ss.
    only_require two (leb (items_in (places ss)) 16384 && operands_ok (places ss)) 2 (λ _. done ss) refl (λ e. only_done))

-- and the call
pub statement_refusals : (ws : List ℕ) (n : ℕ) → Only statement_numbers (statement_items ws n)
unfolding statement_items elem
statement_refusals ws n = only_bind (only_more refl (reading_refusals ws)) (λ ss.
    only_require statement_numbers (all_known ss) 11 _ refl (λ e.
    only_require statement_numbers (leb (1 + 2 * length (given ss)) n) 10 _ refl (λ d. only_done)))
