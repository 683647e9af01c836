-- MIR statements as they are (document 02, F-2): a list of assignments, and the items that they give.
-- "In the list, no count ahead, each statement is kind, flag, operand count, the operands, the destination; an operand or destination is
-- its number of items and those items as op, arg pairs, and number 0 is a constant." Kinds, by `enum Rvalue` of mir.rs: 0 Use, 1 Repeat,
-- 2 Ref, 3 RawPtr, 4 Cast, 5 BinaryOp, 6 UnaryOp, 7 Discriminant, 8 Aggregate.
use Rattle.std.specs.Prelude.{Bool, true, false, cond, not, ◌&&◌, ◌||◌, List, [], ◌∷◌, ◌++◌, map, ℕ, zero, suc, ◌+◌, ◌*◌, length, replicate, eqb, leb}
use Rattle.std.proofs.Math.Option.{none, some}
use Rattle.model.specs.Answer.{Answer, refused, done, ◌>>=◌, require}
use Rattle.model.specs.Record.{Entry, lent}
use Rattle.model.specs.Calls.{spot_of}

-- an operand or a destination, by its items; no items: a constant
abbrev pub Operand : Type 0
Operand = List Entry

-- `StatementKind::Assign`
pub record Assign : Type 0 where
  pub kind : ℕ
  pub flag : ℕ
  pub operands : List Operand
  pub destination : Operand

-- READ: what is read, and the words behind it; 2 where the list is cut off

unfoldable pub read_items : ℕ → List ℕ → Answer (Operand × List ℕ)
read_items zero ws = done ([], ws)
read_items (suc n) [] = refused 2
read_items (suc n) (o ∷ []) = refused 2
read_items (suc n) (o ∷ a ∷ ws) = read_items n ws >>= λ r. done ((o, a) ∷ r.0, r.1)

unfoldable pub read_operand : List ℕ → Answer (Operand × List ℕ)
read_operand [] = refused 2
read_operand (n ∷ ws) = read_items n ws

unfoldable pub read_operands : ℕ → List ℕ → Answer (List Operand × List ℕ)
read_operands zero ws = done ([], ws)
read_operands (suc k) ws = read_operand ws >>= λ p. read_operands k p.1 >>= λ r. done (p.0 ∷ r.0, r.1)

unfoldable pub read_assign : List ℕ → Answer (Assign × List ℕ)
read_assign [] = refused 2
read_assign (k ∷ []) = refused 2
read_assign (k ∷ f ∷ []) = refused 2
read_assign (k ∷ f ∷ n ∷ ws) = read_operands n ws >>= λ r. read_operand r.1 >>= λ d.
    done (record { kind = k; flag = f; operands = r.0; destination = d.0 }, d.1)

-- all of the list, in at most n statements
unfoldable pub read_list : ℕ → List ℕ → Answer (List Assign)
read_list zero ws = elim ws [ [] ↦ done [] | w ∷ (l → m) ↦ refused 2 ]
read_list (suc n) ws = elim ws [
  | [] ↦ done []
  | w ∷ (l → m) ↦ read_assign (w ∷ l) >>= λ r. read_list n r.1 >>= λ ss. done (r.0 ∷ ss)
]

-- REFUSAL 2: "with over 16,384 items, or items that are no place"

-- all operands of all statements, each destination behind its operands
unfoldable pub places : List Assign → List Operand
places [] = []
places (a ∷ ss) = (a.operands ++ (a.destination ∷ [])) ++ places ss

unfoldable pub items_in : List Operand → ℕ
items_in [] = 0
items_in (p ∷ ps) = length p + items_in ps

-- a constant, or a place
unfoldable pub operand_ok : Operand → Bool
operand_ok [] = true
operand_ok (e ∷ es) = elim (spot_of (map (λ x. x.0) (e ∷ es)) (map (λ x. x.1) (e ∷ es))) [ none ↦ false | some q ↦ true ]

unfoldable pub operands_ok : List Operand → Bool
operands_ok [] = true
operands_ok (p ∷ ps) = operand_ok p && operands_ok ps

-- REFUSAL 11: "a kind above 8, a flag or operand count the kind doesn't have, or a constant as destination or in kinds 2, 3 and 7"

abbrev pub is_constant : Operand → Bool
is_constant [] = true
is_constant (e ∷ es) = false

-- "A flag word of 1 marks a fake borrow in kind 2 and `PtrMetadata` in kind 6; it is 0 elsewhere"
unfoldable pub flag_ok : ℕ → ℕ → Bool
flag_ok k f = eqb f 0 || (eqb f 1 && (eqb k 2 || eqb k 6))

-- one operand; two of a BinaryOp; any number of an Aggregate
unfoldable pub count_ok : ℕ → ℕ → Bool
count_ok k n = eqb k 8 || eqb n (cond (eqb k 5) 2 1)

-- kinds whose operand is a `Place` in the source, and no `Operand`
unfoldable pub wants_place : ℕ → Bool
wants_place k = eqb k 2 || eqb k 3 || eqb k 7

unfoldable pub constants_ok : ℕ → List Operand → Bool
constants_ok k [] = true
constants_ok k (p ∷ ps) = not (wants_place k && is_constant p) && constants_ok k ps

unfoldable pub known : Assign → Bool
known a = leb a.kind 8 && flag_ok a.kind a.flag && count_ok a.kind (length a.operands) && constants_ok a.kind a.operands
    && not (is_constant a.destination)

unfoldable pub all_known : List Assign → Bool
all_known [] = true
all_known (a ∷ ss) = known a && all_known ss

-- WHAT IT GIVES

-- a place, and what is done with it; "constants give none"
unfoldable pub acted : ℕ → Operand → List Entry
acted o [] = []
acted o (e ∷ es) = (e ∷ es) ++ ((o, 0) ∷ [])

-- `place.deref()`
unfoldable pub dereffed : Operand → Operand
dereffed [] = []
dereffed (e ∷ es) = (e ∷ es) ++ ((1, 0) ∷ [])

-- "a fake borrow gives only the destination, `PtrMetadata` uses the place's deref", "kind 7 gives read and note, the others use"
unfoldable pub operand_gives : ℕ → ℕ → Operand → List Entry
operand_gives k f p = cond (eqb k 2 && eqb f 1) [] (acted (cond (eqb k 7) 6 5) (cond (eqb k 6 && eqb f 1) (dereffed p) p))

unfoldable pub operands_give : ℕ → ℕ → List Operand → List Entry
operands_give k f [] = []
operands_give k f (p ∷ ps) = operand_gives k f p ++ operands_give k f ps

-- ONE RULE OF ORDER for all kinds: the operands as they stand, then the destination
unfoldable pub gives : Assign → List Entry
gives a = operands_give a.kind a.flag a.operands ++ acted (cond (eqb a.kind 7) 7 5) a.destination

unfoldable pub given : List Assign → List Entry
given [] = []
given (a ∷ ss) = gives a ++ given ss

-- THE CALL: 2, then 11, then "10 for a short item buffer is last"

-- a list that passes 2
unfoldable pub statements_of : List ℕ → Answer (List Assign)
statements_of ws = read_list (length ws) ws >>= λ ss. require (leb (items_in (places ss)) 16384 && operands_ok (places ss)) 2 λ _. done ss

-- n: the words of the buffer
unfoldable pub statement_items : List ℕ → ℕ → Answer (List Entry)
statement_items ws n = statements_of ws >>= λ ss. require (all_known ss) 11 λ _. require (leb (1 + 2 * length (given ss)) n) 10 λ _. done (given ss)

-- "the items as count, op[], arg[], then zeros"
unfoldable pub item_record : List Entry → List ℕ
item_record es = length es ∷ (map (λ e. e.0) es ++ map (λ e. e.1) es)

-- the buffer: the items, or zeros
unfoldable pub items_lent : ℕ → Answer (List Entry) → List ℕ
items_lent n (refused r) = replicate n 0
items_lent n (done es) = lent n (item_record es)
