-- Lists of statements (document 02, F-2): what each kind gives, each refusal, the limits.
use mathlib.Core.Path.{◌≡◌, refl}
use mathlib.Core.List.{List, [], ◌∷◌, ◌++◌, map}
use Prim.Native.Nat.{ℕ, ◌-◌}
use lib.ListN.{replicate}
use Rattle.model.specs.Answer.{Answer, refused, done}
use Rattle.model.specs.Record.{Entry}
use Rattle.model.specs.Assign.{statement_items, items_lent}
use Rattle.model.proofs.Build.{joined}
use Rattle.model.proofs.Computed.{computed}

-- a statement as it stands: kind, flag, how many operands, the operands, the destination
abbrev statement : ℕ → ℕ → ℕ → List (List ℕ) → List ℕ → List ℕ
statement kind flag count operands destination = (kind ∷ flag ∷ count ∷ []) ++ (joined operands ++ destination)

-- local l; its field 3; an element of it; a constant
abbrev whole : ℕ → List ℕ
whole l = 1 ∷ 0 ∷ l ∷ []

abbrev field_3 : ℕ → List ℕ
field_3 l = 2 ∷ 0 ∷ l ∷ 2 ∷ 3 ∷ []

abbrev element : ℕ → List ℕ
element l = 2 ∷ 0 ∷ l ∷ 4 ∷ 0 ∷ []

abbrev constant : List ℕ
constant = 0 ∷ []

-- with room for 32 items
abbrev items : List ℕ → Answer (List Entry)
items ws = statement_items ws 65

-- KINDS

-- nothing
nothing : items [] ≡ done []
unfolding computed
nothing = refl

-- Use, Repeat, Ref, RawPtr, Cast, UnaryOp: the operand, then the destination
one_operand : map (λ k. items (statement k 0 1 (field_3 1 ∷ []) (whole 2))) (0 ∷ 1 ∷ 2 ∷ 3 ∷ 4 ∷ 6 ∷ [])
    ≡ replicate 6 (done ((0, 1) ∷ (2, 3) ∷ (5, 0) ∷ (0, 2) ∷ (5, 0) ∷ []))
unfolding computed
one_operand = refl

-- BinaryOp: both operands, as they stand
two_operands : items (statement 5 0 2 (whole 3 ∷ whole 1 ∷ []) (whole 2)) ≡ done ((0, 3) ∷ (5, 0) ∷ (0, 1) ∷ (5, 0) ∷ (0, 2) ∷ (5, 0) ∷ [])
unfolding computed
two_operands = refl

-- Aggregate: any number; a constant gives nothing
aggregates : map items (statement 8 0 0 [] (whole 2) ∷ statement 8 0 3 (whole 1 ∷ constant ∷ whole 1 ∷ []) (whole 2) ∷ [])
    ≡ done ((0, 2) ∷ (5, 0) ∷ []) ∷ done ((0, 1) ∷ (5, 0) ∷ (0, 1) ∷ (5, 0) ∷ (0, 2) ∷ (5, 0) ∷ []) ∷ []
unfolding computed
aggregates = refl

-- Discriminant: read and note
discriminant : items (statement 7 0 1 (whole 1 ∷ []) (whole 2)) ≡ done ((0, 1) ∷ (6, 0) ∷ (0, 2) ∷ (7, 0) ∷ [])
unfolding computed
discriminant = refl

-- a fake borrow gives only the destination
fake : items (statement 2 1 1 (whole 1 ∷ []) (whole 2)) ≡ done ((0, 2) ∷ (5, 0) ∷ [])
unfolding computed
fake = refl

-- `PtrMetadata` uses the place's deref, behind an index too; of a constant nothing
metadata : map (λ p. items (statement 6 1 1 (p ∷ []) (whole 2))) (whole 1 ∷ element 1 ∷ constant ∷ [])
    ≡ done ((0, 1) ∷ (1, 0) ∷ (5, 0) ∷ (0, 2) ∷ (5, 0) ∷ []) ∷ done ((0, 1) ∷ (4, 0) ∷ (1, 0) ∷ (5, 0) ∷ (0, 2) ∷ (5, 0) ∷ []) ∷ done ((0, 2) ∷ (5, 0) ∷ []) ∷ []
unfolding computed
metadata = refl

-- one statement after the other
in_a_row : items (statement 0 0 1 (constant ∷ []) (whole 1) ++ statement 7 0 1 (whole 1 ∷ []) (whole 2)) ≡ done ((0, 1) ∷ (5, 0) ∷ (0, 1) ∷ (6, 0) ∷ (0, 2) ∷ (7, 0) ∷ [])
unfolding computed
in_a_row = refl

-- 4 waits for the record: an unknown local, an ending downcast
unknown_place : items (statement 0 0 1 ((2 ∷ 0 ∷ 4294967295 ∷ 3 ∷ 9 ∷ []) ∷ []) (whole 2)) ≡ done ((0, 4294967295) ∷ (3, 9) ∷ (5, 0) ∷ (0, 2) ∷ (5, 0) ∷ [])
unfolding computed
unknown_place = refl

-- REFUSAL 2

-- cut off: in the head, in an operand's number, in its items, by a count or a number that is too large
cut_off : map items ((0 ∷ []) ∷ (0 ∷ 0 ∷ []) ∷ (0 ∷ 0 ∷ 1 ∷ []) ∷ (0 ∷ 0 ∷ 1 ∷ 1 ∷ 0 ∷ []) ∷ (0 ∷ 0 ∷ 1 ∷ 1 ∷ 0 ∷ 1 ∷ []) ∷ (8 ∷ 0 ∷ 4294967295 ∷ 0 ∷ 0 ∷ []) ∷ (0 ∷ 0 ∷ 1 ∷ 4294967295 ∷ 0 ∷ 1 ∷ []) ∷ [])
    ≡ replicate 7 (refused 2)
unfolding computed
cut_off = refl

-- also where the kind is unknown
unknown_cut_off : items (9 ∷ 7 ∷ 2 ∷ 0 ∷ []) ≡ refused 2
unfolding computed
unknown_cut_off = refl

-- no place: no root; a second root; a use; a deref or an index with an arg
no_place : map (λ p. items (statement 0 0 1 (p ∷ []) (whole 2))) ((1 ∷ 1 ∷ 0 ∷ []) ∷ (2 ∷ 0 ∷ 1 ∷ 0 ∷ 1 ∷ []) ∷ (2 ∷ 0 ∷ 1 ∷ 5 ∷ 0 ∷ []) ∷ (2 ∷ 0 ∷ 1 ∷ 1 ∷ 1 ∷ []) ∷ (2 ∷ 0 ∷ 1 ∷ 4 ∷ 1 ∷ []) ∷ [])
    ≡ replicate 5 (refused 2)
unfolding computed
no_place = refl

-- the operand of a fake borrow too; and before 11
no_place_fake : map items (statement 2 1 1 ((1 ∷ 1 ∷ 0 ∷ []) ∷ []) (whole 2) ∷ statement 9 0 1 ((1 ∷ 1 ∷ 0 ∷ []) ∷ []) constant ∷ (statement 9 0 0 [] (whole 1) ++ (0 ∷ [])) ∷ [])
    ≡ replicate 3 (refused 2)
unfolding computed
no_place_fake = refl

-- REFUSAL 11

-- a kind above 8
kinds : map (λ k. items (statement k 0 1 (whole 1 ∷ []) (whole 2))) (9 ∷ 4294967295 ∷ []) ≡ replicate 2 (refused 11)
unfolding computed
kinds = refl

-- a flag: 1 but in kinds 2 and 6, and 2 everywhere
flags : map (λ k. items (statement k 1 1 (whole 1 ∷ []) (whole 2))) (0 ∷ 1 ∷ 3 ∷ 4 ∷ 7 ∷ 8 ∷ []) ++ map (λ k. items (statement k 2 1 (whole 1 ∷ []) (whole 2))) (2 ∷ 6 ∷ 8 ∷ [])
    ≡ replicate 9 (refused 11)
unfolding computed
flags = refl

-- an operand count
counts : map (λ k. items (statement k 0 0 [] (whole 2))) (0 ∷ 1 ∷ 2 ∷ 3 ∷ 4 ∷ 5 ∷ 6 ∷ 7 ∷ []) ++ map (λ k. items (statement k 0 2 (whole 1 ∷ whole 1 ∷ []) (whole 2))) (0 ∷ 1 ∷ 2 ∷ 3 ∷ 4 ∷ 6 ∷ 7 ∷ [])
    ++ (items (statement 5 0 1 (whole 1 ∷ []) (whole 2)) ∷ items (statement 5 0 3 (whole 1 ∷ whole 1 ∷ whole 1 ∷ []) (whole 2)) ∷ [])
    ≡ replicate 17 (refused 11)
unfolding computed
counts = refl

-- a constant in kinds 2, 3 and 7, or as destination
constants : map (λ k. items (statement k 0 1 (constant ∷ []) (whole 2))) (2 ∷ 3 ∷ 7 ∷ []) ++ map (λ k. items (statement k 0 1 (whole 1 ∷ []) constant)) (0 ∷ 2 ∷ 7 ∷ 8 ∷ [])
    ++ (items (statement 2 1 1 (constant ∷ []) (whole 2)) ∷ [])
    ≡ replicate 8 (refused 11)
unfolding computed
constants = refl

-- and where it may be
constants_fine : map (λ k. items (statement k 0 1 (constant ∷ []) (whole 2))) (0 ∷ 1 ∷ 4 ∷ 6 ∷ 8 ∷ []) ≡ replicate 5 (done ((0, 2) ∷ (5, 0) ∷ []))
unfolding computed
constants_fine = refl

-- 11 before 10
before_10 : statement_items (statement 9 0 1 (whole 1 ∷ []) (whole 2)) 0 ≡ refused 11
unfolding computed
before_10 = refl

-- REFUSAL 10, and the buffer: 1 + 2 * 4 words

abbrev small : List ℕ
small = statement 0 0 1 (whole 1 ∷ []) (whole 2)

rooms : map (statement_items small) (0 ∷ 8 ∷ []) ≡ replicate 2 (refused 10)
unfolding computed
rooms = refl

buffers : map (λ n. items_lent n (statement_items small n)) (8 ∷ 9 ∷ 11 ∷ [])
    ≡ replicate 8 0 ∷ (4 ∷ 0 ∷ 5 ∷ 0 ∷ 5 ∷ 1 ∷ 0 ∷ 2 ∷ 0 ∷ []) ∷ (4 ∷ 0 ∷ 5 ∷ 0 ∷ 5 ∷ 1 ∷ 0 ∷ 2 ∷ 0 ∷ 0 ∷ 0 ∷ []) ∷ []
unfolding computed
buffers = refl

-- a buffer of no word is 10 even for no statement
no_word : map (statement_items []) (0 ∷ 1 ∷ []) ≡ refused 10 ∷ done [] ∷ []
unfolding computed
no_word = refl

-- 16,384 ITEMS: of a place of n items used, and the destination's one

abbrev long : ℕ → Answer (List Entry)
long n = statement_items (statement 2 1 1 ((n ∷ 0 ∷ 1 ∷ joined (replicate (n - 1) (1 ∷ 0 ∷ []))) ∷ []) (whole 2)) 5

items_16383 : long 16382 ≡ done ((0, 2) ∷ (5, 0) ∷ [])
unfolding computed
items_16383 = refl

items_16384 : long 16383 ≡ done ((0, 2) ∷ (5, 0) ∷ [])
unfolding computed
items_16384 = refl

items_16385 : long 16384 ≡ refused 2
unfolding computed
items_16385 = refl
