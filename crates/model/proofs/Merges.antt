-- Two type records become one (document 02, F-6): every kind, the discriminants, each refusal, the limits, and a function over each record.
use mathlib.Core.Path.{◌≡◌, refl}
use mathlib.Core.Bool.{true, false}
use mathlib.Core.List.{List, [], ◌∷◌, ◌++◌, map}
use Prim.Native.Nat.{ℕ}
use lib.ListN.{replicate}
use Rattle.model.specs.Answer.{Answer, refused, done}
use Rattle.model.specs.Types.{types_ok}
use Rattle.model.specs.Whole.{Told, whole_told}
use Rattle.model.specs.Merge.{merged, sums_ok, merge_types, merged_lent, record_in, moved_function}
use Rattle.model.proofs.Build.{opaque, plain, mutable, box, array, struct, enum, variant, closure, types_of, root, deref, used, return, function_of}
use Rattle.model.proofs.Worked as worked
use Rattle.model.proofs.Match as match
use Rattle.model.proofs.Computed.{computed}

-- 0 opaque, 1 struct(0, 0), and a record of each kind; its last variant no enum has
abbrev first : List ℕ
first = types_of (opaque ∷ struct (0 ∷ 0 ∷ []) ∷ [])

abbrev second : List ℕ
second =
    types_of (opaque ∷ plain 4 ∷ variant 1 (0 ∷ 1 ∷ []) ∷ variant 0 [] ∷ enum (3 ∷ 2 ∷ []) ∷ mutable 5 ∷ box 0 ∷ array ∷ (5, 7 ∷ 0 ∷ []) ∷ closure (8 ∷ [])
    ∷ (10, 9 ∷ 0 ∷ []) ∷ struct [] ∷ variant 4294967295 (11 ∷ []) ∷ [])

-- EVERY KIND: types of the second and their parts are two further up, the values of their variants are not
every_kind : merged first second ≡ types_of (opaque ∷ struct (0 ∷ 0 ∷ [])
    ∷ opaque ∷ plain 6 ∷ variant 1 (2 ∷ 3 ∷ []) ∷ variant 0 [] ∷ enum (5 ∷ 4 ∷ []) ∷ mutable 7 ∷ box 2 ∷ array ∷ (5, 9 ∷ 2 ∷ []) ∷ closure (10 ∷ [])
    ∷ (10, 11 ∷ 2 ∷ []) ∷ struct [] ∷ variant 4294967295 (13 ∷ []) ∷ [])
unfolding computed
every_kind = refl

-- the other way about the first's own values stay too
other_way : merged second first ≡ types_of (opaque ∷ plain 4 ∷ variant 1 (0 ∷ 1 ∷ []) ∷ variant 0 [] ∷ enum (3 ∷ 2 ∷ []) ∷ mutable 5 ∷ box 0 ∷ array
    ∷ (5, 7 ∷ 0 ∷ []) ∷ closure (8 ∷ []) ∷ (10, 9 ∷ 0 ∷ []) ∷ struct [] ∷ variant 4294967295 (11 ∷ []) ∷ opaque ∷ struct (13 ∷ 13 ∷ []) ∷ [])
unfolding computed
other_way = refl

-- both pass refusal 1
both_pass : map types_ok (merged first second ∷ merged second first ∷ []) ≡ true ∷ true ∷ []
unfolding computed
both_pass = refl

-- it doesn't matter which two are merged first
in_a_row : merged (merged first second) worked.types ≡ merged first (merged second worked.types)
unfolding computed
in_a_row = refl

-- THE CALL, over the first twice: 14 words

abbrev call : ℕ → Answer (List ℕ)
call n = merge_types first first n

-- "10 for a short output": 13, 14 and 15 words lent, and none
rooms : map call (13 ∷ 14 ∷ 15 ∷ 0 ∷ []) ≡ refused 10 ∷ done (merged first first) ∷ done (merged first first) ∷ refused 10 ∷ []
unfolding computed
rooms = refl

-- zeros behind the record; zeros on a refusal
lent_to : map (λ n. merged_lent n (call n)) (16 ∷ 3 ∷ [])
    ≡ (4 ∷ 4 ∷ 0 ∷ 6 ∷ 0 ∷ 6 ∷ 0 ∷ 2 ∷ 0 ∷ 2 ∷ 0 ∷ 0 ∷ 2 ∷ 2 ∷ 0 ∷ 0 ∷ []) ∷ (0 ∷ 0 ∷ 0 ∷ []) ∷ []
unfolding computed
lent_to = refl

-- the record is found again by its sizes
found_again : record_in (merged_lent 16 (call 16)) ≡ merged first first
unfolding computed
found_again = refl

-- THE ORDER OF REFUSALS

-- 1 on the first, on the second, before 10 and 12; a record has exactly its own length, and keeps its own limit
wrong_records : map (λ (p : List ℕ × List ℕ). merge_types p.0 p.1 0) ((1 ∷ [], first) ∷ (first, 1 ∷ []) ∷ ([], []) ∷ (first ++ (0 ∷ []), first) ∷ (first, first ++ (0 ∷ []))
    ∷ (4097 ∷ 0 ∷ [], first) ∷ (4096 ∷ 0 ∷ [], 4096 ∷ 0 ∷ []) ∷ [])
    ≡ replicate 7 (refused 1)
unfolding computed
wrong_records = refl

-- "12, if the sum of types or of parts passes its limit": by the sizes alone, at 4,095, 4,096 and 4,097 types, at 16,383, 16,384 and 16,385 parts
type_sums : map (λ n. sums_ok (2048 ∷ 0 ∷ []) (n ∷ 0 ∷ [])) (2047 ∷ 2048 ∷ 2049 ∷ []) ≡ true ∷ true ∷ false ∷ []
unfolding computed
type_sums = refl

part_sums : map (λ n. sums_ok (1 ∷ 16000 ∷ []) (1 ∷ n ∷ [])) (383 ∷ 384 ∷ 385 ∷ []) ≡ true ∷ true ∷ false ∷ []
unfolding computed
part_sums = refl

-- of records that pass, before 10 (records of so many types take too long to compute with)
too_large : (Γ Δ : List ℕ) (n : ℕ) → types_ok Γ ≡ true → types_ok Δ ≡ true → sums_ok Γ Δ ≡ false → merge_types Γ Δ n ≡ refused 12
unfolding merge_types
too_large Γ Δ n a b c = cc

-- A FUNCTION OVER EACH RECORD

-- _1 is no pointer: 5
abbrev refusing : List ℕ
refusing = function_of (0 ∷ 1 ∷ []) ((root 1 ∷ deref ∷ used ∷ return ∷ []) ∷ [])

-- document 01's worked example, a match on an enum, and a function that is refused
abbrev functions : List (List ℕ × List ℕ)
functions = (worked.types, worked.function) ∷ (match.types, match.function) ∷ (worked.types, refusing) ∷ []

-- with a store for one join point, and some statements
abbrev answer : List ℕ → List ℕ → Told
answer Γ fn = whole_told Γ fn 512 512 40 8

-- each over its own types, behind the second, and before it
as_before : map (λ (p : List ℕ × List ℕ). answer (merged second p.0) (moved_function 13 p.1)) functions ≡ map (λ (p : List ℕ × List ℕ). answer p.0 p.1) functions
unfolding computed
as_before = refl

as_it_is : map (λ (p : List ℕ × List ℕ). answer (merged p.0 second) p.1) functions ≡ map (λ (p : List ℕ × List ℕ). answer p.0 p.1) functions
unfolding computed
as_it_is = refl

-- two are accepted, with 3 statements each
answers : map (λ (p : List ℕ × List ℕ). (answer p.0 p.1).result.answer) functions ≡ done (3, 9) ∷ done (3, 10) ∷ refused 5 ∷ []
unfolding computed
answers = refl

-- its local types alone are moved
moved_locals : moved_function 13 worked.function
    ≡ 2 ∷ 1 ∷ 4 ∷ 12
    ∷ 13 ∷ 14
    ∷ 0 ∷ 7 ∷ 10 ∷ 11 ∷ 0 ∷ 1 ∷ 2 ∷ 3
    ∷ 0 ∷ 2 ∷ 5 ∷ 8 ∷ 9 ∷ 10 ∷ 10 ∷ 0 ∷ 5 ∷ 10 ∷ 10 ∷ 11
    ∷ 1 ∷ 0 ∷ 0 ∷ 0 ∷ 0 ∷ 1 ∷ 2 ∷ 1 ∷ 0 ∷ 3 ∷ 3 ∷ 0 ∷ []
unfolding computed
moved_locals = refl

-- a function with the one local type t, and one opaque type
abbrev lone : ℕ → List ℕ
lone t = 1 ∷ 0 ∷ 1 ∷ 1 ∷ t ∷ 0 ∷ 0 ∷ 11 ∷ 0 ∷ []

abbrev one : List ℕ
one = types_of (opaque ∷ [])

-- why the law asks of a function over the first that it pass 2: a local type that is none of the first's may be one of the second's
past_the_first : map (λ Γ. (answer Γ (lone 1)).result.answer) (one ∷ merged one one ∷ []) ≡ refused 2 ∷ done (0, 0) ∷ []
unfolding computed
past_the_first = refl

-- moved likewise is a sum of numbers: the greatest word doesn't become the first's type 0
no_wrap : map (λ fn. (answer (merged one one) fn).result.answer) (moved_function 1 (lone 4294967295) ∷ lone 0 ∷ []) ≡ refused 2 ∷ done (0, 0) ∷ []
unfolding computed
no_wrap = refl
