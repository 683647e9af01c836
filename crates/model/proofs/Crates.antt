-- Crates in one call (document 02, F-3): records one after another, positions, the order of refusals, the room that is left.
use mathlib.Core.Path.{◌≡◌, refl}
use mathlib.Core.List.{List, [], ◌∷◌, ◌++◌, map}
use Prim.Native.Nat.{ℕ, ◌-◌, ◌^◌}
use lib.ListN.{replicate, take}
use Rattle.model.specs.Crate.{Outcome, Verdict, passed, stopped, crate_statements}
use Rattle.model.proofs.Build.{opaque, struct, types_of, root, deref, field, used, return, function_of, joined}
use Rattle.model.proofs.Worked as worked
use Rattle.model.proofs.Computed.{computed}

-- 0 opaque, 1 struct(0,0)
abbrev types : List ℕ
types = types_of (opaque ∷ struct (0 ∷ 0 ∷ []) ∷ [])

-- one statement, at 2 unfold _1: a record of 8 words; 5; no statement: 2 words
abbrev opens : List ℕ
opens = function_of (0 ∷ 1 ∷ []) ((root 1 ∷ field 0 ∷ used ∷ return ∷ []) ∷ [])

abbrev wrong : List ℕ
wrong = function_of (0 ∷ 1 ∷ []) ((root 1 ∷ deref ∷ used ∷ return ∷ []) ∷ [])

abbrev quiet : List ℕ
quiet = function_of (0 ∷ 1 ∷ []) ((return ∷ []) ∷ [])

-- the records of a crate, its count ahead
abbrev crate_of : ℕ → List (List ℕ) → List ℕ
crate_of n fns = n ∷ joined fns

-- with a store for one join point, and an output of so many words
abbrev call : ℕ → List ℕ → Outcome
call room words = crate_statements types 512 512 room words

abbrev says : ℕ → List ℕ → Verdict
says room words = (call room words).verdict

-- a refusal leaves zeros
abbrev zeros : ℕ → ℕ → ℕ → Outcome
zeros room n p = record { verdict = stopped n p; forms = replicate 512 0; whats = replicate 512 0; out = replicate room 0 }

-- one after another, nothing between them, zeros behind
abbrev opened : List ℕ
opened = 1 ∷ 3 ∷ 13 ∷ 16 ∷ 0 ∷ 2 ∷ 0 ∷ 1 ∷ []

in_a_row : call 20 (crate_of 3 (opens ∷ quiet ∷ opens ∷ []))
    ≡ record { verdict = passed; forms = replicate 512 0; whats = replicate 512 0; out = opened ++ (0 ∷ 0 ∷ (opened ++ (0 ∷ 0 ∷ []))) }
unfolding computed
in_a_row = refl

-- the store is left as the last function leaves it
last_store : map (λ fns. take 3 (crate_statements worked.types 512 512 40 (crate_of 2 fns)).forms) ((quiet ∷ worked.function ∷ []) ∷ (worked.function ∷ quiet ∷ []) ∷ [])
    ≡ (0 ∷ 2 ∷ 0 ∷ []) ∷ (0 ∷ 0 ∷ 0 ∷ []) ∷ []
unfolding computed
last_store = refl

-- no function: zeros
no_function : call 3 (0 ∷ []) ≡ record { verdict = passed; forms = replicate 512 0; whats = replicate 512 0; out = replicate 3 0 }
unfolding computed
no_function = refl

-- THE ORDER OF REFUSALS

-- the first function refused ends the call, with its position
positions : map (says 40) (crate_of 2 (opens ∷ wrong ∷ []) ∷ crate_of 2 (wrong ∷ opens ∷ []) ∷ crate_of 2 (wrong ∷ take 4 opens ∷ []) ∷ [])
    ≡ stopped 5 2 ∷ stopped 5 1 ∷ stopped 5 1 ∷ []
unfolding computed
positions = refl

zeroed : call 20 (crate_of 2 (opens ∷ wrong ∷ [])) ≡ zeros 20 5 2
unfolding computed
zeroed = refl

-- a record cut off, by a word, within its sizes, or altogether: 2 in its turn
cut_off : map (says 40) (crate_of 2 (opens ∷ take 15 opens ∷ []) ∷ crate_of 2 (opens ∷ take 3 opens ∷ []) ∷ crate_of 3 (opens ∷ opens ∷ []) ∷ [])
    ≡ stopped 2 2 ∷ stopped 2 2 ∷ stopped 2 3 ∷ []
unfolding computed
cut_off = refl

-- sizes as written, whatever they are: four zeros are a record of four words; the largest sizes are cut off and don't wrap
abbrev largest : ℕ
largest = 2 ^ 32 - 1

as_written : map (says 40) (crate_of 2 ((0 ∷ 0 ∷ 0 ∷ 0 ∷ []) ∷ opens ∷ []) ∷ crate_of 1 (replicate 4 largest ∷ []) ∷ crate_of 2 (opens ∷ replicate 9 largest ∷ []) ∷ [])
    ≡ stopped 2 1 ∷ stopped 2 1 ∷ stopped 2 2 ∷ []
unfolding computed
as_written = refl

-- words after the last record: 2 at 0, before any function's refusal
words_after : map (says 40) (crate_of 1 (opens ∷ (0 ∷ []) ∷ []) ∷ crate_of 1 (wrong ∷ opens ∷ []) ∷ (0 ∷ 0 ∷ []) ∷ [])
    ≡ stopped 2 0 ∷ stopped 2 0 ∷ stopped 2 0 ∷ []
unfolding computed
words_after = refl

-- over 64 records, or no count: 2 at 0, before the types are looked at; the types, before the words after the last record
counts : map (says 128) (crate_of 64 (replicate 64 quiet) ∷ crate_of 65 (replicate 65 quiet) ∷ [] ∷ [])
    ≡ passed ∷ stopped 2 0 ∷ stopped 2 0 ∷ []
unfolding computed
counts = refl

bad_types : map (λ ws. (crate_statements [] 0 0 0 ws).verdict) (crate_of 65 [] ∷ [] ∷ crate_of 0 [] ∷ crate_of 0 (opens ∷ []) ∷ crate_of 1 [] ∷ [])
    ≡ stopped 2 0 ∷ stopped 2 0 ∷ stopped 1 0 ∷ stopped 1 0 ∷ stopped 1 0 ∷ []
unfolding computed
bad_types = refl

-- the room that the earlier ones left: 8 words and 8, one less, too few for the first
room_left : map (λ n. says n (crate_of 2 (opens ∷ opens ∷ []))) (16 ∷ 15 ∷ 8 ∷ 7 ∷ 0 ∷ [])
    ≡ passed ∷ stopped 10 2 ∷ stopped 10 2 ∷ stopped 10 1 ∷ stopped 10 1 ∷ []
unfolding computed
room_left = refl

-- a store too short for the second alone
store_short : (crate_statements worked.types 511 512 40 (crate_of 2 (quiet ∷ worked.function ∷ []))).verdict ≡ stopped 10 2
unfolding computed
store_short = refl
