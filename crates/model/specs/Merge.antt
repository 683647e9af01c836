-- Two type records become one (document 02, F-6). "Types of the first keep their numbers; types of the second move up by the first's count,
-- and so do the parts that are type numbers, but not discriminants."
use Rattle.std.specs.Prelude.{◌≡◌, Bool, true, cond, ◌&&◌, List, [], ◌∷◌, ◌++◌, map, ℕ, zero, suc, ◌+◌, length, take, drop, replicate, eqb, leb}
use Rattle.model.specs.Answer.{Answer, refused, done, require}
use Rattle.model.specs.Types.{ntypes, nparts, kind, count, part, types_length, types_ok}
use Rattle.model.specs.Function.{nlocals, local_types, function_ok}
use Rattle.model.specs.Record.{lent}
use Rattle.model.specs.Whole.{whole_told}

-- THE WORDS OF A RECORD: its kinds, its counts, all its parts

unfoldable pub kinds : List ℕ → List ℕ
kinds Γ = take (ntypes Γ) (drop 2 Γ)

unfoldable pub counts : List ℕ → List ℕ
counts Γ = take (ntypes Γ) (drop (2 + ntypes Γ) Γ)

unfoldable pub all_parts : List ℕ → List ℕ
all_parts Γ = drop (2 + ntypes Γ + ntypes Γ) Γ

-- MOVED UP BY n

module _ (n : ℕ) (Γ : List ℕ) where
  -- part j of the type t: the first part of a variant is its discriminant, every other part is a type's number
  unfoldable pub moved_part : ℕ → ℕ → ℕ
  moved_part t j = cond (eqb (kind Γ t) 8 && eqb j 0) (part Γ t j) (n + part Γ t j)

  -- the parts of t below j, moved
  unfoldable pub moved_parts : ℕ → ℕ → List ℕ
  moved_parts t zero = []
  moved_parts t (suc j) = moved_parts t j ++ (moved_part t j ∷ [])

  -- the parts of the types below t, moved
  unfoldable pub moved_below : ℕ → List ℕ
  moved_below zero = []
  moved_below (suc t) = moved_below t ++ moved_parts t (count Γ t)

-- THE MERGED RECORD: sizes; kinds, counts and parts, each of both

unfoldable pub heads : List ℕ → List ℕ → List ℕ
heads Γ Δ = (kinds Γ ++ kinds Δ) ++ (counts Γ ++ counts Δ)

unfoldable pub merged : List ℕ → List ℕ → List ℕ
merged Γ Δ = (ntypes Γ + ntypes Δ) ∷ (nparts Γ + nparts Δ) ∷ (heads Γ Δ ++ (all_parts Γ ++ moved_below (ntypes Γ) Δ (ntypes Δ)))

-- THE CALL: "Refused: 12, merged too large, if the sum of types or of parts passes its limit, tested after 1 on the first and on the second;
-- 10 for a short output is last"

unfoldable pub sums_ok : List ℕ → List ℕ → Bool
sums_ok Γ Δ = leb (ntypes Γ + ntypes Δ) 4096 && leb (nparts Γ + nparts Δ) 16384

-- n: the words of the output
unfoldable pub merge_types : List ℕ → List ℕ → ℕ → Answer (List ℕ)
merge_types Γ Δ n = require (types_ok Γ) 1 λ _. require (types_ok Δ) 1 λ _. require (sums_ok Γ Δ) 12 λ _.
    require (leb (length (merged Γ Δ)) n) 10 λ _. done (merged Γ Δ)

-- the output: the merged record and zeros behind it, or zeros
unfoldable pub merged_lent : ℕ → Answer (List ℕ) → List ℕ
merged_lent n (refused r) = replicate n 0
merged_lent n (done l) = lent n l

-- WHAT IT PROMISES

-- the type record in the output
unfoldable pub record_in : List ℕ → List ℕ
record_in out = take (types_length out) out

-- it passes refusal 1
abbrev pub Passes : List ℕ → Type 0
Passes out = types_ok (record_in out) ≡ true

-- a function record over the second, "its local types moved likewise": a sum of numbers, which no word cuts
unfoldable pub moved_function : ℕ → List ℕ → List ℕ
moved_function n fn = take 4 fn ++ (map (λ t. n + t) (local_types fn) ++ drop (4 + nlocals fn) fn)

-- Γ and Δ are linked in Μ: the whole-function call answers as before, to the last word of the statement record, its numbers and the store
pub record Links (Γ Δ Μ : List ℕ) : Type 0 where
  -- "A function over the second record, its local types moved likewise, gives the same statements as before"
  pub second : (fn : List ℕ) (nforms nwhats nout ntold : ℕ) → whole_told Μ (moved_function (ntypes Γ) fn) nforms nwhats nout ntold ≡ whole_told Δ fn nforms nwhats nout ntold
  -- and so does a function over the first that passes 2: a local type that is none of the first's could be one of the second's
  pub first : (fn : List ℕ) (nforms nwhats nout ntold : ℕ) → function_ok Γ fn ≡ true
      → whole_told Μ fn nforms nwhats nout ntold ≡ whole_told Γ fn nforms nwhats nout ntold
