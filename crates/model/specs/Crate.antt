-- A whole crate in one call (document 02, F-3). "One call takes a count and up to 64 function records, one after another, and gives their
-- statement records one after another."
use Rattle.std.specs.Prelude.{cond, ◌&&◌, List, [], ◌∷◌, ◌++◌, ℕ, zero, suc, ◌-◌, length, take, drop, replicate, eqb, leb}
use Rattle.model.specs.Words.{word}
use Rattle.model.specs.Answer.{refused, done}
use Rattle.model.specs.Types.{types_ok}
use Rattle.model.specs.Function.{function_length}
use Rattle.model.specs.Record.{record_length, lent}
use Rattle.model.specs.Whole.{whole}

-- RECORDS ONE AFTER ANOTHER: "a record ends where its sizes as written say"

-- the first of them, and the words behind it; of a record cut off what is there, and nothing behind it
abbrev pub first_record : List ℕ → List ℕ
first_record ws = take (function_length ws) ws

abbrev pub behind : List ℕ → List ℕ
behind ws = drop (function_length ws) ws

-- n records; the words after the last
unfoldable pub records : ℕ → List ℕ → List (List ℕ)
records zero ws = []
records (suc n) ws = first_record ws ∷ records n (behind ws)

unfoldable pub spare : ℕ → List ℕ → List ℕ
spare zero ws = ws
spare (suc n) ws = spare n (behind ws)

-- THE CALL

-- accepted; or refused, by number and "the function's position, counted from 1". Position 0: no function's
pub data Verdict : Type 0 where
  passed : Verdict
  stopped : (number position : ℕ) → Verdict

-- what the call leaves
pub record Outcome : Type 0 where
  pub verdict : Verdict
  pub forms : List ℕ
  pub whats : List ℕ
  pub out : List ℕ

-- the lengths of the two store arrays and of the output
module _ (Γ : List ℕ) (nforms nwhats nout : ℕ) where
  -- "The first refusal ends the call, zeroes the output and names the function's position"
  unfoldable pub stopped_at : ℕ → ℕ → Outcome
  stopped_at n p = record { verdict = stopped n p; forms = replicate nforms 0; whats = replicate nwhats 0; out = replicate nout 0 }

  -- "The result equals calling each alone, in order, with the output room that the earlier ones left": the functions from position p on,
  -- behind the statement records of those before it, with the store as the last of those left it
  unfoldable pub calls : ℕ → List ℕ → List ℕ → List ℕ → List (List ℕ) → Outcome
  calls p front fs ws [] = record { verdict = passed; forms = fs; whats = ws; out = lent nout front }
  calls p front fs ws (fn ∷ fns) =
      let r = whole Γ fn nforms nwhats (nout - length front) in
      elim r.answer [
        | refused n ↦ stopped_at n p
        | done c ↦ calls (suc p) (front ++ take (record_length c.1) r.out) r.forms r.whats fns
      ]

  -- "Otherwise the store is left as the last function's call leaves it, zeros for no function"
  unfoldable pub from_first : List (List ℕ) → Outcome
  from_first fns = calls 1 [] (replicate nforms 0) (replicate nwhats 0) fns

  -- words: the count, and the records. "2 at position 0 for more than 64 records, tested first; 1 at position 0, next; 2 at position 0 for
  -- words after the last record, next"; with no word there is no count
  unfoldable pub crate_statements : List ℕ → Outcome
  crate_statements words = cond (leb 1 (length words) && leb (word words 0) 64)
      (cond (types_ok Γ)
      (cond (eqb (length (spare (word words 0) (drop 1 words))) 0) (from_first (records (word words 0) (drop 1 words))) (stopped_at 2 0))
      (stopped_at 1 0))
      (stopped_at 2 0)
