-- The whole-function call: its answer, the two store arrays and the statement buffer, to the last word, from the two records and
-- the lengths of what is lent.
use Rattle.std.specs.Prelude.{cond, List, [], ◌∷◌, ◌++◌, ℕ, ◌*◌, length, replicate, leb}
use Rattle.std.proofs.Math.Option.{Option, none, some}
use Rattle.model.specs.Words.{collect_from}
use Rattle.model.specs.Answer.{Answer, refused, done, ◌>>=◌, require}
use Rattle.model.specs.Types.{types_ok}
use Rattle.model.specs.Tree.{Forest, leaves}
use Rattle.model.specs.State.{most, State, encode}
use Rattle.model.specs.Place.{At}
use Rattle.model.specs.Function.{nblocks, local_types, function_ok}
use Rattle.model.specs.Block.{places_ok, entry_uses, entry_point, is_join_point, join_points}
use Rattle.model.specs.Passes.{Found, analyse}
use Rattle.model.specs.Body.{enter_uses, frame}
use Rattle.model.specs.Record.{entries, statement_record, writable, lent, numbers}

-- both passes, of records that pass: from the state that the entry's uses leave
unfoldable pub passes : List ℕ → List ℕ → Answer (Found Forest At)
passes Γ fn = enter_uses Γ (entry_uses fn) (leaves (local_types fn)) >>= λ r. analyse (frame Γ fn) r.1 r.0

-- "Order: 1, 2, 3, 4 over all places in item order, 10 for the store, then the first of 5 to 9 that the run meets"; no 3 here
unfoldable pub ghost_statements : List ℕ → List ℕ → ℕ → Answer (Found Forest At)
ghost_statements Γ fn store = require (types_ok Γ) 1 λ _. require (function_ok Γ fn) 2 λ _. require (places_ok fn) 4 λ _.
    require (leb (most * join_points fn) store) 10 λ _. passes Γ fn

-- "A short statement buffer is found last"
unfoldable pub with_buffer : List ℕ → ℕ → Found Forest At → Answer (Found Forest At)
with_buffer fn buffer f = require (writable buffer (entries (entry_point fn) f.lines)) 10 λ _. done f

-- a share: the block's final state, or zeros if none arrived
unfoldable pub share : List ℕ → (State → List ℕ) → Option Forest → List ℕ
share Γ part none = replicate most 0
share Γ part (some E) = part (encode Γ E)

unfoldable pub joined : List (List ℕ) → List ℕ
joined [] = []
joined (l ∷ ls) = l ++ joined ls

-- the shares of all join points, in block order
unfoldable pub shares : List ℕ → List ℕ → (State → List ℕ) → (ℕ → Option Forest) → List ℕ
shares Γ fn part kept = joined (collect_from (is_join_point fn) (λ b. share Γ part (kept b)) (nblocks fn) 0)

-- what a call leaves: the counts of statements and entries or the refusal, and what was lent
pub record Result : Type 0 where
  pub answer : Answer (ℕ × ℕ)
  pub forms : List ℕ
  pub whats : List ℕ
  pub out : List ℕ

-- the lengths of the two store arrays and of the buffer
module _ (Γ fn : List ℕ) (nforms nwhats nout : ℕ) where
  unfoldable pub accepted : Found Forest At → Result
  accepted f = record {
    answer = done (length f.lines, length (entries (entry_point fn) f.lines));
    forms = lent nforms (shares Γ fn (λ s. s.forms) f.kept);
    whats = lent nwhats (shares Γ fn (λ s. s.whats) f.kept);
    out = lent nout (statement_record (entry_point fn) f.lines);
  }

  -- a refusal leaves zeros in all that was lent
  unfoldable pub denied : ℕ → Result
  denied r = record { answer = refused r; forms = replicate nforms 0; whats = replicate nwhats 0; out = replicate nout 0 }

  unfoldable pub result : Answer (Found Forest At) → Result
  result (refused r) = denied r
  result (done f) = accepted f

  -- the shorter of the two store arrays decides
  unfoldable pub shorter : ℕ
  shorter = cond (leb nforms nwhats) nforms nwhats

  unfoldable pub found : Answer (Found Forest At)
  found = ghost_statements Γ fn shorter >>= with_buffer fn nout

  unfoldable pub whole : Result
  whole = result found

-- WITH THE NUMBERS BESIDE THE STATEMENT RECORD (document 02, F-4): what the call for users leaves
pub record Told : Type 0 where
  pub result : Result
  pub told : List ℕ

-- ntold: the length of the array for the numbers
module _ (Γ fn : List ℕ) (nforms nwhats nout ntold : ℕ) where
  -- "10 also when this array is too short, found last"
  unfoldable pub with_numbers : Found Forest At → Answer (Found Forest At)
  with_numbers f = require (leb (length f.lines) ntold) 10 λ _. done f

  unfoldable pub found_told : Answer (Found Forest At)
  found_told = found Γ fn nforms nwhats nout >>= with_numbers

  -- "all zero on a refusal"
  unfoldable pub told_of : Answer (Found Forest At) → List ℕ
  told_of (refused r) = replicate ntold 0
  told_of (done f) = lent ntold (numbers f.lines)

  unfoldable pub whole_told : Told
  whole_told = record { result = result Γ fn nforms nwhats nout found_told; told = told_of found_told }
