-- What the calls for users promise beside their equations with Calls, Whole and Ghosts: with which numbers each refuses (demand 1), and what
-- holds of its answer where it accepts (demand 2). Each is a clause of the call's contract; the theorems are in crates calls and demand.
-- Demand 3 stands with the replay.
use Rattle.std.specs.Prelude.{◌≡◌, ◌↔◌, ◌≢◌, Bool, true, false, length, take}
use mathlib.Core.List.{List, [], ◌∷◌, map}
use Rattle.std.proofs.Math.Option.{some}
use Prim.Native.Nat.{ℕ, zero, suc, ◌≤◌}
use Rattle.model.specs.Answer.{done}
use Rattle.model.specs.Types.{types_ok}
use Rattle.model.specs.Tree.{Forest, joins, leaves}
use Rattle.model.specs.Source.{firsts, seconds, modifieds}
use Rattle.model.specs.State.{State, decode, locals_ok}
use Rattle.model.specs.Place.{Spot, Fold, Unfold, At, walked}
use Rattle.model.specs.Walk.{pick, carries_at}
use Rattle.model.specs.Collect.{bares, first_clashes, returned_at}
use Rattle.model.specs.Frame.{Line}
use Rattle.model.specs.Rounds.{elem}
use Rattle.model.specs.Record.{recorded}
use Rattle.model.specs.Calls.{spot_of, Recorded, nothing, fold, unfold_at, call_projection, call_carry, call_join}
use Rattle.model.specs.Told.{Began}
use Rattle.model.specs.Ghosts.{lines_text, refusal_text}

-- DEMAND 1: "any words at all handed in come out as a statement record or as one of ten numbered refusals"

-- n is one of these numbers
abbrev pub OneOf : List ℕ → ℕ → Type 0
OneOf ns n = elem n ns ≡ true

-- the refusals of the whole-function call: no 3, since no state is handed in, and no 7, since what is stored is above what arrives
abbrev pub whole_numbers : List ℕ
whole_numbers = 1 ∷ 2 ∷ 4 ∷ 5 ∷ 6 ∷ 8 ∷ 9 ∷ 10 ∷ []

-- of that call where the types pass
abbrev pub function_numbers : List ℕ
function_numbers = 2 ∷ 4 ∷ 5 ∷ 6 ∷ 8 ∷ 9 ∷ 10 ∷ []

-- of a place used, of a downcast, of a fold carried out
abbrev pub use_numbers : List ℕ
use_numbers = 1 ∷ 3 ∷ 4 ∷ 5 ∷ 6 ∷ 9 ∷ []

-- of an unfold carried out
abbrev pub unfold_numbers : List ℕ
unfold_numbers = 1 ∷ 3 ∷ 4 ∷ 5 ∷ 6 ∷ 7 ∷ 9 ∷ []

abbrev pub join_numbers : List ℕ
join_numbers = 1 ∷ 3 ∷ 9 ∷ []

-- of collecting from one state to another; from all folded; at return
abbrev pub collect_numbers : List ℕ
collect_numbers = 1 ∷ 3 ∷ 6 ∷ 7 ∷ 10 ∷ []

abbrev pub unfolds_numbers : List ℕ
unfolds_numbers = 1 ∷ 3 ∷ 7 ∷ 10 ∷ []

abbrev pub folds_numbers : List ℕ
folds_numbers = 1 ∷ 3 ∷ 10 ∷ []

-- of a list of statements (document 02, F-2)
abbrev pub statement_numbers : List ℕ
statement_numbers = 2 ∷ 10 ∷ 11 ∷ []

-- of two type records (document 02, F-6)
abbrev pub merge_numbers : List ℕ
merge_numbers = 1 ∷ 10 ∷ 12 ∷ []

-- of a whole crate (document 02, F-3), by the function's position: 0, its count, its types, words after the last record; else the
-- function's own
abbrev pub crate_numbers : ℕ → List ℕ
crate_numbers zero = 1 ∷ 2 ∷ []
crate_numbers (suc p) = function_numbers

-- a refusal's number n and position p, of a crate that counts so many functions
pub record RefusedAt (count n p : ℕ) : Type 0 where
  pub one : OneOf (crate_numbers p) n
  pub counted : p ≤ count
  pub few : p ≤ 64

-- what `ghosts` prints: lines of statements, or `refused` and one of the numbers
pub data Answered (text : List ℕ) : Type 0 where
  in_lines : (entry : ℕ) (ls : List (Line At)) → text ≡ lines_text entry ls → Answered text
  in_a_refusal : (n : ℕ) → OneOf whole_numbers n → text ≡ refusal_text n → Answered text

-- DEMAND 2

-- the statements in a lent buffer of a collecting call, in order
unfoldable pub statements_in : List ℕ → List At
statements_in out = map (λ l. l.stmt) (recorded 0 out)

module _ (Γ locals : List ℕ) where
  -- A PLACE USED, in the state s: what is recorded, the number told beside it, and the state u after it
  pub record UsePromise (s : State) (ops args : List ℕ) (what : Recorded) (told : ℕ) (u : State) : Type 0 where
    -- the same call once more records nothing and changes nothing: it passes all that is walked
    pub again : (q : Spot) → spot_of ops args ≡ some q → call_projection Γ locals u ops args ≡ done (nothing, length (walked q.place), u)
    -- where nothing is recorded nothing has changed
    pub unchanged : what ≡ nothing → u ≡ s
    -- what is recorded, carried out by `fold` or `unfold` on the state before, gives the state after
    pub folds : what ≡ fold → call_carry Γ locals Fold s ops args ≡ done u
    pub unfolds : (n : ℕ) → what ≡ unfold_at n → call_carry Γ locals Unfold s (take (suc n) ops) (take (suc n) args) ≡ done u
    -- the number of an unfold says where the opening began (document 02, F-4)
    pub began : (q : Spot) (E : Forest) (n : ℕ) → spot_of ops args ≡ some q → decode Γ locals s ≡ some E → what ≡ unfold_at n
        → Began Γ q.place (pick q.local E) told

  -- A JOIN of s and e: the flag, and the state u that is given
  pub record JoinPromise (s e : State) (flag : Bool) (u : State) : Type 0 where
    -- the trees of the three states
    pub first : Forest
    pub second : Forest
    pub one : Forest
    pub first_is : decode Γ locals s ≡ some first
    pub second_is : decode Γ locals e ≡ some second
    pub one_is : decode Γ locals u ≡ some one
    -- the state given is above both
    pub above_first : joins Γ false one first ≡ one
    pub above_second : joins Γ false one second ≡ one
    -- with the second once more it is given back, and the flag is false
    pub again : call_join Γ locals u e ≡ done (false, u)
    -- the flag says whether the state given differs from the one handed in
    pub exact : (flag ≡ true) ↔ (u ≢ s)
    -- the source's own recursion: both its trees end in this one shape, each of its flags is true exactly if its tree changed, the first of
    -- them is the flag, and a second join changes neither tree
    pub first_ends : firsts Γ false first second ≡ one
    pub second_ends : seconds Γ false first second ≡ one
    pub first_flag : ((modifieds Γ false first second).0 ≡ true) ↔ (firsts Γ false first second ≢ first)
    pub second_flag : ((modifieds Γ false first second).1 ≡ true) ↔ (seconds Γ false first second ≢ second)
    pub flag_is : flag ≡ (modifieds Γ false first second).0
    pub still_first : firsts Γ false one one ≡ one
    pub still_second : seconds Γ false one one ≡ one
    pub still_flags : modifieds Γ false one one ≡ (false, false)

  -- COLLECTING

  -- from s to e: carried out in order on the first state they are not refused and give the second
  pub record CollectPromise (s e : State) (out : List ℕ) : Type 0 where
    pub from : Forest
    pub to : Forest
    pub from_is : decode Γ locals s ≡ some from
    pub to_is : decode Γ locals e ≡ some to
    pub leads : carries_at Γ (statements_in out) from ≡ done to

  -- from all folded to s
  pub record UnfoldsPromise (s : State) (out : List ℕ) : Type 0 where
    pub to : Forest
    pub to_is : decode Γ locals s ≡ some to
    pub leads : carries_at Γ (statements_in out) (leaves locals) ≡ done to

  -- at return: each argument's owed places are folded, and all else is as it was
  pub record FoldsPromise (a : ℕ) (s : State) (out : List ℕ) : Type 0 where
    pub from : Forest
    pub from_is : decode Γ locals s ≡ some from
    pub leads : carries_at Γ (statements_in out) from ≡ done (returned_at Γ a from)

  -- THE REFUSALS 6 AND 7: both states pass, and n is the first clash of their trees
  pub record Clashes (s e : State) (n : ℕ) : Type 0 where
    pub types : types_ok Γ ≡ true
    pub typed : locals_ok Γ locals ≡ true
    pub from : Forest
    pub to : Forest
    pub from_is : decode Γ locals s ≡ some from
    pub to_is : decode Γ locals e ≡ some to
    pub clash : first_clashes Γ from to ≡ some n

  -- from all folded: the state passes, and has a bare variant
  pub record Bare (s : State) : Type 0 where
    pub types : types_ok Γ ≡ true
    pub typed : locals_ok Γ locals ≡ true
    pub to : Forest
    pub to_is : decode Γ locals s ≡ some to
    pub bare : bares Γ to ≡ true
