-- The code's answers as model's.
use Rattle.std.specs.Prelude.{◌≡◌, ◌↔◌, true, Result, Ok, Err, List, [], ◌∷◌, ◌++◌, map, ℕ, length, replicate}
use Rattle.model.specs.Words.{word}
use Rattle.model.specs.Answer.{Answer, refused, done, ◌>>=◌, require}
use Rattle.model.specs.Tree.{Forest}
use Rattle.model.specs.Place.{At}
use Rattle.model.specs.Collect.{unfoldss, collects, folds_at_ret}
use Rattle.model.specs.Record.{Entry, writable, lent}
use Rattle.model.specs.Calls.{written}
use Rattle.model.specs.Promised.{OneOf, collect_numbers, unfolds_numbers, folds_numbers, CollectPromise, UnfoldsPromise, FoldsPromise, Clashes, Bare}
use Rattle.records.specs.Here.{CodedAll, Holds}
use Rattle.state.specs.Value.{value, state_in}
use Rattle.state.specs.declared.nodes.State.{State}
use Rattle.refusal.specs.declared.Refusal.{Refusal}
use Rattle.refusal.specs.declared.Refusal.TheVariants.{BareVariant}
use Rattle.refusal.specs.Refusal.{number, code, answered}
use Rattle.statements.specs.declared.Counts.{Counts}
use Rattle.statements.specs.declared.Out.{Out}
use Rattle.statements.specs.Kept.{begun, counts, point_of, Counted, Puts}
use Rattle.collectors.specs.declared.got.Got.{Got}
use Rattle.collectors.specs.Trail.{lines_of, root}

-- OF STATES

-- the state holds trees of the locals
abbrev pub Held : List ℕ → List ℕ → State → Type 0
Held Γ locals s = (S : Forest) × Holds Γ locals (value s) S

-- so do the arrays, of some number of nodes
abbrev pub HeldIn : (Γ locals fs ws : List ℕ) → Type 0
HeldIn Γ locals fs ws = (n : ℕ) × Held Γ locals (state_in fs ws n)

-- the statements a are recorded at the point of o behind what was, or r is their refusal
pub record Collects (out : List ℕ) (o : Out) (out' : List ℕ) (a : Answer (List At)) (r : Result Out Refusal) : Type 0 where
  pub recorded : (q : Out) → r ≡ Ok q → (b : List At) × (a ≡ done b) × Puts (length b) out o out' q (lines_of (point_of o) (root 0) b)
  pub stopped : (e : Refusal) → r ≡ Err e → a ≡ refused (number e)

-- what leads from the state s to e is collected
abbrev pub Moves : List ℕ → List ℕ → State → State → List ℕ → Out → List ℕ → Result Out Refusal → Type 0
Moves Γ locals s e out o out' r =
    (S E : Forest) → Holds Γ locals (value s) S → Holds Γ locals (value e) E → Collects out o out' (collects Γ S E) r

-- what opens folded locals until they are as s is collected
abbrev pub Unfolds : List ℕ → List ℕ → State → List ℕ → Out → List ℕ → Result Out Refusal → Type 0
Unfolds Γ locals s out o out' r = (S : Forest) → Holds Γ locals (value s) S → Collects out o out' (unfoldss Γ S) r

-- what a return owes of the locals 1 to a is recorded at the point of o, as r has it
abbrev pub Owes : (Γ locals : List ℕ) (a : ℕ) (fs ws out : List ℕ) → Out → List ℕ → Out → Type 0
Owes Γ locals a fs ws out o out' r =
    (n : ℕ) (S : Forest) → Holds Γ locals (value (state_in fs ws n)) S
    → Puts (length (folds_at_ret Γ a S)) out o out' r (lines_of (point_of o) (root 0) (folds_at_ret Γ a S))

-- the same of the arrays of a state
pub record Owed (Γ : List ℕ) (out : List ℕ) (o : Out) (out' : List ℕ) (r : Got) (a : ℕ) (fs ws locals : List ℕ) : Type 0 where
  pub trees : (S : Forest) → CodedAll Γ fs ws 0 locals S
      → Puts (length (folds_at_ret Γ a S)) out o out' r.out (lines_of (point_of o) (root 0) (folds_at_ret Γ a S))

-- OF THE CALLS

-- nothing is recorded, and what is will be at the entry
abbrev pub start : Out
start = begun true (record { op = 14; arg = 0 })

-- what is recorded has counts in range
abbrev pub ReadyTo : List ℕ → Result Out Refusal → Type 0
ReadyTo out c = (q : Out) → c ≡ Ok q → Counted out q

-- a refusal, where a record would be
abbrev pub refuses : Refusal → Answer (List ℕ)
refuses r = refused (number r)

-- the record of k statements, of these entries, if a buffer of n words has room
unfoldable pub finishes : ℕ → ℕ → List Entry → Answer (List ℕ)
finishes n k es = require (writable n es) 10 λ _. done (k ∷ length es ∷ (map (λ e. e.0) es ++ map (λ e. e.1) es))

-- the record of a collector's answer
abbrev pub writes : ℕ → Answer (List At) → Answer (List ℕ)
writes n a = a >>= written [] [] n

-- a record's counts, which are its first words
abbrev pub heading : List ℕ → Answer Counts
heading ws = done (counts (word ws 0) (word ws 1))

-- a lent buffer of n words: the record and zeros behind it, or zeros
abbrev pub buffer : ℕ → Answer (List ℕ) → List ℕ
buffer n (refused r) = replicate n 0
buffer n (done ws) = lent n ws

-- the call's result is model's answer a, the counts of the record it has; and the buffer is left so
pub record Writes (n : ℕ) (a : Answer (List ℕ)) (r : Result Counts Refusal) (out' : List ℕ) : Type 0 where
  pub answer : answered r ≡ a >>= heading
  pub left : out' ≡ buffer n a

-- whatever c has collected is written out
abbrev pub Ends : List ℕ → Result Out Refusal → Result Counts Refusal → List ℕ → Type 0
Ends out c r out' = (a : Answer (List At)) (before : List ℕ) → Collects before start out a c → Writes (length out) (writes (length out) a) r out'

-- WHAT THE CALLS PROMISE BESIDE THAT: with which numbers each refuses, where the statements in the buffer lead, and when 6 and 7 are given

-- from one state to another
pub record Leads (Γ locals : List ℕ) (s e : State) (r : Result Counts Refusal) (out' : List ℕ) : Type 0 where
  pub numbered : (e : Refusal) → r ≡ Err e → OneOf collect_numbers (number e)
  pub leads : (k : Counts) → r ≡ Ok k → CollectPromise Γ locals (value s) (value e) out'
  pub clashes : (n : ℕ) → ((code r ≡ n) × OneOf (6 ∷ 7 ∷ []) n) ↔ Clashes Γ locals (value s) (value e) n

-- from all folded
pub record Opens (Γ locals : List ℕ) (s : State) (r : Result Counts Refusal) (out' : List ℕ) : Type 0 where
  pub numbered : (e : Refusal) → r ≡ Err e → OneOf unfolds_numbers (number e)
  pub leads : (k : Counts) → r ≡ Ok k → UnfoldsPromise Γ locals (value s) out'
  pub bare : (r ≡ Err BareVariant) ↔ Bare Γ locals (value s)

-- at return, of the locals 1 to a
pub record Settles (Γ locals : List ℕ) (a : ℕ) (s : State) (r : Result Counts Refusal) (out' : List ℕ) : Type 0 where
  pub numbered : (e : Refusal) → r ≡ Err e → OneOf folds_numbers (number e)
  pub leads : (k : Counts) → r ≡ Ok k → FoldsPromise Γ locals a (value s) out'
