-- A statement record that grows in a lent buffer, and how it is finished.
use Rattle.std.specs.Prelude.{◌≡◌, Bool, cond, Result, Ok, Err, List, ◌∷◌, ◌++◌, map, ℕ, suc, ◌+◌, ◌-◌, ◌/◌, ◌≤◌, ◌<◌, length, get_or, replicate}
use Rattle.model.specs.Words.{word}
use Rattle.model.specs.Record.{Entry, writable, lent}
use Rattle.refusal.specs.declared.Refusal.{Refusal}
use Rattle.refusal.specs.declared.Refusal.TheVariants.{ShortStore}
use Rattle.statements.specs.declared.Counts.{Counts}
use Rattle.statements.specs.declared.Out.{Out}
use Rattle.statements.specs.declared.Point.{Point}

-- nothing is recorded yet
abbrev pub begun : Bool → Point → Out
begun recording p = record { statements = 0; entries = 0; recording = recording; point = p }

-- what follows is recorded at the point p
abbrev pub at_point : Out → Point → Out
at_point o p = record { statements = o.statements; entries = o.entries; recording = o.recording; point = p }

-- the same with other counts
abbrev pub with_counts : Out → ℕ → ℕ → Out
with_counts o s e = record { statements = s; entries = e; recording = o.recording; point = o.point }

-- o' is o, but perhaps for its point
pub record Alike (o o' : Out) : Type 0 where
  pub statements : o'.statements ≡ o.statements
  pub entries : o'.entries ≡ o.entries
  pub recording : o'.recording ≡ o.recording

-- the entry of its point
abbrev pub point_of : Out → Entry
point_of o = (o.point.op, o.point.arg)

-- how many entries a buffer of n words has room for
unfoldable pub room : ℕ → ℕ
room n = (n - 2) / 2

-- the counts are in range; past the room there is one count for all
pub record Counted (out : List ℕ) (o : Out) : Type 0 where
  pub statements : o.statements ≤ o.entries
  pub entries : o.entries ≤ suc (room (length out))

-- the entries fit, and stand there: ops from word 2 on, args from the middle on
pub record Fits (k : ℕ) (es : List Entry) (out : List ℕ) (o : Out) : Type 0 where
  pub statements : o.statements ≡ k
  pub entries : o.entries ≡ length es
  pub ops : (i : ℕ) → i < length es → word out (2 + i) ≡ (get_or es i (0, 0)).0
  pub args : (i : ℕ) → i < length es → word out (2 + room (length out) + i) ≡ (get_or es i (0, 0)).1

-- k statements of these entries are recorded, or there are too many
pub record Kept (k : ℕ) (es : List Entry) (out : List ℕ) (o : Out) : Type 0 where
  pub fits : length es ≤ room (length out) → Fits k es out o
  pub over : room (length out) < length es → o.entries ≡ suc (room (length out))

-- from out and o to out' and o': n statements, of these entries, are recorded behind what was
pub record Puts (n : ℕ) (out : List ℕ) (o : Out) (out' : List ℕ) (o' : Out) (new : List Entry) : Type 0 where
  pub same : length out' ≡ length out
  pub recording : o'.recording ≡ o.recording
  pub counted : Counted out' o'
  pub kept : (k : ℕ) (es : List Entry) → Kept k es out o → Kept (k + n) (es ++ new) out' o'

-- a record's counts
abbrev pub counts : ℕ → ℕ → Counts
counts s e = record { statements = s; entries = e }

-- the record of k statements is written whole and its counts are told, or the buffer is zeroed
pub record Finished (k : ℕ) (es : List Entry) (out : List ℕ) (o : Out) (out' : List ℕ) (r : Result Counts Refusal) : Type 0 where
  pub answer : Kept k es out o → k ≤ length es → r ≡ cond (writable (length out) es) (Ok (counts k (length es))) (Err ShortStore)
  pub written : Kept k es out o → k ≤ length es → (c : Counts) → r ≡ Ok c
      → out' ≡ lent (length out) (k ∷ length es ∷ (map (λ e. e.0) es ++ map (λ e. e.1) es))
  pub counted : (c : Counts) → r ≡ Ok c → c ≡ counts o.statements o.entries
  pub zeroed : (e : Refusal) → r ≡ Err e → (e ≡ ShortStore) × (out' ≡ replicate (length out) 0)

-- whatever statements they are
abbrev pub Finishes : List ℕ → Out → List ℕ → Result Counts Refusal → Type 0
Finishes out o out' r = (k : ℕ) (es : List Entry) → Finished k es out o out' r
