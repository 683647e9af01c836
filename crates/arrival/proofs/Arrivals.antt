-- An arrival at a join point, in the arrays and in the buffer, is model's: `first_visits` and `second_visits`.
use mathlib.Core.Path.{◌≡◌, refl, ap}
use mathlib.Core.Bool.{Bool, true, false}
use mathlib.Core.List.{List}
use mathlib.Core.Option.{Option, none, some}
use mathlib.Core.Logic.{◌≢◌}
use Prim.Native.Nat.{ℕ, ◌≤◌, ◌<◌}
use Rattle.std.specs.Prelude.{Result, Ok, Err}
use native.Mathlib.Omega.{arith}
use lib.ListN.{length}
use lib.Dec.{leb}
use Rattle.model.specs.Answer.{Answer, refused, done, ◌>>=◌}
use Rattle.model.specs.Tree.{Forest, sizes, joins}
use Rattle.model.specs.State.{most}
use Rattle.model.specs.Typing.{Fits}
use Rattle.model.specs.Collect.{collects}
use Rattle.model.specs.Function.{nblocks, local_types}
use Rattle.model.specs.Block.{is_join_point}
use Rattle.model.specs.Frame.{mark}
use Rattle.base.specs.Tests.{split, clash}
use Rattle.base.specs.Answer.{then_done}
use Rattle.records.specs.Recorded.{length_mark}
use Rattle.blocks.specs.Points.{share_number}
use Rattle.refusal.specs.Refusal.{number, code, answered}
use Rattle.refusal.specs.declared.Refusal.{Refusal}
use Rattle.refusal.specs.declared.Refusal.TheVariants.{BadTypes, BadFunction, BadState, BadPlace, WrongStep, OtherVariant, BareVariant, NoSuchValue, StateFull, ShortStore, UnknownStatement, MergedTooLarge}
use Rattle.statements.specs.declared.Out.{Out}
use Rattle.statements.specs.Points.{point, Tells}
use Rattle.arrival.specs.Memory.{Memory, arrives}
use Rattle.arrival.specs.Shares.{waits_in, arrays, Remembers}
use Rattle.arrival.specs.Visits.{Spoken, exit, Visits}
use Rattle.arrival.specs.Arrivals.{takes, Arrives, Reconciles}
use Rattle.arrival.proofs.Shelves.{lent_of, shelved, shelved_length}
use Rattle.arrival.proofs.Stores.{taken, marked, first_takes, second_owes, saved_typed, takes_same, share_inside, taken_remembers, marked_remembers}
use Rattle.arrival.proofs.Heard.{spoken_told}

-- an arrival in the first pass is refused by 9 alone
takes_nine : (Γ : List ℕ) (o : Option Forest) (E : Forest) {n : ℕ} → takes Γ o E ≡ refused n → n ≡ 9
unfolding takes
takes_nine Γ none E e = clash (cc)
takes_nine Γ (some S) E e = split (leb (sizes (joins Γ false S E)) most) (λ r. clash (cc)) (λ r. cc)

-- a step that answers is refused as its first part is
bind_refused : {A B : Type 0} (a : Answer A) (f : A → B) {n : ℕ} → a >>= (λ x. done (f x)) ≡ refused n → a ≡ refused n
bind_refused (refused k) f e = cc
bind_refused (done x) f e = clash (cc)

-- no refusal has the number 0
number_some : (e : Refusal) → number e ≢ 0
number_some BadTypes = omega arith
number_some BadFunction = omega arith
number_some BadState = omega arith
number_some BadPlace = omega arith
number_some WrongStep = omega arith
number_some OtherVariant = omega arith
number_some BareVariant = omega arith
number_some NoSuchValue = omega arith
number_some StateFull = omega arith
number_some ShortStore = omega arith
number_some UnknownStatement = omega arith
number_some MergedTooLarge = omega arith

-- an arrival that is not refused leaves the record o
abbrev pub leaving : Out → Result (Unit {0}) Refusal → Result Out Refusal
leaving o (Ok u) = Ok o
leaving o (Err e) = Err e

-- a refusal by the code is one of the visit
leaving_refused : (o : Out) (r : Result (Unit {0}) Refusal) {n : ℕ} → code r ≡ n → n ≢ 0 → answered (leaving o r) ≡ refused n
leaving_refused o (Ok u) e z = absurd (z (omega arith))
leaving_refused o (Err d) e z = ap refused e

-- and 0 is none
leaving_done : (o : Out) (r : Result (Unit {0}) Refusal) → code r ≡ 0 → leaving o r ≡ Ok o
leaving_done o (Ok u) e = refl
leaving_done o (Err d) e = absurd (number_some d e)

module _ {Γ fn : List ℕ} {m : Memory} {kept visited waits forms whats out : List ℕ} {o : Out} {c : ℕ}
    (R : Remembers Γ fn m (arrays kept visited waits forms whats)) (l : c < nblocks fn) (j : is_join_point fn c ≡ true) (few : nblocks fn ≤ 256) where
  -- in the first pass
  first_visits₀ : {fs ws kept' waits' : List ℕ} (r : Result (Unit {0}) Refusal) (i : ℕ) (entry : Bool) (E : Forest) → Spoken fn false m.lines out o → Fits Γ (local_types fn) E
      → Arrives Γ (local_types fn) c kept (waits_in fn waits) (takes Γ (m.kept c) E) fs ws kept' (waits_in fn waits') (code r)
      → length kept' ≡ length kept → length waits' ≡ length waits
      → length fs ≡ length (lent_of forms (share_number fn c)) → length ws ≡ length (lent_of whats (share_number fn c))
      → Visits Γ fn false (arrays kept visited waits forms whats) out (arrives Γ fn false (exit fn entry i c E) m)
      (arrays kept' visited waits' (shelved forms (share_number fn c) fs) (shelved whats (share_number fn c) ws)) out (leaving o r)
  first_visits₀ {fs} {ws} {kept'} {waits'} r i entry E S f A k w p q =
      let x = exit fn entry i c E in
      let I = share_inside R l j few in
      rw (first_takes Γ fn x m) (record {
        alike = record {
          kept = k;
          visited = refl;
          waits = w;
          forms = shelved_length forms fs (share_number fn c) I.0 p;
          whats = shelved_length whats ws (share_number fn c) I.1 q;
        };
        same = refl;
        denied = λ n e.
            let d = bind_refused (takes Γ (m.kept c) E) (λ w. taken c w m) e in
            leaving_refused o r (A.denied n d) (λ y. omega (arith, takes_nine Γ (m.kept c) E d));
        over = λ m' e.
            let (t, d, z) = then_done (takes Γ (m.kept c) E) e in
            let y : taken c t m ≡ m' = cc in
            let (g, T) = A.took t d in
            let M = taken_remembers R l j few (takes_same (m.kept c) (saved_typed Γ (local_types fn) _ _ _ (m.kept c) (R.saved c l j)) f d) w p q T in
            rw (← y) (o, leaving_done o r g, M, S);
      })

  -- and in the second
  second_visits₀ : {waits' out' : List ℕ} {v : Result Out Refusal} (i : ℕ) (entry : Bool) (E S : Forest) → m.kept c ≡ some S → Spoken fn true m.lines out o
      → Reconciles fn (point fn entry i) c visited (waits_in fn waits) out o (collects Γ E S) (waits_in fn waits') out' v
      → length waits' ≡ length waits
      → Visits Γ fn true (arrays kept visited waits forms whats) out (arrives Γ fn true (exit fn entry i c E) m) (arrays kept visited waits' forms whats) out' v
  second_visits₀ {waits'} {out'} {v} i entry E T k S A w =
      let x = exit fn entry i c E in
      rw (second_owes Γ fn x m k) (record {
        alike = record { kept = refl; visited = refl; waits = w; forms = refl; whats = refl };
        same = A.same;
        denied = λ n e. A.denied n (bind_refused (collects Γ E T) (λ ts. marked x ts m) e);
        over = λ m' e.
            let (ts, d, z) = then_done (collects Γ E T) e in
            let y : marked x ts m ≡ m' = cc in
            let (q, g, P) = A.told ts d in
            let L : Tells fn out o out' q (mark (point fn entry i) ts) = record { told = λ u. rw (length_mark (point fn entry i) ts) P; silent = λ u. clash (cc S.pen) } in
            rw (← y) (q, g, marked_remembers R l j few x ts refl w (A.waiting ts d), spoken_told S L);
      })

  -- so where the pass does not record
  pub first_visits : {recording : Bool} {fs ws kept' waits' : List ℕ} (r : Result (Unit {0}) Refusal) (i : ℕ) (entry : Bool) (E : Forest) → recording ≡ false
      → Spoken fn recording m.lines out o → Fits Γ (local_types fn) E
      → Arrives Γ (local_types fn) c kept (waits_in fn waits) (takes Γ (m.kept c) E) fs ws kept' (waits_in fn waits') (code r)
      → length kept' ≡ length kept → length waits' ≡ length waits
      → length fs ≡ length (lent_of forms (share_number fn c)) → length ws ≡ length (lent_of whats (share_number fn c))
      → Visits Γ fn recording (arrays kept visited waits forms whats) out (arrives Γ fn recording (exit fn entry i c E) m)
      (arrays kept' visited waits' (shelved forms (share_number fn c) fs) (shelved whats (share_number fn c) ws)) out (leaving o r)
  first_visits {recording = false} r i entry E e = first_visits₀ r i entry E
  first_visits {recording = true} r i entry E e = clash (cc)

  -- and where it does
  pub second_visits : {recording : Bool} {waits' out' : List ℕ} {v : Result Out Refusal} (i : ℕ) (entry : Bool) (E S : Forest) → m.kept c ≡ some S → recording ≡ true
      → Spoken fn recording m.lines out o
      → Reconciles fn (point fn entry i) c visited (waits_in fn waits) out o (collects Γ E S) (waits_in fn waits') out' v
      → length waits' ≡ length waits
      → Visits Γ fn recording (arrays kept visited waits forms whats) out (arrives Γ fn recording (exit fn entry i c E) m) (arrays kept visited waits' forms whats) out' v
  second_visits {recording = true} i entry E S k e = second_visits₀ i entry E S k
  second_visits {recording = false} i entry E S k e = clash (cc)
