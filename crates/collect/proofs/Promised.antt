-- What the calls promise beside their answers follows from these. n: the length of the lent buffer.
use mathlib.Core.Path.{◌≡◌, refl, sym, ◌∙◌, ap}
use mathlib.Core.Logic.{◌↔◌}
use mathlib.Core.List.{List, [], ◌∷◌}
use Prim.Native.Nat.{ℕ, zero, suc, ◌-◌, ◌<◌}
use native.Mathlib.Omega.{arith}
use lib.ListN.{get_or}
use Rattle.std.specs.Prelude.{Result, Ok, Err}
use Rattle.model.specs.Rounds.{elem}
use Rattle.model.specs.Answer.{Answer, refused, done}
use Rattle.model.specs.Record.{lent}
use Rattle.model.specs.Calls.{call_collect, call_unfolds, call_folds}
use Rattle.model.specs.Promised.{OneOf, CollectPromise, UnfoldsPromise, FoldsPromise}
use Rattle.base.specs.Tests.{clash}
use Rattle.refusal.specs.declared.Refusal.{Refusal}
use Rattle.refusal.specs.declared.Refusal.TheVariants.{BadTypes, BadFunction, BadState, BadPlace, WrongStep, OtherVariant, BareVariant, NoSuchValue, StateFull, ShortStore, UnknownStatement, MergedTooLarge}
use Rattle.refusal.specs.Refusal.{number, code, answered}
use Rattle.base.specs.Answer.{Good, good_at, split_answer}
use Rattle.base.specs.Only.{Only, only_at}
use Rattle.calls.specs.Numbers.{collect_refuses, unfolds_refuses, folds_refuses}
use Rattle.calls.specs.Collected.{call_led, call_opened, call_settled, call_clashes, call_bare}
use Rattle.state.specs.Value.{value}
use Rattle.state.specs.declared.nodes.State.{State}
use Rattle.statements.specs.declared.Counts.{Counts}
use Rattle.collect.specs.Answers.{heading, Writes, Leads, Opens, Settles}

-- a refusal, by its number
by_number : ℕ → Refusal
by_number n =
    get_or (BadTypes ∷ BadFunction ∷ BadState ∷ BadPlace ∷ WrongStep ∷ OtherVariant ∷ BareVariant ∷ NoSuchValue ∷ StateFull ∷ ShortStore ∷ UnknownStatement ∷ MergedTooLarge ∷ []) (n - 1) BadTypes

number_back : (x : Refusal) → by_number (number x) ≡ x
unfolding by_number
number_back BadTypes = refl
number_back BadFunction = refl
number_back BadState = refl
number_back BadPlace = refl
number_back WrongStep = refl
number_back OtherVariant = refl
number_back BareVariant = refl
number_back NoSuchValue = refl
number_back StateFull = refl
number_back ShortStore = refl
number_back UnknownStatement = refl
number_back MergedTooLarge = refl

-- a result whose answer is a refusal: its code, and the refusal
answered_code : {A : Type 0} (r : Result A Refusal) (k : ℕ) → 0 < k → (code r ≡ k) ↔ (answered r ≡ refused k)
answered_code (Ok x) k l = (λ e. absurd (omega arith), λ e. clash (cc))
answered_code (Err x) k l = (λ e. cc, λ e. cc)

answered_err : {A : Type 0} (r : Result A Refusal) (x : Refusal) → answered r ≡ refused (number x) → r ≡ Err x
answered_err (Ok y) x e = clash (cc)
answered_err (Err y) x e =
    let same : number y ≡ number x = cc in
    ap Err (sym (number_back y) ∙ ap by_number same ∙ number_back x)

-- 6 and 7 are more than 0
some_of : {k : ℕ} → OneOf (6 ∷ 7 ∷ []) k → 0 < k
unfolding elem
some_of {k = zero} h = clash (cc)
some_of {k = suc k} h = omega arith

-- the call's answer is a
module _ {n : ℕ} (a : Answer (List ℕ)) {r : Result Counts Refusal} {out' : List ℕ} (W : Writes n a r out') where
  -- it is refused exactly as a is
  refused_as : (k : ℕ) → (answered r ≡ refused k) ↔ (a ≡ refused k)
  refused_as k = split_answer a
      (λ m d. let w : answered r ≡ refused m = rw d at W.answer in (λ h. cc, λ h. cc))
      (λ ws d. let w : answered r ≡ heading ws = rw d at W.answer in (λ h. clash (cc), λ h. clash (cc)))

  -- by the numbers of a
  numbers_of : {ns : List ℕ} → Only ns a → (x : Refusal) → r ≡ Err x → OneOf ns (number x)
  numbers_of o x h = only_at o ((refused_as (number x)).0 (ap answered h))

  -- what holds of a record of a holds of the buffer
  buffer_of : (P : List ℕ → Type 0) → Good (λ ws. P (lent n ws)) a → (k : Counts) → r ≡ Ok k → P out'
  buffer_of P g k h = split_answer a
      (λ m d. let w : answered r ≡ refused m = rw d at W.answer in let e : answered r ≡ done k = ap answered h in clash (cc))
      (λ ws d. let e : out' ≡ lent n ws = cc W.left in rw e (good_at g d))

module _ (Γ locals : List ℕ) (n : ℕ) {r : Result Counts Refusal} {out' : List ℕ} where
  -- from one state to another
  pub collect_promised : (s e : State) → Writes n (call_collect Γ locals (value s) (value e) n) r out'
      → record { writes : Writes n (call_collect Γ locals (value s) (value e) n) r out'; promised : Leads Γ locals s e r out' }
  collect_promised s e W =
      let a = call_collect Γ locals (value s) (value e) n in
      record {
        writes = W;
        promised = record {
          numbered = numbers_of a W (collect_refuses Γ locals n (value s) (value e));
          leads = buffer_of a W (CollectPromise Γ locals (value s) (value e)) (call_led Γ locals n (value s) (value e));
          clashes = λ k. let c = call_clashes Γ locals n (value s) (value e) k in
              (λ h. let l = some_of h.1 in c.0 ((refused_as a W k).0 ((answered_code r k l).0 h.0), h.1), λ C. let h = c.1 C in ((answered_code r k (some_of h.1)).1 ((refused_as a W k).1 h.0), h.1));
        };
      }

  -- from all folded
  pub unfolds_promised : (s : State) → Writes n (call_unfolds Γ locals (value s) n) r out'
      → record { writes : Writes n (call_unfolds Γ locals (value s) n) r out'; promised : Opens Γ locals s r out' }
  unfolds_promised s W =
      let a = call_unfolds Γ locals (value s) n in
      record {
        writes = W;
        promised = record {
          numbered = numbers_of a W (unfolds_refuses Γ locals n (value s));
          leads = buffer_of a W (UnfoldsPromise Γ locals (value s)) (call_opened Γ locals n (value s));
          bare = let c = call_bare Γ locals n (value s) in (λ h. c.0 ((refused_as a W 7).0 (ap answered h)), λ B. answered_err r BareVariant ((refused_as a W 7).1 (c.1 B)));
        };
      }

  -- at return
  pub folds_promised : (x : ℕ) (s : State) → Writes n (call_folds Γ locals x (value s) n) r out'
      → record { writes : Writes n (call_folds Γ locals x (value s) n) r out'; promised : Settles Γ locals x s r out' }
  folds_promised x s W =
      let a = call_folds Γ locals x (value s) n in
      record {
        writes = W;
        promised = record {
          numbered = numbers_of a W (folds_refuses Γ locals n x (value s));
          leads = buffer_of a W (FoldsPromise Γ locals x (value s)) (call_settled Γ locals n (value s) x);
        };
      }
