-- The call for users: its answer, by what its tests and the join of the trees find. Assumes nothing.
use Rattle.std.proofs.Common.{Option, Some, None, Ok}
use mathlib.Core.Path.{◌≡◌, refl, sym, ◌∙◌, ap}
use mathlib.Core.Bool.{Bool, false, cond}
use mathlib.Core.List.{List}
use mathlib.Core.Option.{some}
use Prim.Native.Nat.{ℕ, ◌≤◌}
use native.Mathlib.Omega.{arith}
use lib.Dec.{leb}
use borrow.Author.Tests.{leb-true}
use Rattle.model.specs.Answer.{Answer, refused, done}
use Rattle.model.specs.Tree.{Forest, sizes, joins, flagss}
use Rattle.model.specs.State as Model
use Rattle.model.specs.Walk.{fitting}
use Rattle.model.specs.Calls.{taken, call_join}
use Rattle.base.specs.Tests.{split, clash}
use Rattle.base.specs.Answer.{split_answer, good_at}
use Rattle.base.specs.Only.{only_at}
use Rattle.calls.specs.Numbers.{join_refuses}
use Rattle.calls.proofs.Joined.{call_joined}
use Rattle.mir.specs.Parts.{is_some}
use Rattle.state.specs.Value.{value}
use Rattle.state.specs.declared.nodes.State.{State}
use Rattle.input.specs.Input.{Checked}
use Rattle.input.proofs.Tested.{typed_goes, typed_stops, taken_goes, taken_stops}
use Rattle.refusal.specs.declared.Refusal.{Refusal}
use Rattle.refusal.specs.declared.Refusal.TheVariants.{BadTypes, BadFunction, BadState, BadPlace, WrongStep, OtherVariant, BareVariant, NoSuchValue, StateFull, ShortStore, UnknownStatement, MergedTooLarge}
use Rattle.refusal.specs.Refusal.{number, answered}
use Rattle.join.specs.declared.trees.Joined.{Joined}
use Rattle.join.specs.declared.Merged.{Merged}
use Rattle.join.specs.Answers.{joined_to, joined, JoinedIn, refusal, flag_of, Joins, Promises}

-- a refusal gives the first state back
pub joins_refused : {s : State} {a : Answer (Bool × Model.State)} {r : Merged} {x : Refusal} → a ≡ refused (number x) → r ≡ refusal x s → Joins s a r
joins_refused {a} {r} {x} e p =
    record {
      answer = ap (λ (j : Merged). answered j.answer) p ∙ ap flag_of (sym e);
      moved = λ w d. absurd (cc);
      kept = λ k d. ap (λ (j : Merged). j.state) p;
    }

-- an answer
pub joins_done : {s : State} {a : Answer (Bool × Model.State)} {r : Merged} {w : Bool × Model.State} → a ≡ done w → r.answer ≡ Ok w.0 → value r.state ≡ w.1
    → Joins s a r
joins_done {w} e p q =
    record {
      answer = ap answered p ∙ ap flag_of (sym e);
      moved = λ v d. let same : w ≡ v = cc in q ∙ ap (λ (u : Bool × Model.State). u.1) same;
      kept = λ n d. absurd (cc);
    }

-- no refusal has the number 0
number_pos : (x : Refusal) → number x ≡ 0 → ⊥
number_pos BadTypes e = absurd (omega arith)
number_pos BadFunction e = absurd (omega arith)
number_pos BadState e = absurd (omega arith)
number_pos BadPlace e = absurd (omega arith)
number_pos WrongStep e = absurd (omega arith)
number_pos OtherVariant e = absurd (omega arith)
number_pos BareVariant e = absurd (omega arith)
number_pos NoSuchValue e = absurd (omega arith)
number_pos StateFull e = absurd (omega arith)
number_pos ShortStore e = absurd (omega arith)
number_pos UnknownStatement e = absurd (omega arith)
number_pos MergedTooLarge e = absurd (omega arith)

-- a state that does not pass is refused by the number that its test gives
given_stops : (Γ locals : List ℕ) (s : Model.State) {A : Type 0} (x : Refusal) → number x ≡ cond (is_some (Model.decode Γ locals s)) 0 3 → (f : Forest → Answer A)
    → taken Γ locals s f ≡ refused (number x)
given_stops Γ locals s x g f =
    let three : 3 ≡ number x = split (is_some (Model.decode Γ locals s)) (λ e. absurd (number_pos x (rw e at g))) (λ e. sym (rw e at g)) in
    taken_stops Γ locals s g (number_pos x) f ∙ ap (λ (n : ℕ). refused n) three

module _ {Γ locals os : List ℕ} (s e : Model.State) where
  -- the types or the local types do not pass
  pub call_untyped : (x : Refusal) → Checked Γ locals os (number x) → call_join Γ locals s e ≡ refused (number x)
  unfolding call_join
  call_untyped x c = typed_stops c _ (number_pos x)

  module _ (c : Checked Γ locals os 0) where
    -- the first state does not
    pub call_first : (x : Refusal) → number x ≡ cond (is_some (Model.decode Γ locals s)) 0 3 → call_join Γ locals s e ≡ refused (number x)
    unfolding call_join
    call_first x g = typed_goes c _ refl ∙ given_stops Γ locals s x g _

    module _ {S : Forest} (d : Model.decode Γ locals s ≡ some S) where
      -- the second does not
      pub call_second : (x : Refusal) → number x ≡ cond (is_some (Model.decode Γ locals e)) 0 3 → call_join Γ locals s e ≡ refused (number x)
      unfolding call_join
      call_second x g = typed_goes c _ refl ∙ taken_goes Γ locals s _ d ∙ given_stops Γ locals e x g _

      module _ {E : Forest} (f : Model.decode Γ locals e ≡ some E) where
        -- the join has no room
        pub call_full : None ≡ joined Γ S E → call_join Γ locals s e ≡ refused 9
        unfolding call_join joined fitting
        call_full j =
            typed_goes c _ refl ∙ taken_goes Γ locals s _ d ∙ taken_goes Γ locals e _ f
            ∙ split (leb (sizes (joins Γ false S E)) 512) (λ l. absurd (cc)) (λ l. rw l)

        -- it has
        pub call_to : {j : Joined} → Some j ≡ joined Γ S E
            → (call_join Γ locals s e ≡ done (j.changed, Model.encode Γ (joins Γ false S E))) × (sizes (joins Γ false S E) ≤ 512) × (j.nodes ≡ sizes (joins Γ false S E))
        unfolding call_join joined fitting
        call_to {j} w =
            split (leb (sizes (joins Γ false S E)) 512)
            (λ l.
            let is : j ≡ joined_to (sizes (joins Γ false S E)) (flagss Γ false S E).0 = cc in
            let flag : j.changed ≡ (flagss Γ false S E).0 = ap (λ (k : Joined). k.changed) is in (
              typed_goes c _ refl ∙ taken_goes Γ locals s _ d ∙ taken_goes Γ locals e _ f ∙ rw (l, flag),
              leb-true (sizes (joins Γ false S E)) 512 l,
              ap (λ (k : Joined). k.nodes) is,
            ))
            (λ l. absurd (cc))

-- the state that is built of the arrays
pub joined_value : {Γ : List ℕ} {S E : Forest} {r : Option Joined} {of ow : List ℕ} {n : ℕ} → JoinedIn Γ S E r of ow → sizes (joins Γ false S E) ≤ 512 → n ≡ sizes (joins Γ false S E)
    → ◌≡◌ {A = Model.State} (record { forms = of; whats = ow; nodes = n }) (Model.encode Γ (joins Γ false S E))
unfolding Model.encode
joined_value J l e = λ i. record { forms = J.forms l i; whats = J.whats l i; nodes = e i }

-- what is promised follows
pub promised : (Γ locals : List ℕ) (s e : State) {r : Merged} → Joins s (call_join Γ locals (value s) (value e)) r
    → Joins s (call_join Γ locals (value s) (value e)) r × Promises Γ locals s e r
promised Γ locals s e {r} J =
    let a = call_join Γ locals (value s) (value e) in (
      J,
      record {
        numbered = λ x h. split_answer a
            (λ k d. let is : k ≡ number x = cc (J.answer, ap answered h) in rw (← is) (only_at (join_refuses Γ locals (value s) (value e)) d))
            (λ w d. clash (cc (J.answer, ap answered h)));
        joined = λ b h. split_answer a
            (λ k d. clash (cc (J.answer, ap answered h)))
            (λ w d. let f : w.0 ≡ b = cc (J.answer, ap answered h) in rw (← f, J.moved w d) (good_at (call_joined Γ locals (value s) (value e)) d));
      },
    )
