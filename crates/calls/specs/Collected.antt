-- Demand 2 of the three collecting calls: the statements in the lent buffer lead from the first state to the second, and 6 and 7 are given
-- exactly at the first clash of the two trees. n: the length of the lent buffer.
use Rattle.std.specs.Prelude.{◌≡◌, ◌↔◌, List, [], ◌∷◌, map, ℕ, length, ltb}
use Rattle.std.proofs.Math.Path.{refl}
use Rattle.std.proofs.Common.{◌∙◌, ap, arith}
use Rattle.model.specs.Answer.{refused, done}
use Rattle.model.specs.Tree.{Forest, leaves}
use Rattle.model.specs.State.{State}
use Rattle.model.specs.Place.{At}
use Rattle.model.specs.Walk.{carries_at}
use Rattle.model.specs.Collect.{collects, unfoldss, folds_at_ret}
use Rattle.model.specs.Frame.{mark}
use Rattle.model.specs.Rounds.{elem}
use Rattle.model.specs.Record.{entries, statement_record, writable, lent, forget, forget_line}
use Rattle.model.specs.Calls.{typed, taken, written, call_collect, call_unfolds, call_folds}
use Rattle.model.specs.Promised.{OneOf, statements_in, CollectPromise, UnfoldsPromise, FoldsPromise, Clashes, Bare}
use Rattle.base.specs.Tests.{split, clash}
use Rattle.base.specs.Answer.{Good, good_done, good_bind, good_self, good_require, split_answer}
use Rattle.base.specs.Forgotten.{carries_forget}
use Rattle.base.specs.Only.{one_apart, only_at}
use Rattle.laws.specs.Sound.{types_sound}
use Rattle.laws.specs.Carried.{collects_lead, unfoldss_lead}
use Rattle.laws.specs.Clash.{collects_refused, unfoldss_refused}
use Rattle.laws.specs.Refusals.{collecting, collects_refusals}
use Rattle.laws.specs.Returned.{folds_at_ret_carry}
use Rattle.records.specs.Recorded.{recorded_lent}
use Rattle.calls.specs.Tested.{good_typed, good_taken, typed_past, taken_past, decode_valid}

-- what a record keeps of statements that all stand at one point
forget_marked : (i : ℕ) (ts : List At) → map (λ l. l.stmt) (map forget_line (mark i ts)) ≡ map forget ts
unfolding mark
forget_marked i [] = refl
forget_marked i (t ∷ ts) = cc (forget_marked i ts)

-- what is written is read back, but for what is told beside it
read_back : (n : ℕ) (as' : List At) → statements_in (lent n (statement_record 0 (mark 0 as'))) ≡ map forget as'
unfolding statements_in
read_back n as' = ap (map (λ l. l.stmt)) (recorded_lent 0 n (mark 0 as')) ∙ forget_marked 0 as'

-- so it leads where the statements lead
leading : (Γ : List ℕ) (n : ℕ) (as' : List At) (E : Forest) {D : Forest} → carries_at Γ as' E ≡ done D
    → carries_at Γ (statements_in (lent n (statement_record 0 (mark 0 as')))) E ≡ done D
leading Γ n as' E e = ap (λ (ts : List At). carries_at Γ ts E) (read_back n as') ∙ carries_forget Γ as' E ∙ e

module _ (Γ locals : List ℕ) (n : ℕ) where
  -- what holds of the statements, and so of the buffer that they are written to
  written_good : (P : List ℕ → Type 0) (as' : List At) → P (statement_record 0 (mark 0 as')) → Good P (written Γ locals n as')
  unfolding written
  written_good P as' h = good_require P (writable n (entries 0 (mark 0 as'))) 10 _ (λ w. good_done h)

  -- from one state to another
  module _ (s e : State) where
    -- of a record in the buffer
    abbrev Leads : List ℕ → Type 0
    Leads ws = CollectPromise Γ locals s e (lent n ws)

    -- what the call `collect_fold_unfolds` promises of its record
    pub call_led : Good Leads (call_collect Γ locals s e n)
    unfolding call_collect
    call_led = good_typed Leads Γ locals _ (λ p. good_taken Leads Γ locals s _ (λ S sd. good_taken Leads Γ locals e _ (λ E ed.
        good_bind (good_self (collects Γ S E)) (λ a c. written_good Leads a (record {
          from = S;
          to = E;
          from_is = sd;
          to_is = ed;
          leads = leading Γ n a S (collects_lead Γ (types_sound Γ p.types) (decode_valid Γ locals s sd).fits (decode_valid Γ locals e ed).fits c);
        })))))

  -- from all folded
  module _ (s : State) where
    abbrev Opens : List ℕ → Type 0
    Opens ws = UnfoldsPromise Γ locals s (lent n ws)

    -- what the call `collect_unfolds` promises of its record
    pub call_opened : Good Opens (call_unfolds Γ locals s n)
    unfolding call_unfolds
    call_opened = good_typed Opens Γ locals _ (λ p. good_taken Opens Γ locals s _ (λ S sd.
        good_bind (good_self (unfoldss Γ S)) (λ a c. written_good Opens a (record {
          to = S;
          to_is = sd;
          leads = leading Γ n a (leaves locals) (unfoldss_lead Γ (types_sound Γ p.types) (decode_valid Γ locals s sd).fits c);
        }))))

    -- at return
    abbrev Settles : ℕ → List ℕ → Type 0
    Settles a ws = FoldsPromise Γ locals a s (lent n ws)

    -- what the call `collect_folds_at_ret` promises of its record
    pub call_settled : (a : ℕ) → Good (Settles a) (call_folds Γ locals a s n)
    unfolding call_folds
    call_settled a = good_typed (Settles a) Γ locals _ (λ p. good_require (Settles a) (ltb a (length locals)) 3 _ (λ l.
        good_taken (Settles a) Γ locals s _ (λ S sd. written_good (Settles a) (folds_at_ret Γ a S) (record {
          from = S;
          from_is = sd;
          leads = leading Γ n (folds_at_ret Γ a S) S (folds_at_ret_carry Γ (types_sound Γ p.types) a (decode_valid Γ locals s sd).fits);
        }))))

  -- THE REFUSALS

  -- a record that is written is refused with 10 alone
  written_short : (as' : List At) (r : ℕ) → written Γ locals n as' ≡ refused r → r ≡ 10
  unfolding written
  written_short as' r w = split (writable n (entries 0 (mark 0 as'))) (λ b. clash (cc)) (λ b. cc)

  -- the call `collect_fold_unfolds` is refused with 6 or 7 exactly at the first clash of the two trees
  pub call_clashes : (s e : State) (r : ℕ) → ((call_collect Γ locals s e n ≡ refused r) × OneOf collecting r) ↔ Clashes Γ locals s e r
  unfolding call_collect typed taken elem
  call_clashes s e r = (
    λ h.
        let T = typed_past Γ locals _ r h.0 (one_apart collecting 1 r h.1 refl) (one_apart collecting 3 r h.1 refl) in
        let S = taken_past Γ locals s _ r T.1 (one_apart collecting 3 r h.1 refl) in
        let E = taken_past Γ locals e _ r S.2 (one_apart collecting 3 r h.1 refl) in
        split_answer (collects Γ S.0 E.0)
        (λ k d. record {
          types = T.0.types;
          typed = T.0.typed;
          from = S.0;
          to = E.0;
          from_is = S.1;
          to_is = E.1;
          clash = (collects_refused Γ S.0 E.0 r).0 (cc E.2);
        })
        (λ a d. absurd (one_apart collecting 10 r h.1 refl (written_short a r (cc E.2)))),
    λ C.
        let d = (collects_refused Γ C.from C.to r).1 C.clash in
        (cc (C.types, C.typed, C.from_is, C.to_is), only_at (collects_refusals Γ C.from C.to) d),
  )

  -- the call `collect_unfolds` is refused with 7 exactly if the state has a bare variant
  pub call_bare : (s : State) → (call_unfolds Γ locals s n ≡ refused 7) ↔ Bare Γ locals s
  unfolding call_unfolds typed taken
  call_bare s = (
    λ c.
        let T = typed_past Γ locals _ 7 c (omega arith) (omega arith) in
        let S = taken_past Γ locals s _ 7 T.1 (omega arith) in
        split_answer (unfoldss Γ S.0)
        (λ k d. record {
          types = T.0.types;
          typed = T.0.typed;
          to = S.0;
          to_is = S.1;
          bare = ((unfoldss_refused Γ S.0 7).0 (cc S.2)).0;
        })
        (λ a d. let z : 7 ≡ 10 = written_short a 7 (cc S.2) in absurd (omega arith)),
    λ C. let d = (unfoldss_refused Γ C.to 7).1 (C.bare, refl) in cc (C.types, C.typed, C.to_is),
  )
