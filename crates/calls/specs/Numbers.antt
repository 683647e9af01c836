-- Demand 1 of the calls on states: with which numbers each refuses. n: the length of the lent buffer of a collecting call.
use Rattle.std.specs.Prelude.{◌≡◌, Bool, true, ℕ, length, ltb}
use Rattle.std.proofs.Math.Path.{refl}
use Rattle.std.proofs.Math.Bool.{false}
use mathlib.Core.List.{List, [], ◌∷◌}
use Rattle.std.proofs.Math.Option.{Option, none, some}
use Rattle.model.specs.Answer.{Answer, refused}
use Rattle.model.specs.Types.{types_ok}
use Rattle.model.specs.Tree.{Forest, joins}
use Rattle.model.specs.State.{State, decode, locals_ok}
use Rattle.model.specs.Place.{Spot, Fold, Unfold, At, used_ok}
use Rattle.model.specs.Collect.{unfoldss, folds_at_ret}
use Rattle.model.specs.Frame.{mark}
use Rattle.model.specs.Rounds.{elem}
use Rattle.model.specs.Record.{entries, writable}
use Rattle.model.specs.Calls.{typed, taken, placed, spot_of, statement_ok, statement_at, written, call_projection, call_downcast, call_carry, call_join, call_collect, call_unfolds, call_folds}
use Rattle.model.specs.Promised.{OneOf, use_numbers, unfold_numbers, join_numbers, collect_numbers, unfolds_numbers, folds_numbers}
use Rattle.base.specs.Only.{Only, only_refused, only_done, only_bind, only_require, only_more, only_of}
use Rattle.laws.specs.Places.{used_limits}
use Rattle.laws.specs.Clash.{unfoldss_refused}
use Rattle.laws.specs.Refusals.{projection_refusals, downcasting_refusals, carry_at_refusals, fold_refusals, fitting_refusals, collects_refusals}
use Rattle.calls.specs.Tested.{decode_valid}

-- by cases on what may be there
option_only : {A B : Type 0} (ns : List ℕ) (o : Option A) (r : ℕ) (f : A → Answer B) → OneOf ns r → ((a : A) → o ≡ some a → Only ns (f a))
    → Only ns {A = B} (elim o [ none ↦ refused r | some a ↦ f a ])
option_only ns none r f e h = only_refused e
option_only ns (some a) r f e h = h a refl

module _ (ns : List ℕ) {A : Type 0} (Γ locals : List ℕ) where
  -- the types and local types
  only_typed : OneOf ns 1 → OneOf ns 3 → (f : Unit {0} → Answer A) → Only ns (f tt) → Only ns (typed Γ locals f)
  unfolding typed
  only_typed one three f h = only_require ns (types_ok Γ) 1 _ one (λ t. only_require ns (locals_ok Γ locals) 3 f three (λ l. h))

  -- a state
  only_taken : OneOf ns 3 → (s : State) (f : Forest → Answer A) → ((E : Forest) → decode Γ locals s ≡ some E → Only ns (f E)) → Only ns (taken Γ locals s f)
  unfolding taken
  only_taken three s f h = option_only ns (decode Γ locals s) 3 f three h

  -- a place
  only_placed : OneOf ns 4 → (ok : Spot → Bool) (ops args : List ℕ) (f : Spot → Answer A) → ((q : Spot) → ok q ≡ true → Only ns (f q))
      → Only ns (placed ok ops args f)
  unfolding placed
  only_placed four ok ops args f h = option_only ns (spot_of ops args) 4 _ four (λ q e. only_require ns (ok q) 4 (λ _. f q) four (h q))

module _ (Γ locals : List ℕ) where
  -- A PLACE

  -- used
  pub projection_refuses : (s : State) (ops args : List ℕ) → Only use_numbers (call_projection Γ locals s ops args)
  unfolding call_projection elem
  projection_refuses s ops args = only_typed use_numbers Γ locals refl refl _ (only_taken use_numbers Γ locals refl s _ (λ E sd.
      only_placed use_numbers Γ locals refl (used_ok (length locals)) ops args _ (λ q ok.
      only_bind (only_more refl (projection_refusals Γ q (decode_valid Γ locals s sd).fits (used_limits (length locals) q ok).known)) (λ r. only_done))))

  -- opened at a variant
  pub downcast_refuses : (s : State) (ops args : List ℕ) (v : ℕ) → Only use_numbers (call_downcast Γ locals s ops args v)
  unfolding call_downcast elem
  downcast_refuses s ops args v = only_typed use_numbers Γ locals refl refl _ (only_taken use_numbers Γ locals refl s _ (λ E sd.
      only_placed use_numbers Γ locals refl (used_ok (length locals)) ops args _ (λ q ok.
      only_bind (only_more refl (downcasting_refusals Γ q v E)) (λ D. only_done))))

  -- A STATEMENT CARRIED OUT

  -- a fold
  pub fold_refuses : (s : State) (ops args : List ℕ) → Only use_numbers (call_carry Γ locals Fold s ops args)
  unfolding call_carry elem statement_at
  fold_refuses s ops args = only_typed use_numbers Γ locals refl refl _ (only_taken use_numbers Γ locals refl s _ (λ E sd.
      only_placed use_numbers Γ locals refl (statement_ok Γ locals Fold) ops args _ (λ q ok.
      only_bind (only_bind (only_more refl (fold_refusals Γ (statement_at Γ locals Fold q) E refl)) (λ D. only_more refl (fitting_refusals Γ D))) (λ D. only_done))))

  -- an unfold
  pub unfold_refuses : (s : State) (ops args : List ℕ) → Only unfold_numbers (call_carry Γ locals Unfold s ops args)
  unfolding call_carry elem
  unfold_refuses s ops args = only_typed unfold_numbers Γ locals refl refl _ (only_taken unfold_numbers Γ locals refl s _ (λ E sd.
      only_placed unfold_numbers Γ locals refl (statement_ok Γ locals Unfold) ops args _ (λ q ok.
      only_bind (only_bind (only_more refl (carry_at_refusals Γ (statement_at Γ locals Unfold q) E)) (λ D. only_more refl (fitting_refusals Γ D))) (λ D. only_done))))

  -- A JOIN

  pub join_refuses : (s e : State) → Only join_numbers (call_join Γ locals s e)
  unfolding call_join elem
  join_refuses s e = only_typed join_numbers Γ locals refl refl _ (only_taken join_numbers Γ locals refl s _ (λ S sd. only_taken join_numbers Γ locals refl e _ (λ E ed.
      only_bind (only_more refl (fitting_refusals Γ (joins Γ false S E))) (λ D. only_done))))

  -- COLLECTING

  module _ (n : ℕ) where
    -- the record
    written_refuses : (as' : List At) → Only (10 ∷ []) (written Γ locals n as')
    unfolding written elem
    written_refuses as' = only_require (10 ∷ []) (writable n (entries 0 (mark 0 as'))) 10 _ refl (λ w. only_done)

    -- from one state to another
    pub collect_refuses : (s e : State) → Only collect_numbers (call_collect Γ locals s e n)
    unfolding call_collect elem
    collect_refuses s e = only_typed collect_numbers Γ locals refl refl _ (only_taken collect_numbers Γ locals refl s _ (λ S sd. only_taken collect_numbers Γ locals refl e _ (λ E ed.
        only_bind (only_more refl (collects_refusals Γ S E)) (λ a. only_more refl (written_refuses a)))))

    -- from all folded
    pub unfolds_refuses : (s : State) → Only unfolds_numbers (call_unfolds Γ locals s n)
    unfolding call_unfolds elem
    unfolds_refuses s = only_typed unfolds_numbers Γ locals refl refl _ (only_taken unfolds_numbers Γ locals refl s _ (λ S sd.
        only_bind (only_of (unfoldss Γ S) (λ k e. rw ((unfoldss_refused Γ S k).0 e).1 refl)) (λ a. only_more refl (written_refuses a))))

    -- at return
    pub folds_refuses : (a : ℕ) (s : State) → Only folds_numbers (call_folds Γ locals a s n)
    unfolding call_folds elem
    folds_refuses a s = only_typed folds_numbers Γ locals refl refl _ (only_require folds_numbers (ltb a (length locals)) 3 _ refl (λ l.
        only_taken folds_numbers Γ locals refl s _ (λ S sd. only_more refl (written_refuses (folds_at_ret Γ a S)))))
