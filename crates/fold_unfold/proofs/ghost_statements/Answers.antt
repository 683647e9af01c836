-- `fold_unfold::ghost_statements` meets its contract: all that was lent is wiped, and the types are refused, or the passes leave a record with its
-- marks, for whose numbers there is room or not.
use mathlib.Core.Path.{◌≡◌, sym, ◌∙◌}
use mathlib.Core.List.{List}
use Prim.Native.Nat.{ℕ}
use native.Mathlib.Omega.{arith}
use lib.ListN.{replicate}
use Rattle.std.proofs.lemmas.Result.{err_from_is_err_and}
use Rattle.fold_unfold.proofs.Answered.{own_zeros}
use Rattle.fold_unfold.proofs.Numbers.{marked_held, told_none, told_over, told_beside, types_refuse, marked_same, told_replayed, told_numbered, told_began, told_small}
use Rattle.fold_unfold.proofs.ghost_statements.Goals as goal

-- zeros, as many as there were
zeros_as : {m n : ℕ} {l : List ℕ} → l ≡ replicate m 0 → m ≡ n → l ≡ replicate n 0
zeros_as e d = rw d at e

pub returns-then-not-check_types : goal.returns-then-not-check_types
returns-then-not-check_types c =
    let W = types_refuse (sym c.check_types.ensures.answer ∙ c.if-not-check_types.true) (c.fill.ensures.after (λ y e. e)) (c.fill-2.ensures.after (λ y e. e)) (c.fill-3.ensures.after (λ y e. e)) (c.fill-4.ensures.after (λ y e. e)) in
    record { whole_told = W; replayed = tt; began = tt; small = told_small W; numbered = told_numbered W }

pub invariant_of-types : goal.invariant_of-types
invariant_of-types c =
    let p = c.if-not-check_types.false in
    record { ready = record { typed = sym c.check_types.ensures.answer ∙ p; offsets = c.check_types.ensures.filled p } }

pub marked_statements-requires : goal.marked_statements-requires
marked_statements-requires c =
    let a = c.args in
    record {
      all_zero = record {
        forms = own_zeros a.forms.now (c.fill.ensures.after (λ y e. e));
        whats = own_zeros a.whats.now (c.fill-2.ensures.after (λ y e. e));
        blank = own_zeros a.out.now (c.fill-3.ensures.after (λ y e. e));
      };
    }

pub returns-in_err-g : goal.returns-in_err-g
returns-in_err-g c =
    let r = err_from_is_err_and c.from_residual.result c.from_residual.ensures.1 in
    let W = told_none c.args.told.now (marked_same c.fill.auto.self c.fill-2.auto.self c.fill-3.auto.self c.in_err-g.ensures) (c.fill-4.ensures.after (λ y e. e)) in
    rw (r.1, r.2) (record { whole_told = W; replayed = tt; began = tt; small = told_small W; numbered = told_numbered W })

pub returns-then-room-g : goal.returns-then-room-g
returns-then-room-g c =
    let g = c.marked_statements in
    let M = marked_same c.fill.auto.self c.fill-2.auto.self c.fill-3.auto.self c.in_ok-g.ensures in
    let W = told_over c.args.told.now M (omega (arith, c.fill-4.auto.self))
    (zeros_as (c.fill-then-room-g.ensures.after (λ y e. e)) (g.auto.forms ∙ c.fill.auto.self)) (zeros_as (c.fill-then-room-g-2.ensures.after (λ y e. e)) (g.auto.whats ∙ c.fill-2.auto.self))
    (zeros_as (c.fill-then-room-g-3.ensures.after (λ y e. e)) (g.auto.out ∙ c.fill-3.auto.self)) (c.fill-4.ensures.after (λ y e. e)) in
    record { whole_told = W; replayed = tt; began = tt; small = told_small W; numbered = told_numbered W }

pub tell_numbers-requires : goal.tell_numbers-requires
tell_numbers-requires c = marked_held c.in_ok-g.ensures

pub unmark-requires : goal.unmark-requires
unmark-requires c = marked_held c.in_ok-g.ensures

pub returns : goal.returns
returns c =
    let M = marked_same c.fill.auto.self c.fill-2.auto.self c.fill-3.auto.self c.in_ok-g.ensures in
    let W = told_beside c.args.told.now M (omega (arith, c.fill-4.auto.self)) c.unmark.ensures (c.fill-4.ensures.after (λ y e. e)) c.tell_numbers.ensures in
    record { whole_told = W; replayed = told_replayed W; began = told_began W; small = told_small W; numbered = tt }
