-- `fold_unfold::checked` meets its contract: its tests are model's, in order.
use mathlib.Core.Path.{sym, ◌∙◌}
use native.Mathlib.Omega.{arith}
use Rattle.fold_unfold.proofs.Tested.{function_formed, few_joins, denied_function, denied_places, denied_forms, denied_whats, all_pass}
use Rattle.fold_unfold.proofs.checked.Goals as goal
use Rattle.fold_unfold.proofs.checked.Goals.{then-forms-k-via-then-forms-k, then-forms-k-via-else-forms-k+then-whats-k}

pub check_function-requires : goal.check_function-requires
check_function-requires c = c.requires.types_value

pub returns-then-not-check_function : goal.returns-then-not-check_function
returns-then-not-check_function c =
    denied_function c.requires.types_value (sym c.check_function.ensures ∙ c.if-not-check_function.true)

pub invariant_of-record : goal.invariant_of-record
invariant_of-record c = record { laid = (function_formed _ _ (sym c.check_function.ensures ∙ c.if-not-check_function.false)).laid }

pub places_ok-requires : goal.places_ok-requires
places_ok-requires c = function_formed _ _ (sym c.check_function.ensures ∙ c.if-not-check_function.false)

pub returns-then-not-places_ok : goal.returns-then-not-places_ok
returns-then-not-places_ok c =
    denied_places c.requires.types_value (sym c.check_function.ensures ∙ c.if-not-check_function.false) (sym c.places_ok.ensures ∙ c.if-not-places_ok.true)

pub fill_join_points-k-requires : goal.fill_join_points-k-requires
fill_join_points-k-requires c =
    record { formed = function_formed _ _ (sym c.check_function.ensures ∙ c.if-not-check_function.false); in_bounds = c.requires.in_bounds; zeros = c.requires.zeros }

pub overflow_mul-k : goal.overflow_mul-k
overflow_mul-k c =
    let L = function_formed _ _ (sym c.check_function.ensures ∙ c.if-not-check_function.false) in
    omega (arith, c.fill_join_points-k.ensures.count, few_joins L.laid)

pub returns-then-forms-k : goal.returns-then-forms-k
returns-then-forms-k c =
    let t = c.requires.types_value in
    let f = sym c.check_function.ensures ∙ c.if-not-check_function.false in
    let p = sym c.places_ok.ensures ∙ c.if-not-places_ok.false in
    elim c.then-forms-k.branch [
      | then-forms-k-via-then-forms-k w ↦ denied_forms t f p (omega (arith, c.fill_join_points-k.ensures.count))
      | then-forms-k-via-else-forms-k+then-whats-k w ↦ denied_whats t f p (omega (arith, c.fill_join_points-k.ensures.count))
    ]

pub returns : goal.returns
returns c =
    let f = sym c.check_function.ensures ∙ c.if-not-check_function.false in
    let j = c.fill_join_points-k.ensures in
    let L = function_formed _ _ f in
    all_pass c.requires.types_value f (sym c.places_ok.ensures ∙ c.if-not-places_ok.false) L
    (record { long = omega (arith, j.shares.0, L.laid.most_blocks, c.requires.in_bounds); numbers = j.shares.1 })
    (omega (arith, c.if-forms-k.false, j.count)) (omega (arith, c.if-whats-k.false, j.count))
