use Rattle.std.proofs.Common.{sym, ◌∙◌}
use Rattle.base.specs.Equal.{zero_word}
use Rattle.fold_unfold.proofs.Tested.{function_formed}
use Rattle.vectors.proofs.checks.joins.Goals as goal

pub invariant_of-record : goal.invariant_of-record
invariant_of-record c = record { laid = (function_formed _ _ (sym c.check_function.ensures ∙ c.if-not-check_function.false)).laid }

pub places_ok-requires : goal.places_ok-requires
places_ok-requires c = function_formed _ _ (sym c.check_function.ensures ∙ c.if-not-check_function.false)

pub fill_join_points-requires-clause-formed : goal.fill_join_points-requires-clause-formed
fill_join_points-requires-clause-formed c = function_formed _ _ (sym c.check_function.ensures ∙ c.if-not-check_function.false)

pub fill_join_points-requires-clause-zeros : goal.fill_join_points-requires-clause-zeros
fill_join_points-requires-clause-zeros c = zero_word 256
