-- The theorems about trees of places: 1 join, 2 order, 3 measure, 4 walk, 5 collect. The sixth part, about records, is the crate
-- records. There is no code in them. `Good P a` (Answer of base) says that P holds of the value of a, if a is accepted. In the order in
-- which a reader should meet them, each theorem above the file that has it:

-- TREES OF ONE TYPE
-- to settle and to join keep the type: fit_settle, fit_join; of states fits_join
pub mod Typing
-- each node of a state is of a type that a place may have: fits_usable
pub mod Usable
-- the number of nodes, of a join too: joins_sizes
pub mod Sizes
-- 1. JOIN, of trees and of states
-- idempotent, commutative, associative: join_self, join_comm, join_assoc; joins_self, joins_comm, joins_assoc
pub mod Join
-- what the source's own recursion leaves in both trees is one tree, the join: first_join, second_join; firsts_joins, seconds_joins
pub mod Source
-- 2. ORDER: `Above` of base's Order is a preorder (above_refl, above_trans), a join is above both its sides (above_first, above_second),
-- and what is absorbed stays absorbed (above_join); at `trees Γ m t` and at `states Γ m ts`
pub mod Order
-- 1. again: each flag is true exactly if its tree has changed (flag1_changed, flag2_changed; flags1_changed, flags2_changed), and a
-- second join changes neither tree, with both flags false (flags_still, flagss_still)
pub mod Flags
-- 3. MEASURE: it falls with a join that changes the first state (measure_falls), and has a ceiling (measure_bound)
pub mod Measure
-- 4. WALK
-- places, and what refusal 4's tests say of them: used_limits, fold_within, unfold_within
pub mod Places
-- one step to a child: step_law; to a variant: cast_law
pub mod Steps
-- what is asked of the types beside Fit, and that a record that passes has it: types_sound
pub mod Sound
-- a statement on a child, carried out from the node above it: hop_carry, hop_leaf, lift_run
pub mod Hops
-- typing is kept: walk_fit, carry_fit, carries_at_fit
pub mod Walked
-- a walk that reports no change leaves the state as it was: unchanged_same, unchanged_state; and back: same_unchanged
pub mod Unchanged
-- to unfold at the place without its last element is to walk the place: base_walk
pub mod Base
-- where a walk ends, and that one which folds there can be repeated: fresh_end, folding_again
pub mod Ends
-- the projection of one tree: project_folds, project_carry, project_accepted
pub mod Projected
-- of a state: carrying out what is recorded, on the state before, gives the state after (projection_carry); then the place walks without
-- refusal and without change and ends on a folded node (projection_quiet); typing is kept (projection_fits, cast_fits)
pub mod Projection
-- what is recorded: Unfold of the walked place without its last element, or Fold of the place: recording_unfold, projection_recording
pub mod Recorded
-- the number beside an unfold says where the opening began: began, passed_all, projection_tells
pub mod Passed
-- no statement holds an index (collects_unindexed, folds_at_ret_unindexed), and what is collected tells a dash (collects_dashed,
-- folds_at_ret_dashed)
pub mod Lifted
-- nor what a projection records: projection_unindexed
pub mod NoIndex
-- how deep a join and a walk open: joins_depths, walk_deep
pub mod Depth
-- so the depth limit is kept, within refusal 4's limits: walk_levels, projection_levels, cast_at_levels, carries_at_levels
pub mod Levels
-- the states of a run, and that all that a run does keeps them: joins_valid, projection_valid, downcasting_valid
pub mod Valid
-- which refusals there are: walk_refusals, projection_refusals, carry_refusals, collects_refusals
pub mod Refusals
-- rules of document 01 that hold of themselves: unfold_cast, arm_walk
pub mod Agreed
-- 5. COLLECT
-- what is collected from one state to another, carried out on the first, gives the second: collects_carry
pub mod Collected
-- from a state to one above it, collecting is accepted: collects_above
pub mod Above
-- both, in the form of a user: collects_lead, goto_above, goto_join
pub mod Carried
-- it is refused with 6 or 7 exactly at the first clash, said of the trees alone: collects_refused, collects_accepted
pub mod Clash
-- the statements at a return are carried out without refusal: folds_at_ret_carry
pub mod Returned
-- what the conditions are for: trees and places that are led elsewhere without them
mod Needed
