-- Moving type numbers from one type record to another changes no answer, and two type records that become one are such a move (document 02,
-- F-6). In the order in which a reader should meet them, each law above the file that has it:

-- what is asked of the words, `Embeds`, and what trees see of it, `Moves`: embeds_moves
pub mod Moves
-- OVER TREES
-- the trees that are moved; joins, flags, the measure and state records: joins_moved, flagss_moved, measure_moved, encode_moved
pub mod Retyped
-- what is collected is the same: collects_moved, folds_at_ret_moved
pub mod Collected
-- a walk, and what is carried out: walk_moved, carry_at_moved, cast_at_moved
pub mod Walked
-- the flags of a walk that is accepted (same_walk), a place used (projection_moved), what a match is on (subject_at_moved)
pub mod Projected
-- one block's own run (body_moved); moving types goes along with a function's frame: frame_along
pub mod Bodies
-- FUNCTIONS
-- records that differ in their local types alone, `Alike`, say the same: function_ok_alike, stations_alike, targets_alike, matched_alike
pub mod Alike
-- and run alike: body_alike, frame_alike, shares_alike
pub mod AlikeRun
-- a function whose local types move is alike: moved_alike, moved_locals
pub mod Upwards
-- TWO TYPE RECORDS
-- what the words of the merged record say: kind_first, part_first, kind_second, part_second
pub mod Merged
-- it holds both (first_embeds, second_embeds), and passes refusal 1: merged_passes
pub mod Passing
-- THE LAW: a function of either answers as before: merged_links
pub mod Linked
