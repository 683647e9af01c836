-- The theorems about the two passes (numbered as in the crate solver), of a whole function that passes refusals 1, 2 and 4. In the order in
-- which a reader should meet them, each theorem above the file that has it:

-- a function's states, and that the laws of trees give all that is asked: frame_lattice, frame_collects, frame_trees
pub mod States
-- 2.-4. after an accepted first pass the second is accepted (second_accepted); what is stored is a state record's (kept_stored);
-- 6. THE CEILING: a stored state changes at most 262,656 times: changes_most; 5. demand 3 of an accepted call: whole_demand
pub mod Whole
-- demand 1: the numbers with which the passes refuse, 5, 6, 8 and 9 (passes_refuse), and the whole-function call (whole_refuses); what `ghosts`
-- prints (ghosts_answered)
pub mod Refused
-- with the numbers beside the statement record: what they say (numbers_right), of model's statement; demands 1 and 3 (told_refuses, told_demand)
pub mod Told
-- each number is at most 127, or the dash: found_small, numbers_small
pub mod Small
-- of a whole crate in one call
pub mod Crates
-- 5. DEMAND 3: demand_3, of model's statement
pub mod Demand
