-- The theorems about the two passes, over any states: 1 ways, 2 termination, 3 solution, 4 second pass, 5 demand 3, 6 ceiling. There is
-- nothing of trees in them: `Lawful` (Laws) is all that is asked of the states, and the crates graph and demand show that a function's
-- states meet it. In the order in which a reader should meet them, each theorem above the file that has it:

-- TOOLS
-- members of a list, lists in which no number comes twice, functions changed at one number
pub mod Lists
-- a loop by fuel: with a number that falls at each turn the fuel never runs out, and one turn unfolds by a law: run_round, run_ends
pub mod Loop
-- the waiting number of lowest rank: lowest_none, lowest_some, lowest_rank, lowest_is, lowest_same
pub mod Lowest
-- statements marked at a point, and what stands at a point: at_mark, at_append
pub mod Lines
-- WHAT IS ASKED
-- the replay over any states, by a player that says how one block is replayed, and lists of jumps: `replay`, `Path`
pub mod Player
-- the hypotheses: `Lawful`
pub mod Laws
-- THE FIRST PASS
-- all arrivals of an outcome, and an outcome that is not refused: `Every`, `Calm`
pub mod Outcome
-- a block is left by its listed targets; a visit brings good states to join points: exit_listed, visit_fair
pub mod Arrivals
-- 2. TERMINATION: the load falls with every round (solve_falls), so one round unfolds by a law with no fuel in it (solve_round)
pub mod Termination
-- 3. SOLUTION: what an accepted first pass leaves: infer_solves
pub mod Solution
-- 6. THE CEILING: a stored state changes at most `top` times after its first arrival: changes_ceiling, changes_from_round
pub mod Changes
-- 1. WAYS: no block is entered twice on one way of blocks entered at once (way_once), so a visit never runs out of blocks: visit_step
pub mod Fuel
-- THE SECOND PASS
-- what it takes down of an outcome: take_gives
pub mod Told
-- 4. SECOND PASS: it is never refused, ends, and visits every stored block exactly once: elaborate_works; elaborate_falls, elaborate_round
pub mod Elaborate
-- the one state at the start of each block: at_same, at_through
pub mod Canon
-- how often a block is entered in an outcome: enter_lone, enter_edge
pub mod Count
-- an outcome that enters a block once records that block's own at its points, once: enter_one
pub mod Parts
-- 4. again: what is recorded at a block's points is what one run of it records, in order: record_at
pub mod Story
-- DEMAND 3
-- along a list of jumps the replay stays in these states: play_comes
pub mod Demand
-- 5. DEMAND 3 of both passes (demand_3); after an accepted first pass the second is accepted (second_accepted)
pub mod Whole
-- REFUSALS AND CODE
-- a refusal is a block's own, or 9: infer_refused, analyse_refused
pub mod Refusals
-- the same visit in the style of code: visit_agree, opening_agree
pub mod Direct
-- MAPS BETWEEN FRAMES
-- a map of states that goes along with two frames leads a visit and the first pass of the one to those of the other: `Along`, infer_along
pub mod Along
-- and the second pass and the whole: elaborate_along, analyse_along, carries_along
pub mod AlongWhole
