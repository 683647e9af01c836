-- What the calls on states for users promise (model's Promised), as theorems on their definitions (model's Calls). No hypothesis but the
-- call's answer. In the order in which a reader should meet them, each theorem above the file that has it:
-- what a call that accepts has tested, and how a call goes on where its tests pass
pub mod Tested
-- demand 1, the numbers of each call's refusals: projection_refuses, downcast_refuses, fold_refuses, unfold_refuses, join_refuses,
-- collect_refuses, unfolds_refuses, folds_refuses
pub mod Numbers
-- demand 2: a place used (call_used)
pub mod Used
-- a join (call_joined)
pub mod Joined
-- collecting (call_led, call_opened, call_settled), and exactly when it is refused with 6 or 7 (call_clashes, call_bare)
pub mod Collected
