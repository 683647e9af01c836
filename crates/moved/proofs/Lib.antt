-- Theorems that rest on those that the must-fail edits make false, and on others of specs/. Each file goes on where the file of the same
-- name in specs/ ends; what is in it is said in specs/Lib.
pub mod Linked
pub mod Moves
pub mod Passing
