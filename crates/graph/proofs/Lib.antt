-- Theorems that rest on those that the must-fail edits make false, and on others of specs/. Each file goes on where the file of the same
-- name in specs/ ends; what is in it is said in specs/Lib.
pub mod Demand
pub mod Enders
pub mod Grammar
pub mod Items
pub mod Lawful
pub mod Places
pub mod Points
pub mod Ranges
pub mod Targets
pub mod Told
pub mod Used
