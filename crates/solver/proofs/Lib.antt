-- Theorems that rest on those that the must-fail edits make false, and on others of specs/. Each file goes on where the file of the same
-- name in specs/ ends; what is in it is said in specs/Lib.
pub mod Along
pub mod AlongWhole
pub mod Canon
pub mod Changes
pub mod Demand
pub mod Elaborate
pub mod Fuel
pub mod Refusals
pub mod Told
pub mod Whole
