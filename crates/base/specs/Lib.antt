-- What the theorems about trees (crate laws), records (crate records), the passes (crate solver) and a function's graph (crate graph)
-- stand on. In the order in which a reader should meet it:
-- case splits, tests as equations
pub mod Tests
-- bounds that contracts ask for
pub mod Ranges
-- laws of answers: cases, `Good`, what is accepted; `Accepted`; what is refused
pub mod Answer
-- the numbers with which an answer is refused: `Only`
pub mod Only
-- a fact of each element of a list: `Each`
pub mod Each
-- equal words in a row
pub mod Equal
-- words of a list: mapped, stored
pub mod Words
-- what is told beside a statement doesn't matter
pub mod Forgotten
-- tests, sums and counts over the numbers below n
pub mod Below
-- the numbers that are collected because they pass
pub mod Collected
-- the order of a join: `Semilattice`, `Above`
pub mod Order
-- the kinds of types as tests, and by cases
pub mod Kinds
-- the parts of a type, and the children of an open node
pub mod Parts
-- what a type record that passes refusal 1 says: `types_typed`; and local types that pass: `locals_typed`
pub mod Typed
-- what a type must say to pass: `says_passes`
pub mod Says
-- what a function record that passes refusal 2 says: `function_facts`
pub mod Function
