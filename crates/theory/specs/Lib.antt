-- Rounds of refinement, the list of formulas that they make, and what is proved of them, from the bottom up.
pub mod Together
pub mod Blocks
pub mod Births
pub mod Rows
pub mod Told
pub mod Parts
pub mod Museum
