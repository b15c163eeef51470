-- The step of each loop, and what all of them give of the link.
pub mod Slices
pub mod Splitting
pub mod Marking
pub mod Extending
pub mod Transitions
pub mod Linking
pub mod Writing
