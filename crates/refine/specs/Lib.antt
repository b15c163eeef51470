-- What refinement computes.
pub mod Askable
pub mod Born
pub mod Rounds
pub mod Refined
