pub mod Writing
pub mod Known
pub mod Passing
pub mod Counted
pub mod Appending
pub mod OneFormula
