pub mod Labelling
pub mod Moves
pub mod Both
