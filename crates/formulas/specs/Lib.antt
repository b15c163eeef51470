-- What refinement keeps in lent words, and what each step of adding a formula does to them.
pub mod Link
pub mod Marks
pub mod Splits
pub mod Adding
