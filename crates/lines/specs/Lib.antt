-- What it is to mark what is needed and to tell it in lines.
pub mod Written
pub mod Terms
pub mod Marked
pub mod Joins
pub mod Progress
