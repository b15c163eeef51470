-- A drawing as a function of its text.
pub mod Lines
pub mod Decoding
pub mod Arrows
pub mod Model
pub mod Code
pub mod Facts
pub mod Shown
pub mod Written
