pub mod Walking
pub mod Skipping
pub mod Adding
pub mod Firsts
pub mod Decoded
pub mod Matched
