pub mod Limits
pub mod Words
pub mod Askable
pub mod Comparing
