-- Two drawings as one question.
pub mod Joined
pub mod Asks
pub mod Shown
