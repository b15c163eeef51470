-- What the public calls promise.
pub mod Read
pub mod Unanswered
pub mod Distance
pub mod Compared
