-- Transitions in words, chained by their source, and sets of labels.
pub mod System
pub mod Labels
pub mod Matching
