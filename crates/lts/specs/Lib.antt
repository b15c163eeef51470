-- Labelled transition systems and what an observer can say of their states, from the bottom up.
pub mod Machine
pub mod Question
pub mod Decoding
pub mod Bisimulation
pub mod Formula
pub mod Line
pub mod Museum
