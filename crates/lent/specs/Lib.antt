-- What is kept in lent words.
pub mod Bits
