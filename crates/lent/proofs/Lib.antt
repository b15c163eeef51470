-- Laws of bits.
pub mod Bits
pub mod Ones
