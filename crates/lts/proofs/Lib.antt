pub mod Encoding
pub mod Chocolate
