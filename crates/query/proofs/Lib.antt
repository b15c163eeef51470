pub mod Choosing
pub mod Cuts
pub mod Numbers
pub mod Roundtrip
pub mod Sizes
pub mod Texts
pub mod Wordwise
