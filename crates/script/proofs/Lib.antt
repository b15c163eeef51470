pub mod Cuts
pub mod Lacks
pub mod Oneline
pub mod Readable
pub mod Roundtrip
pub mod Trims
