-- Names by number.
pub mod Places
pub mod Table
pub mod Numbered
