pub mod Congruence
pub mod Turning
pub mod Nexts
pub mod Facts
pub mod OneTurn
pub mod AllRounds
pub mod Starting
pub mod Telling
