pub mod Pairs
pub mod Openings
