pub mod Spellings
pub mod Values
pub mod Library
