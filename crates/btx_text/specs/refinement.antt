pub mod Counts
pub mod Elements
pub mod Lowered
pub mod Parts
pub mod Texts
