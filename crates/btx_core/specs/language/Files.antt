pub mod Found
pub mod Lines
pub mod Counts
pub mod Databases
