pub mod Counts
pub mod Logging
pub mod Readings
pub mod Asked
pub mod Faults
pub mod Names
pub mod Places
