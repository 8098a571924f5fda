pub mod Breaking
pub mod Breakers
pub mod Parts
