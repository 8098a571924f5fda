pub mod Lengths
pub mod Breaking
pub mod Places
pub mod States
