pub mod Writes
pub mod Pieces
pub mod Breaking
pub mod Breakers
