pub mod Bytes
pub mod Class
pub mod Elements
