pub mod Files
pub mod Product
pub mod Contents
pub mod Places
