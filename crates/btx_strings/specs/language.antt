pub mod Answers
pub mod Controls
pub mod Lengths
pub mod Positions
pub mod Purify
pub mod Case
pub mod Width
