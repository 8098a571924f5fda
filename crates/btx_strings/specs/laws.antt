pub mod Controls
pub mod Lengths
pub mod Case
pub mod WorkedSpecials
