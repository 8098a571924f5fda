pub mod Content
pub mod Slots
pub mod Steps
pub mod LongStrings
pub mod Stacks
pub mod Variables
