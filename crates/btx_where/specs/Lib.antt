pub mod Shown
pub mod Calls
pub mod Rests
pub mod Scenes
pub mod Lines
pub mod Notes
pub mod Events
