pub mod Files
pub mod Answers
pub mod Fetches
pub mod Grammar
pub mod Names
pub mod Events
pub mod Notes
pub mod Job
