pub mod DirectStyles
pub mod Written
pub mod Answered
pub mod RunFaults
