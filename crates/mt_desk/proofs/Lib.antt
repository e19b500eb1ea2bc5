pub mod Answered
pub mod Histories
pub mod Turning
