pub mod Rows
pub mod Sharing
