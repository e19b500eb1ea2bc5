pub mod Placing
pub mod Splitting
pub mod Rows
pub mod Sharing
