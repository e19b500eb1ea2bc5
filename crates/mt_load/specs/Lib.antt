pub mod Draws
pub mod Input
pub mod Load
pub mod Private
pub mod Summary
