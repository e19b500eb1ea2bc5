pub mod Heights
pub mod Meeting
pub mod Private
pub mod Searching
