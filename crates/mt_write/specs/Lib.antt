pub mod Entry
pub mod Flight
pub mod Private
pub mod Reply
pub mod Short
