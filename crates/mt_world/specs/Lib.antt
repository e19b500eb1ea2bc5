pub mod Begun
pub mod Counted
pub mod Private
pub mod Reading
pub mod World
