pub mod Desk
pub mod Private
