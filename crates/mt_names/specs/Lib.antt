pub mod Naming
pub mod Private
