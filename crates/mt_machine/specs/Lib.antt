pub mod Advising
pub mod Private
