pub mod Law
pub mod Private
pub mod Standby
