pub mod Clearing
pub mod Looking
pub mod Manners
pub mod Paths
pub mod Private
