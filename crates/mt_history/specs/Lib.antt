pub mod Followed
pub mod Printed
pub mod Private
pub mod Rebuilt
