pub mod Accepted
pub mod Beginning
pub mod Linking
pub mod Messages
pub mod Opening
pub mod Private
pub mod Pulling
