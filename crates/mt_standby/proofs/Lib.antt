pub mod CaughtUp
pub mod Told
