pub mod Answering
pub mod Ending
pub mod Fit
pub mod Given
pub mod Private
pub mod Streams
pub mod Told
pub mod Waiting
