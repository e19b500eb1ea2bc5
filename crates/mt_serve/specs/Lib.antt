pub mod Closing
pub mod Private
pub mod Seating
pub mod Serving
pub mod Sitting
pub mod Summary
pub mod Tied
pub mod Working
