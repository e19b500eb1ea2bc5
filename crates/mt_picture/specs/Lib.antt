pub mod Asked
pub mod Laws
pub mod Private
pub mod Sizes
pub mod Stamps
pub mod Story
