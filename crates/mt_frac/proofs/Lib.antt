pub mod Fractions
pub mod Openness
pub mod Seconds
mod Overflow
mod Convexity
mod Cuts
mod Meets
mod Parts
mod Comparisons
