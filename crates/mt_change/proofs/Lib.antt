pub mod Aims
pub mod Alterations
pub mod Changed
pub mod Decisions
pub mod Filling
pub mod Passed
pub mod Plans
