pub mod Jobs
pub mod MemJobs
pub mod Private
pub mod Work
