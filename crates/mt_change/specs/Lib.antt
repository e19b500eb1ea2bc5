pub mod Altered
pub mod Deciding
pub mod Sound
