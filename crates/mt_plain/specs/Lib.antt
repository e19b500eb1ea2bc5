pub mod Private
pub mod Tests
