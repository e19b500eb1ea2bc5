pub mod Lending
pub mod Seats
pub mod Private
pub mod Views
