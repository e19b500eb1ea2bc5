pub mod Asking
pub mod BoardSeat
pub mod Book
pub mod Changing
pub mod Private
pub mod Probing
pub mod Settling
pub mod Short
