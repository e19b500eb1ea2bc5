pub mod Advice
pub mod Books
pub mod Renewals
pub mod Replying
pub mod Stays
pub mod Turning
