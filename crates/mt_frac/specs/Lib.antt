pub mod FractionOrder
pub mod Instants
pub mod Meeting
pub mod Polynomials
pub mod Private
pub mod Signs
