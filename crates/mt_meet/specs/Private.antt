-- What no public contract names: invariants and relations of private steps.
pub mod Boxing
pub mod Heights
pub mod Marking
pub mod Meeting
pub mod Pieces
pub mod Searching
pub mod Stepping
