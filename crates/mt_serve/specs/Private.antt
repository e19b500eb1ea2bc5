-- What no public contract names: invariants and relations of private steps.
pub mod Accepting
pub mod Joining
pub mod Seating
pub mod Sitting
pub mod Summary
pub mod Tied
pub mod Working
