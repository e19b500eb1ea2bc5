-- What no public contract names: invariants and relations of private steps.
pub mod Given
pub mod Text
pub mod Waits
