-- What no public contract names: invariants and relations of private steps.
pub mod Steps
pub mod Turning
pub mod Views
