-- What no public contract names: invariants and relations of private steps.
pub mod Ahead
pub mod Body
pub mod Boxed
pub mod Clear
pub mod Finds
pub mod Indexed
pub mod Prepared
