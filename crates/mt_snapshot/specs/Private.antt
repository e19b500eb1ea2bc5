-- What no public contract names: invariants and relations of private steps.
pub mod Kept
pub mod Order
pub mod Trying
