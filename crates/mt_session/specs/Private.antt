-- What no public contract names: invariants and relations of private steps.
pub mod Keeping
pub mod Served
pub mod Settles
pub mod SoFar
