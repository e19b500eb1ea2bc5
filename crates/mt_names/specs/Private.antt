-- What no public contract names: invariants and relations of private steps.
pub mod Naming
pub mod Rows
