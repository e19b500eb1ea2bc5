-- What no public contract names: invariants and relations of private steps.
pub mod Lines
pub mod Volume
pub mod Telling
