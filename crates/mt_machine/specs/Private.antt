-- What no public contract names: invariants and relations of private steps.
pub mod Advising
pub mod Deciding
pub mod Hits
