-- What no public contract names: invariants and relations of private steps.
pub mod Kept
pub mod Renewed
pub mod Sound
pub mod Stage
pub mod Unadded
