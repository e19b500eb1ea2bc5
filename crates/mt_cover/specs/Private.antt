-- What no public contract names: invariants and relations of private steps.
pub mod InPlane
pub mod Parts
pub mod Walk
