-- What no public contract names: invariants and relations of private steps.
pub mod Messages
pub mod Opening
pub mod Origin
pub mod Pulling
