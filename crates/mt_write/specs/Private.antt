-- What no public contract names: invariants and relations of private steps.
pub mod Joined
pub mod Flags
pub mod Object
pub mod Plan
pub mod Puts
