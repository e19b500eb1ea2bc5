-- What no public contract names: invariants and relations of private steps.
pub mod ConflictList
pub mod Kept
pub mod Losing
pub mod Made
pub mod Merging
pub mod Stale
pub mod Window
