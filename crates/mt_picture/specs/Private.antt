-- What no public contract names: invariants and relations of private steps.
pub mod Asking
pub mod Brought
pub mod Candidates
pub mod Effects
pub mod Entries
pub mod Hits
pub mod Holding
pub mod Known
pub mod Places
pub mod Putting
pub mod Stamps
