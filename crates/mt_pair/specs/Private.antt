-- What no public contract names: invariants and relations of private steps.
pub mod Below
pub mod Cases
pub mod Gap
pub mod Held
pub mod High
pub mod Span
pub mod Together
pub mod Turning
