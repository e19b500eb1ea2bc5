-- What no public contract names: invariants and relations of private steps.
pub mod Bands
pub mod Corners
pub mod Field
pub mod FieldReading
pub mod Row
