-- What no public contract names: invariants and relations of private steps.
pub mod Calls
pub mod Gathering
pub mod HasRead
pub mod MemSink
pub mod MemSource
pub mod Reading
