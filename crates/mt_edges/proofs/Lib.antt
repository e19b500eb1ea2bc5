pub mod Adds
pub mod Chains
pub mod Growth
pub mod Members
pub mod Nodes
pub mod Reading
pub mod Walks
