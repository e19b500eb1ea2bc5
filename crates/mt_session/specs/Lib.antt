pub mod Following
pub mod Outboxes
pub mod Private
pub mod Run
pub mod Served
pub mod Session
