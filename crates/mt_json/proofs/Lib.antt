mod Converted
mod KeysShown
mod LeastOther
mod Members
pub mod OneLine
mod Plain
pub mod Words
