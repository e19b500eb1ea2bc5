pub mod Ring
pub mod Signs
pub mod Sizes
