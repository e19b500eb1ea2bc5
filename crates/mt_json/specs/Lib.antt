pub mod Field
pub mod Keys
pub mod Line
pub mod Private
pub mod Shown
pub mod View
