pub mod Box
pub mod Cells
pub mod Layer
pub mod Private
pub mod Sliced
