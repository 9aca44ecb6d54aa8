pub mod Own
pub mod Holes
pub mod Cells
pub mod Beside
pub mod Filters
pub mod Recalling
