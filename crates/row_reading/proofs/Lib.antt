pub mod Cells
pub mod PieceCells
pub mod Readable
pub mod Runs
pub mod Sums
pub mod Texts
