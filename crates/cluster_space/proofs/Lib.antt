pub mod Counts
pub mod Exchange
pub mod Parts
