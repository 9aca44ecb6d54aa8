pub mod Eaches
pub mod Kept
pub mod Times
pub mod Marking
