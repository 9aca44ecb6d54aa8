mod Answers
pub mod Calls
mod Cells
pub mod Lawful
mod Moves
pub mod Order
pub mod Own
mod Nexts
mod Places
