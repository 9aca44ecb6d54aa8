pub mod Groups
pub mod Lives
pub mod Appending
pub mod Staged
pub mod Spends
pub mod Clients
mod Streams
mod Checkpoints
mod Bodies
mod Halves
mod Turns
mod Heads
mod Order
mod Fronts
mod ReadRecords
mod ReadHalves
mod Opens
mod Formats
