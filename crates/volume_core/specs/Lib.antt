pub mod Volumes
pub mod Lending
pub mod Wants
pub mod Replies
pub mod Sound
pub mod Bounds
pub mod States
pub mod Moves
