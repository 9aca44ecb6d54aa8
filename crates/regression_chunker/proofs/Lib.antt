pub mod Algebra
pub mod Decided
pub mod Places
pub mod Ring
pub mod Sizes
pub mod Turns
pub mod Unique
