pub mod Bools
pub mod Bytes
pub mod Orders
