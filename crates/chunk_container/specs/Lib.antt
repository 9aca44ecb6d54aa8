pub mod Open
pub mod Stores
pub mod Lending
pub mod Rows
pub mod Bases
pub mod Calls
pub mod Pages
pub mod Appending
