pub mod Belongs
pub mod ChunkBytes
pub mod Front
pub mod ListBytes
pub mod SettingsBytes
pub mod SettingsRead
pub mod Spelled
pub mod TextLists
