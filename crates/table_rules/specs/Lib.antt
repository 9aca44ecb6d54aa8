pub mod Pairs
pub mod Found
pub mod Ids
pub mod Marks
pub mod Causes
