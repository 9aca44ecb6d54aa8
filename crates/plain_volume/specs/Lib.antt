pub mod Volume
pub mod Step
pub mod Replies
pub mod Laws
pub mod Rows
pub mod Files
