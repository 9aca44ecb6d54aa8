pub mod BaseReads
pub mod Reading
