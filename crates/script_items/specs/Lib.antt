pub mod Input
pub mod Script
pub mod Reading
