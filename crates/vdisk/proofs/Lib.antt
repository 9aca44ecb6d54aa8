pub mod Past
pub mod Silent
pub mod Draws
pub mod Still
