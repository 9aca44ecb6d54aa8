pub mod Pairs
pub mod Ordered
pub mod Probe
pub mod Slots
pub mod Calls
