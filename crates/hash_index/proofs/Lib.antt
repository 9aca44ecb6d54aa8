pub mod PairOrder
pub mod Searches
pub mod SlotLaws
pub mod Alike
