pub mod InputLaws
pub mod LineLaws
pub mod PayloadLaws
pub mod ItemLaws
