pub mod WordLaws
pub mod NumberLaws
pub mod SpelledLaws
pub mod LayoutLaws
pub mod QuoteLaws
pub mod MeaningLaws
pub mod RangeLaws
