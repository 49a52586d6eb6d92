pub mod WordLaws
pub mod LineLaws
pub mod RunLaws
pub mod DigitLaws
pub mod PlaceLaws
pub mod WordsLaws
pub mod PartLaws
