pub mod EveryLaws
pub mod SameLaws
pub mod TextLaws
pub mod DecimalLaws
pub mod WritingLaws
