pub mod JoinLaws
pub mod NameLaws
pub mod MaskLaws
pub mod ReadLaws
pub mod RoundTrip
pub mod FirstFaulty
pub mod NumberLaws
pub mod StepLaws
