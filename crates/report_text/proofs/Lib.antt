pub mod LineLaws
pub mod ClassLaws
pub mod LengthLaws
pub mod ReportLaws
pub mod CutLaws
