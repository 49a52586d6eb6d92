pub mod RuleLaws
pub mod TwiceLaws
pub mod StuckLaws
