pub mod TestLaws
pub mod RuleLaws
