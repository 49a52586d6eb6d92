pub mod Verdicts
pub mod CoverLaws
pub mod MeanLaws
pub mod SetLaws
pub mod RuleLaws
pub mod AnswerLaws
pub mod Theorems
pub mod CoverageTheorems
