pub mod HoldLaws
pub mod ResultLaws
pub mod GateLaws
pub mod LineLaws
pub mod AnswerLaws
pub mod RuleLaws
