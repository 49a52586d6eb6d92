pub mod FaultyLaws
pub mod CatchLaws
pub mod RuleLaws
pub mod OtherLaws
pub mod UnchangedLaws
pub mod UntouchedLaws
