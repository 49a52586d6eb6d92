pub mod Judging
pub mod Coverages
pub mod Rules
pub mod Promises
pub mod Answers
pub mod Added
